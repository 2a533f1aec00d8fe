-- The walk finds the first accepted list and counts the lists up to it, and nothing else is such a list or such a number.
use Prim.Native.Nat.{ℕ, ◌≤◌}
use mathlib.Core.Path.{◌≡◌, refl, sym, ap, subst}
use mathlib.Core.Logic.{◌⊎◌, inl, inr, ◌↔◌}
use mathlib.Core.Bool.{Bool}
use mathlib.Core.List.{List, [], ◌∷◌, ◌++◌}
use mathlib.Core.Option.{Option, none, some}
use native.Mathlib.Omega.{arith}
use lib.ListN.{length, length-append}
use Rattle.basics.specs.Lists.{Among}
use Rattle.rules.specs.Tables.{Table}
use Rattle.rules.specs.Progression.{State, begin}
use Rattle.rules.specs.Operators.{Operator}
use Rattle.rules.specs.Searches.{led, Applicable, Earlier, PlanWithin, Found, IsPlan, NoLater, Applied, NumberApplied}
use Rattle.rules.specs.Walks.{Walked, walk}
use Rattle.sought.specs.Findings.{NothingApplies}
use Rattle.sought.proofs.AmongLaws.{no_longer}
use Rattle.sought.proofs.OrderLaws.{shorter_first, one_order}
use Rattle.sought.proofs.TreeLaws.{tree, tree_sized, sized_tree, tree_rises}
use Rattle.sought.proofs.SeekLaws.{seek, passed, good, walk_seek, First, seeks, passed_count, passed_distinct, passed_exactly}

module _ (b f : ℕ) (t : Table) (l : ℕ) where
  -- All applicable lists of 1 to l operators from the start, and which of them are complete at their end.
  abbrev all : List (List Operator)
  all = tree b f t l (begin t)

  abbrev done : List Operator → Bool
  done = good f t (begin t)

  -- The empty list is never accepted: from the start, the starting task is on the stack.
  in_tree : (ps : List Operator) → PlanWithin b f t l ps → Among ps all
  in_tree [] q = absurd q.accepted.complete
  in_tree (p ∷ ps) q =
      sized_tree b f t l (begin t) (p ∷ ps) (record { applicable = q.accepted.applicable; short = q.short }) (omega arith)

  first_plan : (p : Option (List Operator)) → First done all p → IsPlan b f t l p
  first_plan none q = λ ps a. q ps (in_tree ps a) a.accepted.complete
  first_plan (some os) q =
      let z = (tree_sized b f t l (begin t) os q.0).0 in
      record {
        plan = record { accepted = record { applicable = z.applicable; complete = q.1 }; short = z.short };
        first = λ ps a e. q.2 ps (in_tree ps a) a.accepted.complete e;
      }

  -- "the first accepted plan of at most L operators in that order", or that there is none.
  pub walk_plan : IsPlan b f t l (walk b f t l (begin t)).plan
  walk_plan =
      first_plan (walk b f t l (begin t)).plan
      (subst (λ (w : Walked). First done all w.plan) (sym (walk_seek b f t l (begin t))) (seeks done all (tree_rises b f t l (begin t))))

  seek_count : NumberApplied b f t l (seek done all).plan (seek done all).count
  seek_count =
      record {
        lists = passed done all;
        size = passed_count done all;
        distinct = passed_distinct done all (tree_rises b f t l (begin t));
        exactly = λ os. both os (passed_exactly done all (tree_rises b f t l (begin t)) os);
      }
    where
      both : (os : List Operator) → Among os (passed done all) ↔ (Among os all × NoLater (seek done all).plan os)
          → Among os (passed done all) ↔ Applied b f t l (seek done all).plan os
      both os e = (
        (λ m.
            let q = e.0 m in
            let z = tree_sized b f t l (begin t) os q.0 in
            record { applicable = z.0.applicable; some = z.1; short = z.0.short; no_later = q.1 }),
        (λ q. e.1 (sized_tree b f t l (begin t) os (record { applicable = q.applicable; short = q.short }) q.some, q.no_later)),
      )

  -- "exactly the number of applicable operator lists of 1 to L operators .. that come no later than the plan found".
  pub walk_count : NumberApplied b f t l (walk b f t l (begin t)).plan (walk b f t l (begin t)).count
  walk_count = subst (λ (w : Walked). NumberApplied b f t l w.plan w.count) (sym (walk_seek b f t l (begin t))) seek_count

  -- Every list that the plan found begins with comes before it, and so it is counted.
  pub beginning_counted : (os : List Operator) (o : Operator) (more : List Operator) → Found b f t l (os ++ (o ∷ more)) → 1 ≤ length os
      → Applied b f t l (some (os ++ (o ∷ more))) os
  beginning_counted os o more q n =
      record {
        applicable = front (begin t) os (o ∷ more) q.plan.accepted.applicable;
        some = n;
        short = omega (arith, q.plan.short, length-append os (o ∷ more));
        no_later = inr (shorter_first os o more);
      }
    where
      front : (s : State) (os ps : List Operator) → Applicable b f t s (os ++ ps) → Applicable b f t s os
      front s [] ps h = tt
      front s (p ∷ os) ps h = (h.0, front (led f t s p) os ps h.1)

  -- There is one such plan, and one such number.
  pub one_plan : (p q : Option (List Operator)) → IsPlan b f t l p → IsPlan b f t l q → p ≡ q
  one_plan none none g h = refl
  one_plan none (some q) g h = absurd (g q h.plan)
  one_plan (some p) none g h = absurd (h p g.plan)
  one_plan (some p) (some q) g h = go (one_order b f t (begin t) p q g.plan.accepted.applicable h.plan.accepted.applicable)
    where
      go : Earlier p q ⊎ ((p ≡ q) ⊎ Earlier q p) → ◌≡◌ {A = Option (List Operator)} (some p) (some q)
      go (inl e) = absurd (h.first p g.plan e)
      go (inr (inl e)) = ap {B = Option (List Operator)} some e
      go (inr (inr e)) = absurd (g.first q h.plan e)

  pub one_count : (p : Option (List Operator)) (m n : ℕ) → NumberApplied b f t l p m → NumberApplied b f t l p n → m ≡ n
  one_count p m n g h =
      omega (
        arith,
        no_longer g.lists h.lists g.distinct (λ os q. (h.exactly os).1 ((g.exactly os).0 q)),
        no_longer h.lists g.lists h.distinct (λ os q. (g.exactly os).1 ((h.exactly os).0 q)),
        g.size,
        h.size,
      )

  -- So the walk is all that meets the two.
  pub walk_only : (p : Option (List Operator)) (n : ℕ) → IsPlan b f t l p → NumberApplied b f t l p n
      → walk b f t l (begin t) ≡ record { plan = p; count = n }
  walk_only p n g h =
      let w = walk b f t l (begin t) in
      let e = one_plan w.plan p walk_plan g in
      let d = one_count p w.count n (subst (λ (q : Option (List Operator)). NumberApplied b f t l q w.count) e walk_count) h in
      λ i. record { plan = e i; count = d i }

  -- No list is counted exactly where no operator may be applied at the start.
  pub none_applied : 1 ≤ l → (p : Option (List Operator)) → IsPlan b f t l p → NumberApplied b f t l p 0 ↔ NothingApplies b f t
  none_applied low p q = ((λ n. go p q (λ os a. nobody os n.lists n.size ((n.exactly os).1 a))), back)
    where
      nobody : (os : List Operator) (xs : List (List Operator)) → length xs ≡ 0 → Among os xs → ⊥
      nobody os [] e m = m
      nobody os (x ∷ xs) e m = omega arith

      go : (p : Option (List Operator)) → IsPlan b f t l p → ((os : List Operator) → Applied b f t l p os → ⊥) → NothingApplies b f t
      go none q n = λ o h. n (o ∷ []) (record { applicable = (h, tt); some = omega arith; short = omega arith; no_later = tt })
      go (some os) q n =
          let z = tree_sized b f t l (begin t) os (in_tree os q.plan) in
          absurd (n os (record { applicable = z.0.applicable; some = z.1; short = z.0.short; no_later = inl refl }))

      first : NothingApplies b f t → (os : List Operator) → Applicable b f t (begin t) os → 1 ≤ length os → ⊥
      first h [] a k = omega arith
      first h (o ∷ os) a k = h o a.0

      back : NothingApplies b f t → NumberApplied b f t l p 0
      back h =
          record {
            lists = [];
            size = refl;
            distinct = tt;
            exactly = λ os. ((λ m. absurd m), (λ a. first h os a.applicable a.some));
          }
