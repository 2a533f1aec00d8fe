-- A table that was read is valid.
use mathlib.Core.Path.{◌≡◌, refl, ap, sym, subst, ◌∙◌}
use mathlib.Core.List.{List, [], ◌∷◌, ◌++◌}
use mathlib.Core.Bool.{Bool, true, false}
use mathlib.Core.Logic.{⊎_elim}
use lib.ListN.{length, get_or, length-append, get_or-append}
use lib.Seq.{get_or_at}
use lib.Dec.{ltb}
use native.Mathlib.Nat.{eq-or-lt_of_le}
use Prim.Native.Nat.{ℕ, zero, suc, ◌+◌, ◌-◌, ◌≤◌, ◌<◌}
use native.Mathlib.Omega.{arith}
use Rattle.rules.specs.Reasons.{out_of_range, not_there, bytes_after_table}
use Rattle.rules.specs.Limits.{most_facts, most_actions, most_tasks, most_methods, most_subtasks, most_cost}
use Rattle.basics.specs.Readings.{Reading, got, bad, then, many}
use Rattle.rules.specs.Numbers.{ranged}
use Rattle.rules.specs.Tables.{Header, Action, Method, Table, all_facts, no_action, no_method, task_count, method_count, method, header, read_action, read_method, closed, decode}
use Rattle.laws.specs.Valid.{Bounded, GoodAction, GoodMethod, Valid}
use Rattle.laws.proofs.NumberLaws.{ranged_got}

-- a reading that ends well: its first part did, and what followed did
pub each : {A B P : Type 0} (o : Reading A) (f : A → ℕ → Reading B) {b : B} {n : ℕ} → then o f ≡ got b n → ((a : A) (at : ℕ) → o ≡ got a at → f a at ≡ got b n → P) → P
each (got a at) f h k = k a at refl h
each (bad why at) f h k = let z : ◌≡◌ {A = ℕ} 0 1 = cc in absurd (omega arith)

pub bounded : (s : List ℕ) (at : ℕ) {h : Header} {next : ℕ} → header s at ≡ got h next → Bounded h
unfolding header
bounded s at {h} {next} e =
    each (ranged s 0 most_facts out_of_range at) _ e λ facts p1 e1 g1.
    each (ranged s 0 most_actions out_of_range p1) _ g1 λ actions p2 e2 g2.
    each (ranged s 1 (most_tasks - actions) out_of_range p2) _ g2 λ abstracts p3 e3 g3.
    each (ranged s 0 most_methods out_of_range p3) _ g3 λ methods p4 e4 g4.
    each (ranged s actions (actions + abstracts - 1) not_there p4) _ g4 λ start p5 e5 g5.
    each (ranged s 0 (all_facts facts) not_there p5) _ g5 λ init p6 e6 g6.
    each (ranged s 0 (all_facts facts) not_there p6) _ g6 λ goal p7 e7 g7.
    let q : record { facts = facts; actions = actions; abstracts = abstracts; methods = methods; start = start; init = init; goal = goal } ≡ h = cc in
    subst Bounded q
    (record {
      facts = (ranged_got _ _ _ _ _ e1).1;
      actions = (ranged_got _ _ _ _ _ e2).1;
      abstracts = (ranged_got _ _ _ _ _ e3).0;
      tasks = (ranged_got _ _ _ _ _ e3).1;
      methods = (ranged_got _ _ _ _ _ e4).1;
      start_low = (ranged_got _ _ _ _ _ e5).0;
      start_high = (ranged_got _ _ _ _ _ e5).1;
      init = (ranged_got _ _ _ _ _ e6).1;
      goal = (ranged_got _ _ _ _ _ e7).1;
    })

-- n readings that end well: there are n, and each is what a reading gives
module _ {A : Type 0} (p : ℕ → Reading A) (from : ℕ) (P : A → Type 0) (d : A) (one : (at : ℕ) (x : A) (n : ℕ) → p at ≡ got x n → P x) where
  pub many_all : (n : ℕ) {xs : List A} {at : ℕ} → many p n from ≡ got xs at → (length xs ≡ n) × ((k : ℕ) → k < n → P (get_or xs k d))
  unfolding many
  many_all zero {xs} {at} e =
      let q : [] ≡ xs = cc in
      (ap length (sym q), λ k l. absurd (omega arith))
  many_all (suc n) {xs} {at} e =
      each (many p n from) _ e λ ys p1 e1 g1.
      each (p p1) _ g1 λ y p2 e2 g2.
      let r = many_all n e1 in
      let q : ys ++ (y ∷ []) ≡ xs = cc in
      let l : length xs ≡ suc n = ap length (sym q) ∙ length-append ys (y ∷ []) ∙ omega (arith, r.0) in (
        l,
        λ k h. subst (λ (zs : List A). P (get_or zs k d)) q
            (⊎_elim
            (λ z. subst P (sym (get_or_at ys y [] d k (r.0 ∙ sym z))) (one p1 y p2 e2))
            (λ m. subst P (sym (get_or-append ys (y ∷ []) d k (omega (arith, r.0)))) (r.1 k m))
            (eq-or-lt_of_le {n = k} {m = n} (omega arith))),
      )

good_action : (s : List ℕ) (h : Header) (at : ℕ) (a : Action) (n : ℕ) → read_action s (all_facts h.facts) at ≡ got a n → GoodAction h a
unfolding read_action
good_action s h at a n e =
    each (ranged s 0 (all_facts h.facts) not_there at) _ e λ needs p1 e1 g1.
    each (ranged s 0 (all_facts h.facts) not_there p1) _ g1 λ adds p2 e2 g2.
    each (ranged s 0 (all_facts h.facts) not_there p2) _ g2 λ dels p3 e3 g3.
    each (ranged s 0 most_cost out_of_range p3) _ g3 λ cost p4 e4 g4.
    let q : record { needs = needs; adds = adds; dels = dels; cost = cost } ≡ a = cc in
    subst (GoodAction h) q
    (record {
      needs = (ranged_got _ _ _ _ _ e1).1;
      adds = (ranged_got _ _ _ _ _ e2).1;
      dels = (ranged_got _ _ _ _ _ e3).1;
      cost = (ranged_got _ _ _ _ _ e4).1;
    })

good_method : (s : List ℕ) (h : Header) (at : ℕ) (m : Method) (n : ℕ) → read_method s h.actions (h.actions + h.abstracts - 1) at ≡ got m n → GoodMethod h m
unfolding read_method
good_method s h at m n e =
    each (ranged s h.actions (h.actions + h.abstracts - 1) not_there at) _ e λ head p1 e1 g1.
    each (ranged s 0 most_subtasks out_of_range p1) _ g1 λ c p2 e2 g2.
    each (many (ranged s 0 (h.actions + h.abstracts - 1) not_there) c p2) _ g2 λ subs p3 e3 g3.
    let q : record { head = head; subs = subs } ≡ m = cc in
    let r = many_all (ranged s 0 (h.actions + h.abstracts - 1) not_there) p2 (λ x. x ≤ h.actions + h.abstracts - 1) 0 (λ at x n e. (ranged_got _ _ _ _ _ e).1) c e3 in
    subst (GoodMethod h) q
    (record {
      low = (ranged_got _ _ _ _ _ e1).0;
      high = (ranged_got _ _ _ _ _ e1).1;
      count = omega (arith, r.0, (ranged_got _ _ _ _ _ e2).1);
      subs = λ j l. r.1 j (omega (arith, r.0));
    })

closed_got : (s : List ℕ) (t u : Table) (at n : ℕ) (b : Bool) → ltb at (length s) ≡ b → closed s t at ≡ got u n → t ≡ u
unfolding closed
closed_got s t u at n true e h =
    let g : bad bytes_after_table at ≡ got u n = rw e at h in
    let z : ◌≡◌ {A = ℕ} 0 1 = cc in absurd (omega arith)
closed_got s t u at n false e h =
    let g : got t at ≡ got u n = rw e at h in
    cc

pub valid : (s : List ℕ) (t : Table) (n : ℕ) → decode s ≡ got t n → Valid t
unfolding decode
valid s t n e =
    each (header s 0) _ e λ h p1 e1 g1.
    each (many (read_action s (all_facts h.facts)) h.actions p1) _ g1 λ acts p2 e2 g2.
    each (many (read_method s h.actions (h.actions + h.abstracts - 1)) h.methods p2) _ g2 λ ms p3 e3 g3.
    let q = closed_got s (record { head = h; actions = acts; methods = ms }) t p3 n (ltb p3 (length s)) refl g3 in
    let a = many_all (read_action s (all_facts h.facts)) p1 (GoodAction h) no_action (good_action s h) h.actions e2 in
    let m = many_all (read_method s h.actions (h.actions + h.abstracts - 1)) p2 (GoodMethod h) no_method (good_method s h) h.methods e3 in
    subst Valid q (record { head = bounded s 0 e1; actions = a.0; methods = m.0; action = a.1; method = m.1 })

-- A head is a task.
pub head_low : (t : Table) → Valid t → (k : ℕ) → k < method_count t → (method t k).head < task_count t
head_low t v k l = omega (arith, (v.method k l).high, v.head.abstracts)
