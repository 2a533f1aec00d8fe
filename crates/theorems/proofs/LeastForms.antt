-- The least bounds of the forms beside each other and beside complete runs, and of tables that differ in facts.
use Prim.Native.Nat.{ℕ, zero, suc, ◌+◌, ◌≤◌, ◌<◌}
use mathlib.Core.Path.{◌≡◌, refl, sym, ap, ap₂, subst, ◌∙◌}
use mathlib.Core.Logic.{◌↔◌}
use mathlib.Core.Bool.{Bool, ◌&&◌, not, cond}
use mathlib.Core.List.{List, [], ◌∷◌, ◌++◌}
use native.Mathlib.Omega.{arith}
use native.Mathlib.Decide.{dec_lt}
use lib.ListN.{length, length-append, set}
use lib.Dec.{T, leb, ltb, eqb, leb→le, le→leb, ltb→lt}
use Rattle.rules.specs.Limits.{most_bound}
use Rattle.rules.specs.Tables.{Table, action_count, method_count, start_task, method}
use Rattle.rules.specs.Progression.{State, Step, act, mth, fits, moved, enabled, begin, prefix, stays, due, resting}
use Rattle.rules.specs.LeastBounds.{Clears, Clearable, method_bound, improve, lowers, round, settled, rounds, total, first, bound_of, up_to_most, least_bound}
use Rattle.laws.specs.Valid.{Valid}
use Rattle.laws.specs.Bounds.{Owed}
use Rattle.laws.proofs.TestLaws.{and_l, and_r}
use Rattle.laws.proofs.RestLaws.{low_rests, rests_more, prefix_owed, none_due}
use Rattle.laws.proofs.RoundLaws.{computed}
use Rattle.theorems.specs.Runs.{Run, CompleteRun}
use Rattle.theorems.specs.Hints.{SameStacks, Compared, Reaches}

-- In form 0 nothing is ever due and every subtask stays: the height counts at every point, as document 01 had it.
never_due : (t : Table) (x : Step) → due 0 t 0 x ≡ 0
never_due t (act k) = refl
never_due t (mth k) = refl

pub every_point : (b : ℕ) (t : Table) (x : Step) (st : List ℕ) → resting b (due 0 t 0 x) st ≡ leb (length st) b
every_point b t x st = ap (λ (o : ℕ). resting b o st) (never_due t x)

pub all_stay : (t : Table) (k : ℕ) → stays 0 t k ≡ (method t k).subs
all_stay t k = refl

-- What a bound clears a greater one clears: the least bound says which do.
module _ (f : ℕ) (t : Table) where
  clears_more : (b b' : ℕ) → b ≤ b' → (xs : List Step) (o : ℕ) (st : List ℕ) → Clears b f t o st xs → Clears b' f t o st xs
  clears_more b b' l [] o st r = r
  clears_more b b' l (x ∷ xs) o st r = (r.0, rests_more b b' (due f t o x) _ l r.1, clears_more b b' l xs (due f t o x) _ r.2)

  pub clearable_from : Valid t → (b : ℕ) → b ≤ most_bound → Clearable b f t ↔ ((1 ≤ least_bound f t) × (least_bound f t ≤ b))
  clearable_from valid b h = (
    λ c. (computed f t valid).smallest b h c,
    λ p. let q = ((computed f t valid).clears p.0).1 in (le→leb 1 b (omega arith), (q.1.0, clears_more _ b p.1 q.1.0 0 _ q.1.1)),
  )

-- Steps that clear a stack in form 0 clear it in every form: fewer points count.
plain_clears : (f : ℕ) (t : Table) (b : ℕ) (xs : List Step) (o : ℕ) (st : List ℕ) → Clears b 0 t 0 st xs → Clears b f t o st xs
plain_clears f t b [] o st r = r
plain_clears f t b (x ∷ xs) o st r =
    let h : T (leb (length (moved t st x)) b) = subst T (every_point b t x (moved t st x)) r.1 in
    let q : Clears b 0 t 0 (moved t st x) xs = subst (λ (n : ℕ). Clears b 0 t n (moved t st x) xs) (never_due t x) r.2 in
    (r.0, low_rests b (due f t o x) _ (leb→le _ _ h), plain_clears f t b xs (due f t o x) _ q)

-- Steps that clear a stack in any form clear it in form 0 with 7 more: between two points of rest a method puts up to 8 tasks
-- in the place of one.
module _ (f : ℕ) (t : Table) (valid : Valid t) (b : ℕ) where
  clears_plain : (xs : List Step) (o : ℕ) (st : List ℕ) → Owed (action_count t) o st → T (resting b o st) → length st ≤ b + 7
      → Clears b f t o st xs
      → Clears (b + 7) 0 t 0 st xs
  clears_plain [] o st w h l r = r
  clears_plain (act k ∷ xs) o [] w h l r = absurd (search (and_l, and_r, r.0))
  clears_plain (mth k ∷ xs) o [] w h l r = absurd (search (and_l, and_r, r.0))
  clears_plain (act k ∷ xs) zero (c ∷ st) w h l r =
      let n : length st ≤ b + 7 = omega arith in
      (r.0, le→leb _ _ n, clears_plain xs zero st tt r.1 n r.2)
  clears_plain (act k ∷ xs) (suc o) (c ∷ st) w h l r =
      let n : length st ≤ b + 7 = omega arith in
      (r.0, le→leb _ _ n, clears_plain xs o st w.1 r.1 n r.2)
  clears_plain (mth k ∷ xs) zero (c ∷ st) w h l r =
      let m : T (ltb k (method_count t)) = search (and_l, and_r, r.0) in
      let i : suc (length st) ≤ b = leb→le _ _ h in
      let n : length ((method t k).subs ++ st) ≤ b + 7 = omega (arith, length-append (method t k).subs st, (valid.method k (ltb→lt _ _ m)).count) in
      (r.0, le→leb _ _ n, clears_plain xs (length (prefix f t k)) ((method t k).subs ++ st) (prefix_owed f t k st) r.1 n r.2)
  clears_plain (mth k ∷ xs) (suc o) (c ∷ st) w h l r =
      let m : T (ltb k (method_count t)) = search (and_l, and_r, r.0) in
      let a : T (eqb c (method t k).head) = search (and_l, and_r, r.0) in
      none_due t valid o k c st w m a

  seven_more : Clearable b f t → Clearable (b + 7) 0 t
  seven_more c =
      let h : 1 ≤ b = leb→le _ _ c.0 in
      (le→leb 1 (b + 7) (omega arith), (c.1.0, clears_plain c.1.0 0 _ tt c.0 (omega arith) c.1.1))

-- Every form's least bound beside form 0's.
module _ (f : ℕ) (t : Table) (valid : Valid t) where
  never_above : 1 ≤ least_bound 0 t → (1 ≤ least_bound f t) × (least_bound f t ≤ least_bound 0 t)
  never_above h =
      let q = (computed 0 t valid).clears h in
      (computed f t valid).smallest (least_bound 0 t) q.0
      (q.1.0, (q.1.1.0, plain_clears f t (least_bound 0 t) q.1.1.0 0 _ q.1.1.1))

  seven_above : 1 ≤ least_bound f t → least_bound f t + 7 ≤ most_bound → (1 ≤ least_bound 0 t) × (least_bound 0 t ≤ least_bound f t + 7)
  seven_above h l =
      let q = (computed f t valid).clears h in
      (computed 0 t valid).smallest (least_bound f t + 7) l (seven_more f t valid (least_bound f t) q.1)

  at_most_7 : 1 ≤ least_bound 0 t → 1 ≤ least_bound f t → least_bound 0 t ≤ least_bound f t + 7
  at_most_7 g h = go (dec_lt most_bound (least_bound f t + 7))
    where
      go : Dec (most_bound < least_bound f t + 7) → least_bound 0 t ≤ least_bound f t + 7
      go (yes l) = omega (arith, ((computed 0 t valid).clears g).0)
      go (no l) = (seven_above h (omega arith)).1

  pub compared : Compared (least_bound 0 t) (least_bound f t)
  compared =
      record {
        there = λ h. (never_above h).0;
        below = λ h. (never_above h).1;
        near = at_most_7;
        back = λ h l. (seven_above h l).0;
      }

-- A run's steps clear its stack: where there is a complete run the form has a least bound, and the run's is not below it.
module _ (b f : ℕ) (t : Table) where
  run_clears : (xs : List Step) (o : ℕ) (s : State) → Run b f t o s xs → Clears b f t o s.stack xs
  run_clears [] o s r = r.0
  run_clears (x ∷ xs) o s r =
      (and_l (fits t s.stack x) (enabled t s.facts x) r.0, r.1, run_clears xs (due f t o x) _ r.2)

  pub run_reaches : Valid t → b ≤ most_bound → (xs : List Step) → CompleteRun b f t xs → Reaches b (least_bound f t)
  run_reaches valid h xs r =
      let q = (computed f t valid).smallest b h (r.0, (xs, run_clears xs 0 (begin t) r.1)) in
      record { there = q.0; enough = q.1 }

-- What a stack sees of a table.
abbrev bare : Table → Table
bare t =
    record {
      head = record {
        facts = 0;
        actions = t.head.actions;
        abstracts = t.head.abstracts;
        methods = t.head.methods;
        start = t.head.start;
        init = 0;
        goal = 0;
      };
      actions = [];
      methods = t.methods;
    }

module _ (f : ℕ) (t : Table) where
  bound_bare : (v : List ℕ) (k : ℕ) → method_bound f t v k ≡ method_bound f (bare t) v k
  bound_bare v k = go f
    where
      go : (f : ℕ) → method_bound f t v k ≡ method_bound f (bare t) v k
      go zero = refl
      go (suc f) = refl

  lowers_bare : (v : List ℕ) (k : ℕ) → lowers f t v k ≡ lowers f (bare t) v k
  lowers_bare v k = ap (λ (n : ℕ). ltb n (bound_of v (method t k).head)) (bound_bare v k)

  improve_bare : (v : List ℕ) (k : ℕ) → improve f t v k ≡ improve f (bare t) v k
  improve_bare v k =
      let h = (method t k).head in
      ap (λ (n : ℕ). cond (ltb n (bound_of v h)) (set v h n) v) (bound_bare v k)

  round_bare : (v : List ℕ) (k : ℕ) → round f t v k ≡ round f (bare t) v k
  round_bare v zero = refl
  round_bare v (suc k) = ap (λ (w : List ℕ). improve f t w k) (round_bare v k) ∙ improve_bare (round f (bare t) v k) k

  settled_bare : (v : List ℕ) (k : ℕ) → settled f t v k ≡ settled f (bare t) v k
  settled_bare v zero = refl
  settled_bare v (suc k) = ap₂ (λ (x y : Bool). x && not y) (settled_bare v k) (lowers_bare v k)

  rounds_bare : (n : ℕ) (v : List ℕ) → rounds f t n v ≡ rounds f (bare t) n v
  rounds_bare zero v = refl
  rounds_bare (suc n) v =
      let m = method_count t in
      ap₂ (λ (x : Bool) (w : List ℕ). cond x v w) (settled_bare v m) (ap (rounds f t n) (round_bare v m) ∙ rounds_bare n (round f (bare t) v m))

  least_bare : least_bound f t ≡ least_bound f (bare t)
  unfolding least_bound
  least_bare = ap (λ (v : List ℕ). up_to_most (bound_of v (start_task t))) (rounds_bare (suc (total (first t))) (first t))

same_bare : (t u : Table) → SameStacks t u → bare t ≡ bare u
same_bare t u e =
    λ i. record {
      head = record {
        facts = 0;
        actions = e.actions i;
        abstracts = e.abstracts i;
        methods = e.count i;
        start = e.start i;
        init = 0;
        goal = 0;
      };
      actions = [];
      methods = e.methods i;
    }

-- "Facts stay ignored": the least bound is that of every table with the same tasks and methods.
pub facts_ignored : (f : ℕ) (t u : Table) → SameStacks t u → least_bound f t ≡ least_bound f u
facts_ignored f t u e = least_bare f t ∙ ap (least_bound f) (same_bare t u e) ∙ sym (least_bare f u)
