-- The actions of a complete run are a solution, and cost what the run costs.
use Prim.Native.Nat.{ℕ, ◌+◌}
use mathlib.Core.Path.{◌≡◌, refl, ap}
use mathlib.Core.List.{List, [], ◌∷◌, ◌++◌}
use lib.Seq.{append_snoc}
use native.Mathlib.Omega.{arith}
use lib.Dec.{T, ltb, eqb, eqb→eq, ltb→lt}
use Rattle.rules.specs.Tables.{Table, action_count, method_count, start_task, start_facts, goal_facts, action, method}
use Rattle.rules.specs.Facts.{holds}
use Rattle.rules.specs.Progression.{State, Step, act, mth, begin, total_cost, enabled}
use Rattle.theorems.specs.Runs.{Run}
use Rattle.theorems.specs.Solutions.{Refines, same, split, Executable, result, summed, Solution, actions_of}
use Rattle.laws.proofs.TestLaws.{and_l, and_r}

module _ (b f : ℕ) (t : Table) where
  refined : (xs : List Step) (o fa : ℕ) (st done : List ℕ) → Run b f t o (record { facts = fa; stack = st }) xs
      → Refines t (done ++ st) (done ++ actions_of xs)
  refined [] o fa [] done r = same
  refined [] o fa (y ∷ st) done r = absurd r.0
  refined (act k ∷ xs) o fa [] done r = absurd (search (and_l, and_r, r.0))
  refined (act k ∷ xs) o fa (y ∷ st) done r =
      let a : T (eqb y k) = search (and_l, and_r, r.0) in
      let q = refined xs _ _ st (done ++ (k ∷ [])) r.2 in
      rw (eqb→eq y k a) (simp append_snoc at q)
  refined (mth k ∷ xs) o fa [] done r = absurd (search (and_l, and_r, r.0))
  refined (mth k ∷ xs) o fa (y ∷ st) done r =
      let a : T (eqb y (method t k).head) = search (and_l, and_r, r.0) in
      let m : T (ltb k (method_count t)) = search (and_l, and_r, r.0) in
      rw (eqb→eq y _ a) (split done k st (ltb→lt _ _ m) (refined xs _ _ _ done r.2))

  executed : (xs : List Step) (o : ℕ) (s : State) → Run b f t o s xs → Executable t s.facts (actions_of xs)
  executed [] o s r = tt
  executed (act k ∷ xs) o s r =
      let a : T (ltb k (action_count t)) = search (and_l, and_r, r.0) in
      let e : T (enabled t s.facts (act k)) = search (and_l, and_r, r.0) in
      (ltb→lt _ _ a, e, executed xs _ _ r.2)
  executed (mth k ∷ xs) o s r = executed xs _ _ r.2

  reached : (xs : List Step) (o : ℕ) (s : State) → Run b f t o s xs → T (holds (goal_facts t) (result t s.facts (actions_of xs)))
  reached [] o s r = r.1
  reached (act k ∷ xs) o s r = reached xs _ _ r.2
  reached (mth k ∷ xs) o s r = reached xs _ _ r.2

  pub solution : (xs : List Step) → Run b f t 0 (begin t) xs → Solution t (actions_of xs)
  solution xs r =
      record {
        refines = refined xs 0 (start_facts t) (start_task t ∷ []) [] r;
        executable = executed xs 0 (begin t) r;
        reaches = reached xs 0 (begin t) r;
      }

pub costs : (t : Table) (xs : List Step) → total_cost t xs ≡ summed t (actions_of xs)
costs t [] = refl
costs t (act k ∷ xs) = ap (λ (n : ℕ). (action t k).cost + n) (costs t xs)
costs t (mth k ∷ xs) = omega (arith, costs t xs)
