-- A run over the steps of one operator.
use Prim.Native.Nat.{ℕ}
use mathlib.Core.List.{List, [], ◌∷◌, ◌++◌, map}
use lib.ListN.{length}
use lib.Dec.{T, leb}
use Rattle.rules.specs.Tables.{Table}
use Rattle.rules.specs.Progression.{State, Step, act, mth, next, all_allowed, after_all, height, prefix, resting}
use Rattle.rules.specs.Operators.{company}
use Rattle.theorems.specs.Runs.{Run}
use Rattle.laws.proofs.TestLaws.{and_l, and_r, and_i}

-- The steps xs, after which nothing is due, are allowed; the state after them keeps the bound; and the run goes on from there.
pub record Passed (b f : ℕ) (t : Table) (s : State) (xs ys : List Step) : Type 0 where
  pub each : T (all_allowed t s xs)
  pub low : T (leb (height (after_all t s xs)) b)
  pub rest : Run b f t 0 (after_all t s xs) ys

module _ (b f : ℕ) (t : Table) where
  back : (ks : List ℕ) (s : State) (ys : List Step) → T (resting b (length ks) s.stack) → Run b f t (length ks) s (map act ks ++ ys)
      → Passed b f t s (map act ks) ys
  back [] s ys h r = record { each = tt; low = h; rest = r }
  back (k ∷ ks) s ys h r =
      let s' = next t s (act k) in
      let q = back ks s' ys r.1 r.2 in
      record
      { each = search (and_i, r.0, q.each); low = q.low; rest = q.rest }

  -- A run over an operator's steps, from a resting point, there and back.
  pub run_back : (x : Step) (s : State) (ys : List Step) → Run b f t 0 s (x ∷ map act (company f t x) ++ ys) → Passed b f t s (x ∷ map act (company f t x)) ys
  run_back (act k) s ys r = back (k ∷ []) s ys tt r
  run_back (mth k) s ys r =
      let s' = next t s (mth k) in
      let ks = prefix f t k in
      let q = back ks s' ys r.1 r.2 in
      record
      { each = search (and_i, r.0, q.each); low = q.low; rest = q.rest }

  at_rest : (ks : List ℕ) (s : State) → T (leb (height (after_all t s (map act ks))) b) → T (resting b (length ks) s.stack)
  at_rest [] s h = h
  at_rest (k ∷ ks) s h = tt

  over : (ks : List ℕ) (s : State) (ys : List Step) → Passed b f t s (map act ks) ys → Run b f t (length ks) s (map act ks ++ ys)
  over [] s ys p = p.rest
  over (k ∷ ks) s ys p =
      let s' = next t s (act k) in (
        search (and_l, p.each),
        at_rest ks s' p.low,
        over ks s' ys (record { each = search (and_r, p.each); low = p.low; rest = p.rest }),
      )

  pub run_over : (x : Step) (s : State) (ys : List Step) → Passed b f t s (x ∷ map act (company f t x)) ys → Run b f t 0 s (x ∷ map act (company f t x) ++ ys)
  run_over (act k) s ys p = over (k ∷ []) s ys p
  run_over (mth k) s ys p =
      let s' = next t s (mth k) in
      let ks = prefix f t k in (
        search (and_l, p.each),
        at_rest ks s' p.low,
        over ks s' ys (record { each = search (and_r, p.each); low = p.low; rest = p.rest }),
      )
