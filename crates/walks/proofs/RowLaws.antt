-- What is left of a walk from a row on: past a row, and into what an operator leads to.
use Prim.Native.Nat.{ℕ, zero, suc, ◌-◌, ◌≤◌, ◌<◌}
use mathlib.Core.Path.{◌≡◌, refl, sym, ap, subst, ◌∙◌}
use mathlib.Core.Bool.{Bool, true, false, cond}
use mathlib.Core.List.{List, [], ◌∷◌}
use mathlib.Core.Option.{Option, none, some}
use native.Mathlib.Omega.{arith}
use Rattle.rules.specs.Tables.{Table}
use Rattle.rules.specs.Progression.{State}
use Rattle.rules.specs.Operators.{Operator}
use Rattle.rules.specs.Searches.{may, led, complete}
use Rattle.rules.specs.Walks.{here, picks, Walked, nothing, hit, behind, after, pick_of, or_else, among, walk}
use Rattle.laws.specs.Steps.{step_at}
use Rattle.links.specs.Links.{row_count}
use Rattle.walks.specs.Levels.{from, rest_of}
use Rattle.walks.proofs.PickLaws.{choices_rows, from_on}

module _ (b f : ℕ) (t : Table) where
  -- A walk is all that is left from the first row on.
  pub rest_all : (r : ℕ) (s : State) → walk b f t r s ≡ rest_of b f t r s 0
  unfolding walk
  rest_all zero s = refl
  rest_all (suc r) s =
      let e : row_count t ≡ row_count t - 0 = omega arith in
      ap (among f t s (walk b f t r)) (choices_rows b f t s ∙ ap (λ (n : ℕ). picks b f t s (step_at t) n 0) e)

  module _ (s : State) where
    -- Where the choices are the same, so is what is left.
    pub rest_same : (r j k : ℕ) → from b f t s j ≡ from b f t s k → rest_of b f t r s j ≡ rest_of b f t r s k
    rest_same zero j k e = refl
    rest_same (suc r) j k e = ap (among f t s (walk b f t r)) e

    pub rest_none : (r k : ℕ) → from b f t s k ≡ [] → rest_of b f t r s k ≡ nothing
    unfolding among
    rest_none zero k e = refl
    rest_none (suc r) k e = ap (among f t s (walk b f t r)) e

    -- An operator that may be applied.
    module _ (r k : ℕ) (l : k < row_count t) (e : may b f t s (here s (step_at t k)) ≡ true) where
      abbrev this : Operator
      this = here s (step_at t k)

      first : rest_of b f t (suc r) s k ≡ among f t s (walk b f t r) (this ∷ from b f t s (suc k))
      first = ap (among f t s (walk b f t r)) (from_on b f t s k l e)

      pub rest_hit : complete t (led f t s this) ≡ true → rest_of b f t (suc r) s k ≡ hit this
      unfolding among
      rest_hit d = first ∙ rw d

      pub rest_after : complete t (led f t s this) ≡ false
          → rest_of b f t (suc r) s k ≡ or_else (after this (rest_of b f t r (led f t s this) 0)) (rest_of b f t (suc r) s (suc k))
      unfolding among
      rest_after d =
          first
          ∙ ap (λ (c : Bool). or_else (cond c (hit this) (after this (walk b f t r (led f t s this)))) (rest_of b f t (suc r) s (suc k))) d
          ∙ ap (λ (w : Walked). or_else (after this w) (rest_of b f t (suc r) s (suc k))) (rest_all r (led f t s this))

      pub rest_counts : 1 ≤ (rest_of b f t (suc r) s k).count
      unfolding among
      rest_counts =
          subst (λ (w : Walked). 1 ≤ w.count) (sym first) (go (complete t (led f t s this)) (walk b f t r (led f t s this)))
        where
          by : (p : Option (List Operator)) (n : ℕ) (w : Walked) → 1 ≤ (pick_of p (suc n) w).count
          by none n w = omega arith
          by (some p) n w = omega arith

          go : (x : Bool) (v : Walked) → 1 ≤ (or_else (cond x (hit this) (after this v)) (rest_of b f t (suc r) s (suc k))).count
          go true v = omega arith
          go false v = by (behind this v.plan) v.count (rest_of b f t (suc r) s (suc k))
