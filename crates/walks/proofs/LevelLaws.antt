-- What is left of a walk in all: one level down, one level back, and the ends.
use Prim.Native.Nat.{ℕ, suc, ◌+◌, ◌≤◌, ◌<◌}
use mathlib.Core.Path.{◌≡◌, refl, sym, ap, ◌∙◌}
use mathlib.Core.Bool.{true, false}
use mathlib.Core.List.{List, [], ◌∷◌, ◌++◌, append_assoc}
use mathlib.Core.Option.{Option, none, some}
use native.Mathlib.Omega.{arith}
use Rattle.rules.specs.Tables.{Table}
use Rattle.rules.specs.Progression.{State}
use Rattle.rules.specs.Operators.{Operator}
use Rattle.rules.specs.Searches.{may, led, complete}
use Rattle.rules.specs.Walks.{here, Walked, nothing, behind, after, pick_of, or_else}
use Rattle.laws.specs.Steps.{step_at}
use Rattle.links.specs.Links.{row_count}
use Rattle.walks.specs.Levels.{rest_of, Level, operator_of, operators_of, told, ahead, all_of}
use Rattle.walks.proofs.RowLaws.{rest_hit, rest_after, rest_counts}

-- Operators that are counted before come before all.
told_ahead : (o : Operator) (n : ℕ) (w x : Walked) → or_else (told o (ahead n w)) x ≡ ahead n (or_else (told o w) x)
told_ahead o n w x = go (behind o w.plan)
  where
    go : (p : Option (List Operator)) → pick_of p (n + w.count) x ≡ ahead n (pick_of p w.count x)
    go none = let e : n + w.count + x.count ≡ n + (w.count + x.count) = omega arith in λ i. record { plan = x.plan; count = e i }
    go (some p) = refl

after_ahead : (o : Operator) (w x : Walked) → or_else (after o w) x ≡ ahead 1 (or_else (told o w) x)
after_ahead o w x =
    let e : suc w.count ≡ 1 + w.count = omega arith in
    (λ i. or_else (record { plan = behind o w.plan; count = e i }) x) ∙ told_ahead o 1 w x

told_counts : (o : Operator) (w x : Walked) → w.count ≤ (or_else (told o w) x).count
told_counts o w x = go (behind o w.plan)
  where
    go : (p : Option (List Operator)) → w.count ≤ (pick_of p w.count x).count
    go none = omega arith
    go (some p) = omega arith

module _ (b f : ℕ) (t : Table) where
  all_ahead : (vs : List Level) (r n : ℕ) (w : Walked) → all_of b f t r vs (ahead n w) ≡ ahead n (all_of b f t r vs w)
  all_ahead [] r n w = refl
  all_ahead (v ∷ vs) r n w =
      let x = rest_of b f t (suc r) v.state (suc v.row) in
      ap (all_of b f t (suc r) vs) (told_ahead (operator_of t v) n w x) ∙ all_ahead vs (suc r) n (or_else (told (operator_of t v) w) x)

  all_found : (vs : List Level) (r n : ℕ) (p : List Operator)
      → all_of b f t r vs (record { plan = some p; count = n }) ≡ record { plan = some (operators_of t vs ++ p); count = n }
  all_found [] r n p = refl
  all_found (v ∷ vs) r n p =
      all_found vs (suc r) n (operator_of t v ∷ p)
      ∙ ap {B = Walked} (λ (q : List Operator). record { plan = some q; count = n }) (sym (append_assoc (operators_of t vs) (operator_of t v ∷ []) p))

  all_counts : (vs : List Level) (r : ℕ) (w : Walked) → w.count ≤ (all_of b f t r vs w).count
  all_counts [] r w = omega arith
  all_counts (v ∷ vs) r w =
      let x = rest_of b f t (suc r) v.state (suc v.row) in
      omega (arith, told_counts (operator_of t v) w x, all_counts vs (suc r) (or_else (told (operator_of t v) w) x))

  -- Nothing is left below: back to the rows after that of the last level.
  pub level_back : (v : Level) (vs : List Level) (r : ℕ)
      → all_of b f t r (v ∷ vs) nothing ≡ all_of b f t (suc r) vs (rest_of b f t (suc r) v.state (suc v.row))
  level_back v vs r =
      let x = rest_of b f t (suc r) v.state (suc v.row) in
      let e : 0 + x.count ≡ x.count = omega arith in
      ap (all_of b f t (suc r) vs) {x = record { plan = x.plan; count = 0 + x.count }} (λ i. record { plan = x.plan; count = e i })

  -- Row k may be applied.
  module _ (vs : List Level) (r : ℕ) (s : State) (k : ℕ) (l : k < row_count t) (e : may b f t s (here s (step_at t k)) ≡ true) where
    abbrev this : Operator
    this = here s (step_at t k)

    abbrev left : Walked
    left = all_of b f t (suc r) vs (rest_of b f t (suc r) s k)

    pub level_counts : 1 ≤ left.count
    level_counts = omega (arith, rest_counts b f t s r k l e, all_counts vs (suc r) (rest_of b f t (suc r) s k))

    pub level_hit : complete t (led f t s this) ≡ true → left ≡ record { plan = some (operators_of t vs ++ (this ∷ [])); count = 1 }
    level_hit d = ap (all_of b f t (suc r) vs) (rest_hit b f t s r k l e d) ∙ all_found vs (suc r) 1 (this ∷ [])

    pub level_down : complete t (led f t s this) ≡ false
        → left ≡ ahead 1 (all_of b f t r (record { state = s; row = k } ∷ vs) (rest_of b f t r (led f t s this) 0))
    level_down d =
        let w = rest_of b f t r (led f t s this) 0 in
        let x = rest_of b f t (suc r) s (suc k) in
        ap (all_of b f t (suc r) vs) (rest_after b f t s r k l e d ∙ after_ahead this w x) ∙ all_ahead vs (suc r) 1 (or_else (told this w) x)
