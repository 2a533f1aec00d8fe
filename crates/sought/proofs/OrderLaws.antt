-- The order of operator lists: no list is earlier than itself, and of two applicable lists that differ one is the earlier.
use Prim.Native.Nat.{ℕ, ◌<◌}
use mathlib.Core.Path.{◌≡◌, refl, sym, ap, subst, ◌∙◌}
use mathlib.Core.Logic.{◌⊎◌, inl, inr}
use mathlib.Core.List.{List, [], ◌∷◌}
use native.Mathlib.Omega.{arith}
use native.Mathlib.Decide.{dec_lt}
use lib.Dec.{T, ltb, eqb, ltb→lt, lt→ltb, eqb→eq}
use Rattle.rules.specs.Tables.{Table}
use Rattle.rules.specs.Progression.{State, Step, act, mth, height, all_allowed}
use Rattle.rules.specs.Operators.{Operator, expand, emitted, applies}
use Rattle.rules.specs.Searches.{may, led, Applicable, precedes, Earlier}
use Rattle.laws.proofs.TestLaws.{and_l, and_r}
use Rattle.sought.specs.Findings.{ShorterFirst}

-- ---- steps

steps_differ : (x y : Step) → T (precedes x y) → T (precedes y x) → ⊥
steps_differ (act j) (act k) h g = omega (arith, ltb→lt j k h, ltb→lt k j g)
steps_differ (act j) (mth k) h g = g
steps_differ (mth j) (act k) h g = h
steps_differ (mth j) (mth k) h g = omega (arith, ltb→lt j k h, ltb→lt k j g)

step_once : (x y : Step) → x ≡ y → T (precedes x y) → ⊥
step_once x y e h =
    let g : T (precedes y x) = subst (λ (z : Step). T (precedes z x)) e (subst (λ (z : Step). T (precedes x z)) (sym e) h) in
    steps_differ x y h g

one_kind : (kind : ℕ → Step) (j k : ℕ) → T (ltb j k) ⊎ ((kind j ≡ kind k) ⊎ T (ltb k j))
one_kind kind j k = go (dec_lt j k) (dec_lt k j)
  where
    go : Dec (j < k) → Dec (k < j) → T (ltb j k) ⊎ ((kind j ≡ kind k) ⊎ T (ltb k j))
    go (yes h) d = inl (lt→ltb j k h)
    go (no h) (yes g) = inr (inr (lt→ltb k j g))
    go (no h) (no g) = let e : j ≡ k = omega arith in inr (inl (ap kind e))

step_order : (x y : Step) → T (precedes x y) ⊎ ((x ≡ y) ⊎ T (precedes y x))
step_order (act j) (act k) = one_kind act j k
step_order (act j) (mth k) = inl tt
step_order (mth j) (act k) = inr (inr tt)
step_order (mth j) (mth k) = one_kind mth j k

-- ---- lists

what_of : {o p : Operator} → o ≡ p → o.what ≡ p.what
what_of e = ap (λ (x : Operator). x.what) e

-- Of two lists at most one is the earlier.
pub one_way : (os ps : List Operator) → Earlier os ps → Earlier ps os → ⊥
one_way [] [] h g = h
one_way (o ∷ os) [] h g = h
one_way [] (p ∷ ps) h g = g
one_way (o ∷ os) (p ∷ ps) (inl h) (inl g) = steps_differ o.what p.what h g
one_way (o ∷ os) (p ∷ ps) (inl h) (inr g) = step_once o.what p.what (sym (what_of g.0)) h
one_way (o ∷ os) (p ∷ ps) (inr h) (inl g) = step_once p.what o.what (sym (what_of h.0)) g
one_way (o ∷ os) (p ∷ ps) (inr h) (inr g) = one_way os ps h.1 g.1

-- A list comes before its continuations.
pub shorter_first : ShorterFirst
shorter_first [] o more = tt
shorter_first (p ∷ os) o more = inr (refl, shorter_first os o more)

pub not_itself : (os ps : List Operator) → os ≡ ps → Earlier os ps → ⊥
not_itself os ps e h =
    let g : Earlier ps os = subst (λ (l : List Operator). Earlier l os) e (subst (λ (l : List Operator). Earlier os l) (sym e) h) in
    one_way os ps h g

module _ (b f : ℕ) (t : Table) where
  -- An operator that may be applied is emitted, stands at the state's height, and each of its steps is allowed in turn.
  pub may_be : (s : State) (o : Operator) → T (may b f t s o) → T (emitted b f t o) × (o.at ≡ height s) × T (all_allowed t s (expand f t o))
  may_be s o h =
      let a = and_r (emitted b f t o) (applies f t s o) h in (
        and_l (emitted b f t o) (applies f t s o) h,
        eqb→eq o.at (height s) (and_l (eqb o.at (height s)) (all_allowed t s (expand f t o)) a),
        and_r (eqb o.at (height s)) (all_allowed t s (expand f t o)) a,
      )

  same_operator : (s : State) (o p : Operator) → T (may b f t s o) → T (may b f t s p) → o.what ≡ p.what → o ≡ p
  same_operator s o p h g e =
      let d : o.at ≡ p.at = (may_be s o h).1 ∙ sym (may_be s p g).1 in
      λ i. record { what = e i; at = d i }

  pub one_order : (s : State) (os ps : List Operator) → Applicable b f t s os → Applicable b f t s ps
      → Earlier os ps ⊎ ((os ≡ ps) ⊎ Earlier ps os)
  one_order s [] [] h g = inr (inl refl)
  one_order s [] (p ∷ ps) h g = inl tt
  one_order s (o ∷ os) [] h g = inr (inr tt)
  one_order s (o ∷ os) (p ∷ ps) h g =
      go (step_order o.what p.what)
      (λ e. one_order (led f t s o) os ps h.1 (subst (λ (x : Operator). Applicable b f t (led f t s x) ps) (sym e) g.1))
    where
      same : o ≡ p → Earlier os ps ⊎ ((os ≡ ps) ⊎ Earlier ps os)
          → Earlier (o ∷ os) (p ∷ ps) ⊎ ((o ∷ os ≡ p ∷ ps) ⊎ Earlier (p ∷ ps) (o ∷ os))
      same e (inl q) = inl (inr (e, q))
      same e (inr (inl q)) = inr (inl (λ i. e i ∷ q i))
      same e (inr (inr q)) = inr (inr (inr (sym e, q)))

      go : T (precedes o.what p.what) ⊎ ((o.what ≡ p.what) ⊎ T (precedes p.what o.what))
          → (o ≡ p → Earlier os ps ⊎ ((os ≡ ps) ⊎ Earlier ps os))
          → Earlier (o ∷ os) (p ∷ ps) ⊎ ((o ∷ os ≡ p ∷ ps) ⊎ Earlier (p ∷ ps) (o ∷ os))
      go (inl q) r = inl (inl q)
      go (inr (inl q)) r = let e = same_operator s o p h.0 g.0 q in same e (r e)
      go (inr (inr q)) r = inr (inr (inl q))
