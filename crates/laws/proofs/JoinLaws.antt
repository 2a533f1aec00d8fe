-- A joined row of actions runs exactly where its actions run one after the other, and gives the same facts.
use mathlib.Core.Path.{◌≡◌, refl, sym, ap, ap₂, ◌∙◌}
use mathlib.Core.Bool.{Bool, true, false, not, ◌&&◌, ◌||◌, cond}
use mathlib.Core.List.{List, [], ◌∷◌}
use mathlib.Core.Option.{Option, none, some}
use Prim.Native.Nat.{ℕ, zero}
use lib.Bits.{bit_and, bit_or}
use native.Mathlib.Omega.{arith}
use lib.Dec.{T}
use borrow.Author.Tests.{ne_eqb, eqb-true, eqb-false}
use Rattle.rules.specs.Tables.{Action}
use Rattle.rules.specs.Facts.{Join, without, empty, holds, changed, no_join, join_one, join_from, join_of}
use Rattle.laws.specs.Joins.{act_on, and_then, run_one, run_all, run_join}
use Rattle.laws.proofs.SetLaws.{var, ∅, ◌∩◌, ◌∪◌, ◌∖◌, solve, under}

-- ---- the identities of sets: n a d are the joined sets, n' a' d' the next action's, s the facts

module _ (n a d n' a' d' s : ℕ) where
  pub facts_step : changed (without (bit_or d d') a') (changed d' a' a) s ≡ changed d' a' (changed d a s)
  facts_step =
      solve (var 4 ∖ ((var 1 ∪ var 3) ∖ var 2) ∪ (var 0 ∖ var 3 ∪ var 2)) ((var 4 ∖ var 1 ∪ var 0) ∖ var 3 ∪ var 2)
      (a ∷ d ∷ a' ∷ d' ∷ s ∷ []) tt

  needs_step : bit_and n' d ≡ zero → without (bit_or n (without n' a)) s ≡ bit_or (without n s) (without n' (changed d a s))
  needs_step =
      under (var 3 ∩ var 2) ((var 0 ∪ (var 3 ∖ var 1)) ∖ var 4) ((var 0 ∖ var 4) ∪ (var 3 ∖ (var 4 ∖ var 2 ∪ var 1)))
      (n ∷ a ∷ d ∷ n' ∷ s ∷ []) tt

  dead_step : bit_or (bit_and a d) (without n' (changed d a s)) ≡ zero → bit_and n' d ≡ zero
  dead_step =
      under (var 0 ∩ var 1 ∪ (var 2 ∖ (var 3 ∖ var 1 ∪ var 0))) (var 2 ∩ var 1) ∅ (a ∷ d ∷ n' ∷ s ∷ []) tt

  apart_step : bit_and a d ≡ zero → bit_and (changed d' a' a) (without (bit_or d d') a') ≡ zero
  apart_step = under (var 0 ∩ var 1) ((var 0 ∖ var 3 ∪ var 2) ∩ ((var 1 ∪ var 3) ∖ var 2)) ∅ (a ∷ d ∷ a' ∷ d' ∷ []) tt

-- a union is empty where both parts are
pub empty_or : (x y : ℕ) → empty (bit_or x y) ≡ (empty x && empty y)
empty_or x y = go (empty x) refl
  where
    go : (b : Bool) → empty x ≡ b → empty (bit_or x y) ≡ (empty x && empty y)
    go true e = ap (λ (z : ℕ). empty (bit_or z y)) (eqb-true x zero e) ∙ ap (λ (b : Bool). b && empty y) (sym e)
    go false e =
        ne_eqb (bit_or x y) zero (λ q. eqb-false x zero e (under (var 0 ∪ var 1) (var 0) ∅ (x ∷ y ∷ []) tt q))
        ∙ ap (λ (b : Bool). b && empty y) (sym e)

-- ---- one more action

pick : Bool → ℕ → Option ℕ
pick k x = cond k (some x) none

-- D: dead before. E: the action needs no joined delete. K, H, L: the needs of the new join, the old join and the action hold
cases : (D E K H L : Bool) (x y z : ℕ) (f : ℕ → Option ℕ) → f y ≡ pick L z → x ≡ z
    → (E ≡ true → K ≡ (H && L)) → (E ≡ false → L ≡ false)
    → cond (D || not E) none (pick K x) ≡ and_then (cond D none (pick H y)) f
unfolding pick
cases true E K H L x y z f q e live dead = refl
cases false true K true L x y z f q e live dead = ap₂ pick (live refl) e ∙ sym q
cases false true K false L x y z f q e live dead = ap (λ (b : Bool). pick b x) (live refl)
cases false false K true L x y z f q e live dead = ap (λ (b : Bool). pick b z) (sym (dead refl)) ∙ sym q
cases false false K false L x y z f q e live dead = refl

one_step : (j : Join) (a : Action) (s : ℕ) → bit_and j.adds j.dels ≡ zero
    → run_join (join_one j a) s ≡ and_then (run_join j s) (run_one a)
unfolding join_one run_join act_on pick
one_step j a s apart =
    cases j.dead (empty (bit_and a.needs j.dels)) (holds (join_one j a).needs s) (holds j.needs s) (holds a.needs t)
    (changed (join_one j a).dels (join_one j a).adds s) t (changed a.dels a.adds t) (run_one a) refl
    (facts_step 0 j.adds j.dels 0 a.adds a.dels s)
    (λ e. ap empty (needs_step j.needs j.adds j.dels a.needs 0 0 s (eqb-true (bit_and a.needs j.dels) zero e))
    ∙ empty_or (without j.needs s) (without a.needs t))
    (λ e. ne_eqb (without a.needs t) zero
    (λ q. eqb-false (bit_and a.needs j.dels) zero e (dead_step 0 j.adds j.dels a.needs 0 0 s (ap₂ bit_or apart q))))
  where
    t : ℕ
    t = changed j.dels j.adds s

then_some : (o : Option ℕ) → and_then o some ≡ o
then_some none = refl
then_some (some s) = refl

then_then : (o : Option ℕ) (f g : ℕ → Option ℕ) → and_then (and_then o f) g ≡ and_then o (λ s. and_then (f s) g)
then_then none f g = refl
then_then (some s) f g = refl

apart_of : (j : Join) (a : Action) → bit_and j.adds j.dels ≡ zero → bit_and (join_one j a).adds (join_one j a).dels ≡ zero
unfolding join_one
apart_of j a = apart_step 0 j.adds j.dels 0 a.adds a.dels 0

join_from_lem : (l : List Action) (j : Join) (s : ℕ) → bit_and j.adds j.dels ≡ zero
    → run_join (join_from j l) s ≡ and_then (run_join j s) (run_all l)
unfolding join_from run_all
join_from_lem [] j s apart = sym (then_some (run_join j s))
join_from_lem (a ∷ l) j s apart =
    join_from_lem l (join_one j a) s (apart_of j a apart) ∙ ap (λ (o : Option ℕ). and_then o (run_all l)) (one_step j a s apart)
    ∙ then_then (run_join j s) (run_one a) (run_all l)

pub unchanged : (s : ℕ) → changed 0 0 s ≡ s
unchanged s = solve (var 0 ∖ ∅ ∪ ∅) (var 0) (s ∷ []) tt

start : (s : ℕ) → run_join no_join s ≡ some s
unfolding run_join act_on without
start s = ap some (unchanged s)

-- The join does what its actions do one after the other: it may run where they may, and a dead one nowhere
pub join_runs : (l : List Action) (s : ℕ) → run_join (join_of l) s ≡ run_all l s
unfolding join_of
join_runs l s = join_from_lem l no_join s refl ∙ ap (λ (o : Option ℕ). and_then o (run_all l)) (start s)

-- A join by its parts: where it runs, and what it leaves
pub join_ran : (j : Join) (s : ℕ) {x : ℕ} → run_join j s ≡ some x → T (not j.dead) × T (holds j.needs s)
unfolding run_join act_on
join_ran j s {x} e = go j.dead (holds j.needs s) e
  where
    go : (d h : Bool) → cond d none (cond h (some (changed j.dels j.adds s)) none) ≡ some x → T (not d) × T h
    go true h e = let z : ◌≡◌ {A = ℕ} 0 1 = cc in absurd (omega arith)
    go false true e = (tt, tt)
    go false false e = let z : ◌≡◌ {A = ℕ} 0 1 = cc in absurd (omega arith)

pub join_can : (j : Join) (s : ℕ) → T (not j.dead) → T (holds j.needs s) → run_join j s ≡ some (changed j.dels j.adds s)
unfolding run_join act_on
join_can j s = go j.dead (holds j.needs s)
  where
    go : (d h : Bool) → T (not d) → T h → cond d none (cond h (some (changed j.dels j.adds s)) none) ≡ some (changed j.dels j.adds s)
    go true h u v = absurd u
    go false true u v = refl
    go false false u v = absurd v
