-- The steps of a table by one number.
use mathlib.Core.Path.{◌≡◌, sym, ap, subst, ◌∙◌}
use Prim.Native.Nat.{ℕ, ◌+◌, ◌-◌, ◌≤◌, ◌<◌}
use native.Mathlib.Decide.{dec_le}
use native.Mathlib.Omega.{arith}
use borrow.Author.Tests.{lt-ltb, le-ltb}
use Rattle.rules.specs.Tables.{Table, action_count, method_count}
use Rattle.rules.specs.Progression.{Step, act, mth}
use Rattle.laws.specs.Steps.{step_at}

pub step_action : (t : Table) (i : ℕ) → i < action_count t → step_at t i ≡ act i
step_action t i l = rw (lt-ltb i (action_count t) l)

pub step_past : (t : Table) (i : ℕ) → action_count t ≤ i → step_at t i ≡ mth (i - action_count t)
step_past t i l = rw (le-ltb i (action_count t) l)

pub step_method : (t : Table) (k : ℕ) → step_at t (action_count t + k) ≡ mth k
step_method t k =
    let e : action_count t + k - action_count t ≡ k = omega arith in
    step_past t (action_count t + k) (omega arith) ∙ ap mth e

-- What holds of every action and of every method holds of every step.
pub by_step : (t : Table) (P : ℕ → Step → Type 0) (i : ℕ) → i < action_count t + method_count t → ((k : ℕ) → k < action_count t → P k (act k))
    → ((k : ℕ) → k < method_count t → P (action_count t + k) (mth k)) → P i (step_at t i)
by_step t P i l a m = go (dec_le (action_count t) i)
  where
    go : Dec (action_count t ≤ i) → P i (step_at t i)
    go (yes h) =
        let e : action_count t + (i - action_count t) ≡ i = omega arith in
        subst (λ (n : ℕ). P n (step_at t n)) e
        (subst (P (action_count t + (i - action_count t))) (sym (step_method t (i - action_count t))) (m (i - action_count t) (omega arith)))
    go (no h) = subst (P i) (sym (step_action t i (omega arith))) (a i (omega arith))
