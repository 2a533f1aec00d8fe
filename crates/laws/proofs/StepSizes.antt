-- How large the operators of a step are in a table that was read.
use mathlib.Core.Path.{◌≡◌}
use mathlib.Core.Bool.{Bool, true, false, cond}
use mathlib.Core.List.{◌∷◌, map}
use Prim.Native.Nat.{ℕ, zero, suc, ◌+◌, ◌*◌, ◌-◌, ◌≤◌, ◌<◌}
use native.Mathlib.Omega.{arith}
use lib.ListN.{length, length-drop}
use borrow.Author.Tests.{ne_eqb}
use Rattle.rules.specs.Limits.{most_subtasks, most_cost, most_bound}
use Rattle.rules.specs.Tables.{Table, action_count, method_count, method}
use Rattle.rules.specs.Progression.{act, mth, prefix, stays, remain, total_cost}
use Rattle.rules.specs.Operators.{company, leaves, positions, highest, joined}
use Rattle.laws.specs.Valid.{Valid}
use Rattle.laws.specs.Steps.{step_at}
use Rattle.laws.proofs.CountLaws.{prefix_short, action_positions, method_positions, method_positions_low}
use Rattle.laws.proofs.CostLaws.{prefix_cheap}
use Rattle.laws.proofs.StepNumbers.{by_step}

-- How many subtasks stay.
pub stay_length : (f : ℕ) (t : Table) (k : ℕ) → length (stays f t k) ≡ length (method t k).subs - length (prefix f t k)
stay_length f t k = length-drop (length (prefix f t k)) (method t k).subs

highest_fits : (d : Bool) (b r : ℕ) → b ≤ most_bound → r ≤ most_subtasks → cond d 0 (highest b r) + r ≤ most_bound + 1
highest_fits true b r l h = omega arith
highest_fits false b zero l h = omega arith
highest_fits false b (suc r) l h = rw (ne_eqb (suc r) 0 (omega arith)) (omega arith)

module _ (f : ℕ) (t : Table) (v : Valid t) (i : ℕ) (l : i < action_count t + method_count t) where
  pub leaves_few : length (leaves f t (step_at t i)) ≤ 8
  leaves_few =
      by_step t (λ _ x. length (leaves f t x) ≤ 8) i l (λ k h. omega arith) (λ k h. omega (arith, stay_length f t k, (v.method k h).count))

  pub company_few : length (company f t (step_at t i)) ≤ 8
  company_few =
      by_step t (λ _ x. length (company f t x) ≤ 8) i l (λ k h. omega arith) (λ k h. omega (arith, (v.method k h).count, prefix_short f t k))

  -- At most eight actions of 65,535 each.
  pub cost_low : total_cost t (step_at t i ∷ map act (company f t (step_at t i))) ≤ most_subtasks * most_cost
  cost_low =
      by_step t (λ _ x. total_cost t (x ∷ map act (company f t x)) ≤ most_subtasks * most_cost) i l
      (λ k h. omega (arith, (v.action k h).cost))
      (λ k h. omega (arith, prefix_cheap f t k v h))

  -- Even at its highest position a step leaves the stack no higher than the highest bound.
  pub height_low : (b : ℕ) → b ≤ most_bound → positions b f t (step_at t i) + length (leaves f t (step_at t i)) ≤ most_bound + 1
  height_low b h =
      by_step t (λ _ x. positions b f t x + length (leaves f t x) ≤ 65) i l
      (λ k p. omega (arith, action_positions b f t k p))
      (λ k p.
      omega (
        arith,
        stay_length f t k,
        method_positions b f t k p,
        highest_fits (joined f t (mth k)).dead b (remain f t k) h (omega (arith, (v.method k p).count)),
      ))

  -- No step has more positions than there are.
  pub positions_low : (b : ℕ) → positions b f t (step_at t i) ≤ b
  positions_low b =
      by_step t (λ _ x. positions b f t x ≤ b) i l (λ k p. omega (arith, action_positions b f t k p)) (λ k p. method_positions_low b f t k)
