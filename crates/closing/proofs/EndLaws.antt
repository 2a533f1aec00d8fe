-- How a run ends.
use mathlib.Core.Path.{◌≡◌, refl}
use mathlib.Core.Bool.{false}
use mathlib.Core.List.{List}
use Prim.Native.Nat.{ℕ, zero, suc}
use Rattle.basics.specs.Answers.{refusal, check}
use Rattle.rules.specs.Reasons.{stack_not_empty, goal_missing}
use Rattle.rules.specs.Tables.{Table, goal_facts}
use Rattle.rules.specs.Facts.{holds}
use Rattle.rules.specs.Progression.{is_empty}
use Rattle.rules.specs.Checks.{accepted, finish}
use Rattle.facts.specs.Sets.{set_of}
use Rattle.rows.specs.Stacks.{stack_of}
use Rattle.run.specs.Steps.{check_at}
use Rattle.run.specs.Runs.{point_of}
use Rattle.run.specs.declared.Progress.{Progress}

-- By the height of its stack.
module _ (t : Table) (lines : ℕ) (run : Progress) where
  pub ends_high : (run.height ≡ 0 → ⊥) → (stack : List ℕ) → finish t (check_at lines (point_of run stack)) ≡ refusal stack_not_empty lines
  unfolding stack_of
  ends_high z stack = rw (high stack run.height z)
    where
      high : (cells : List ℕ) (h : ℕ) → (h ≡ 0 → ⊥) → is_empty (stack_of cells h) ≡ false
      high cells zero z = absurd (z refl)
      high cells (suc h) z = refl

  pub ends_empty : run.height ≡ 0 → (stack : List ℕ) → finish t (check_at lines (point_of run stack))
      ≡ check (holds (goal_facts t) (set_of run.facts)) goal_missing lines (accepted run.cost run.operators run.steps)
  unfolding stack_of
  ends_empty z stack = rw z
