-- How many values the variables of an emitted problem have, and how many lines its operators.
use Rattle.std.specs.Prelude.{ℕ, ◌+◌, ◌-◌, ◌≤◌, ◌<◌, ◌≡◌, cond, List, eqb, length}
use Rattle.std.specs.Int.Count.{ones}
use Rattle.rules.specs.Tables.{Table, fact_count, task_count}
use Rattle.rules.specs.Progression.{Step}
use Rattle.rules.specs.Operators.{Operator, joined, task_of, leaves}
use Rattle.rules.specs.Problems.{variable_count, no_task, bottom_next, kept, altered, oper_of}
use Rattle.version3.specs.Problems.{Variable, values_of}

-- "facts 0 to F − 1 (value 0 holds, 1 doesn't); F is the top of the stack (values 0 to b); F + i is position i (value = task, A + C = none)".
pub record ValueCounts (b : ℕ) (t : Table) (vs : List Variable) : Type 0 where
  pub variables : length vs ≡ variable_count b t
  pub fact : (k : ℕ) → k < fact_count t → values_of vs k ≡ 2
  pub top : values_of vs (fact_count t) ≡ b + 1
  pub position : (i : ℕ) → 1 ≤ i → i ≤ b → values_of vs (fact_count t + i) ≡ task_count t + 1

-- The stack lines of a step's operators. Top prevails where one task is left; position i where it gets the task that it had.
abbrev pub stack_prevails : ℕ → Table → Step → ℕ
stack_prevails f t x = cond (eqb (length (leaves f t x)) 1) 1 0 + cond (eqb (bottom_next (no_task t) (leaves f t x)) (task_of t x)) 1 0

-- Those of the two that do not prevail change, and each task left but the last has a position above.
abbrev pub stack_effects : ℕ → Table → Step → ℕ
stack_effects f t x = (2 - stack_prevails f t x) + (length (leaves f t x) - 1)

-- "The count line before each group equals the number of members of the sets concerned plus the stack lines."
pub record LineCounts (f : ℕ) (t : Table) (o : Operator) : Type 0 where
  pub prevail : length (oper_of f t o).prevail ≡ ones (kept (joined f t o.what)) + stack_prevails f t o.what
  pub effects : length (oper_of f t o).effects ≡ ones (altered (joined f t o.what)) + stack_effects f t o.what
