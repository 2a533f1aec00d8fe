-- Demand 3: what an accepted plan is, and the operator list of a run.
use Rattle.std.specs.Prelude.{ℕ, ◌≤◌, ◌≡◌, List, length, T}
use Rattle.basics.specs.Answers.{answer}
use Rattle.rules.specs.Limits.{most_bound, most_table_bytes, most_plan_bytes}
use Rattle.rules.specs.Tables.{Table, decode}
use Rattle.rules.specs.Progression.{Step, begin, total_cost}
use Rattle.rules.specs.Operators.{Operator, expand_all}
use Rattle.rules.specs.Plans.{Line, lines_of, opers_of, shaped, texts_of}
use Rattle.rules.specs.Refusals.{read_of}
use Rattle.theorems.specs.Runs.{CompleteRun, TrueHeights}
use Rattle.theorems.specs.Shapes.{LineEnd, texts_ended}

-- Bound and form are in range, and the bytes s are the table t.
pub record Given (b f : ℕ) (s : List ℕ) (t : Table) : Type 0 where
  pub low : 1 ≤ b
  pub high : b ≤ most_bound
  pub form : f ≤ 1
  pub size : length s ≤ most_table_bytes
  pub reads : read_of (decode s) ≡ answer t

-- The same for an entry that takes no bound.
pub record GivenForm (f : ℕ) (s : List ℕ) (t : Table) : Type 0 where
  pub form : f ≤ 1
  pub size : length s ≤ most_table_bytes
  pub reads : read_of (decode s) ≡ answer t

-- All lines are in shape, their operators, each at its true height, expand to a complete run, and the numbers are those of its steps.
pub record Accepted (b f : ℕ) (t : Table) (ls : List Line) (c o k : ℕ) : Type 0 where
  pub shape : T (shaped ls)
  pub heights : TrueHeights f t (begin t) (opers_of ls)
  pub run : CompleteRun b f t (expand_all f t (opers_of ls))
  pub cost : c ≡ total_cost t (expand_all f t (opers_of ls))
  pub operators : o ≡ length (opers_of ls)
  pub steps : k ≡ length (expand_all f t (opers_of ls))

-- The bytes s are a table, and the plan's, which are no more than document 01 allows, are in shape and stand for a complete run of it.
pub record Completes (b f : ℕ) (s plan : List ℕ) : Type 0 where
  pub table : Table
  pub given : Given b f s table
  pub size : length plan ≤ most_plan_bytes
  pub shape : T (shaped (lines_of plan))
  pub heights : TrueHeights f table (begin table) (opers_of (lines_of plan))
  pub run : CompleteRun b f table (expand_all f table (opers_of (lines_of plan)))

-- The steps of that run.
abbrev pub steps_of_plan : {b f : ℕ} {s plan : List ℕ} → Completes b f s plan → List Step
steps_of_plan {f = f} {plan = plan} q = expand_all f q.table (opers_of (lines_of plan))

-- An operator list of the run xs: each operator at its true height, and they expand to xs.
pub record ListOf (f : ℕ) (t : Table) (xs : List Step) (os : List Operator) : Type 0 where
  pub heights : TrueHeights f t (begin t) os
  pub expands : expand_all f t os ≡ xs

-- "its text fits that size", with line feeds alone and with any choice of line ends.
abbrev pub Fitting : List Operator → Type 0
Fitting os = length (texts_of os) ≤ most_plan_bytes

abbrev pub FittingEnded : (ℕ → LineEnd) → List Operator → Type 0
FittingEnded end os = length (texts_ended end os) ≤ most_plan_bytes
