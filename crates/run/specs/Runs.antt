-- What the code's runs say, and what they keep.
use Rattle.std.specs.Prelude.{ℕ, ◌+◌, ◌*◌, ◌≤◌, ◌≡◌, List, length, Result, Ok, Err, IfOk}
use Rattle.basics.specs.declared.Refusal.{Refusal}
use Rattle.rules.specs.declared.Tally.{Tally}
use Rattle.rules.specs.declared.reasons.Reason.{Reason}
use Rattle.rules.specs.ReasonNumbers.{number}
use Rattle.rules.specs.Limits.{most_bound}
use Rattle.rules.specs.Facts.{changed}
use Rattle.facts.specs.Sets.{set_of}
use Rattle.rows.specs.Sizes.{most_steps, most_row_cost}
use Rattle.rows.specs.Rows.{Row}
use Rattle.rows.specs.Stacks.{stack_of}
use Rattle.run.specs.Steps.{Point, Moved, refused}
use Rattle.run.specs.declared.Progress.{Progress}
use Rattle.run.specs.declared.Applied.{Applied}
use Rattle.run.specs.declared.Run.{Run}

-- A run whose stack stands in cells of its own.
abbrev pub point_of : Progress → List ℕ → Point
point_of t cells = record { facts = set_of t.facts; stack = stack_of cells t.height; operators = t.operators; steps = t.steps; cost = t.cost }

-- What a turn says of a run that stood at t, and of its cells: refused, the run stands there still.
abbrev pub turned_of : Progress → Result Progress Reason → List ℕ → Moved
turned_of t (Ok n) cells = record { number = 0; point = point_of n cells }
turned_of t (Err r) cells = refused (number r) (point_of t cells)

abbrev pub applied_of : Progress → Result Applied Reason → List ℕ → Moved
applied_of t (Ok a) cells = record { number = 0; point = point_of a.progress cells }
applied_of t (Err r) cells = refused (number r) (point_of t cells)

-- The operators that a run counts at most: no plan has so many.
abbrev pub most_operators : ℕ
most_operators = 65535

-- The numbers fit.
pub record ProgressOk (t : Progress) : Type 0 where
  pub height : t.height ≤ most_bound
  pub operators : t.operators ≤ most_operators
  pub steps : t.steps ≤ most_steps * t.operators
  pub cost : t.cost ≤ most_row_cost * t.operators

-- The progress after a row's operator, which leaves its tasks above the `below` that stand under its own.
pub record Landed (t : Progress) (below : ℕ) (row : Row) (r : Progress) : Type 0 where
  pub facts : set_of r.facts ≡ changed row.dels row.adds (set_of t.facts)
  pub height : r.height ≡ below + length row.rest
  pub operators : r.operators ≡ t.operators + 1
  pub steps : r.steps ≡ t.steps + row.steps
  pub cost : r.cost ≡ t.cost + row.cost

-- An accepted plan's steps are few: at most nine for each operator.
abbrev pub Few : Result Tally Refusal → Type 0
Few r = IfOk r (λ y. y.steps ≤ most_steps * most_operators)

-- A run by value.
abbrev pub run_point : Run → Point
run_point r = point_of r.progress r.stack

abbrev pub stepped_of : Run → Result Run Reason → Moved
stepped_of run (Ok r) = record { number = 0; point = run_point r }
stepped_of run (Err r) = refused (number r) (run_point run)

-- The bound and the form stay.
pub record SameRun (old new : Run) : Type 0 where
  pub bound : new.bound ≡ old.bound
  pub form : new.form ≡ old.form
