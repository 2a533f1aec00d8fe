-- What the check of a plan notes: the row of each operator in turn.
use Rattle.std.specs.Prelude.{ℕ, ◌/◌, ◌≤◌, ◌≡◌, List, length, take, Result, IfOk}
use Rattle.basics.specs.declared.Refusal.{Refusal}
use Rattle.rules.specs.declared.Tally.{Tally}
use Rattle.rules.specs.Limits.{most_plan_bytes}
use Rattle.rules.specs.Tables.{Table}
use Rattle.rules.specs.Operators.{expand_all}
use Rattle.rules.specs.Plans.{Line, opers_of}
use Rattle.lines.specs.Places.{shortest_line}
use Rattle.step_list.specs.RowSteps.{AllRows, rows_steps}

-- No plan has more operators.
abbrev pub most_notes : ℕ
most_notes = most_plan_bytes / shortest_line

-- The first notes are rows, as many as there are operators, with so many steps in all.
pub record Noted (f : ℕ) (t : Table) (notes : List ℕ) (operators steps : ℕ) : Type 0 where
  pub few : operators ≤ length notes
  pub rows : AllRows t (take operators notes)
  pub count : length (rows_steps f t (take operators notes)) ≡ steps

-- So it is where a plan is accepted, and their steps are those of its lines.
abbrev pub NotesHeld : ℕ → Table → List ℕ → Result Tally Refusal → Type 0
NotesHeld f t notes r = IfOk r (λ y. Noted f t notes y.operators y.steps)

abbrev pub NotesExpand : ℕ → Table → List Line → List ℕ → Result Tally Refusal → Type 0
NotesExpand f t ls notes r = IfOk r (λ y. rows_steps f t (take y.operators notes) ≡ expand_all f t (opers_of ls))
