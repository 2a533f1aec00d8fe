-- What the answer for one line of a plan text says of the lines of that text.
use Rattle.std.specs.Prelude.{ℕ, ◌+◌, ◌≤◌, ◌<◌, ◌≡◌, List, ◌∷◌, length, drop, Option, None, Some}
use Rattle.rules.specs.Plans as plans
use Rattle.rules.specs.Plans.{note, oper, other, lines_of}
use Rattle.rules.specs.declared.Operator.{Operator as OperatorInCode}
use Rattle.laws.specs.Steps.{operator_of}
use Rattle.lines.specs.Places.{shortest_line}
use Rattle.lines.specs.declared.Line.{Line}
use Rattle.lines.specs.declared.Line.TheVariants.{Operator, Comment}

-- The line at a place, and the lines after it from the next place on.
pub record OperatorLine (s : List ℕ) (at : ℕ) (o : OperatorInCode) (next : ℕ) : Type 0 where
  pub lines : lines_of (drop at s) ≡ oper (operator_of o) ∷ lines_of (drop next s)
  pub onward : at + shortest_line ≤ next
  pub within : next ≤ length s

pub record CommentLine (s : List ℕ) (at next : ℕ) : Type 0 where
  pub lines : lines_of (drop at s) ≡ note ∷ lines_of (drop next s)
  pub onward : at < next
  pub within : next ≤ length s

abbrev pub IsLine : List ℕ → ℕ → Option Line → Type 0
IsLine s at (Some (Operator o next)) = OperatorLine s at o next
IsLine s at (Some (Comment next)) = CommentLine s at next
IsLine s at None = (rest : List plans.Line) × (lines_of (drop at s) ≡ other ∷ rest)
