use mathlib.Core.Path.{sym, ◌∙◌}
use Rattle.rows.proofs.StackLaws.{stack_height}
use Rattle.rows.proofs.row.Rows.left.Goals as goal

pub returns : goal.returns
returns c = c.from.ensures ∙ c.cell.ensures ∙ sym (stack_height _ _)
