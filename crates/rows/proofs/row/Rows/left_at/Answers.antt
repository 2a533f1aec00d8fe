use mathlib.Core.Path.{◌∙◌}
use Prim.Native.Nat.{◌+◌, ◌*◌}
use lib.ListN.{get_or}
use Rattle.rows.specs.Sizes.{row_cells, left_cell}
use Rattle.rows.proofs.StackLaws.{stack_cell}
use Rattle.rows.proofs.row.Rows.left_at.Goals as goal

pub returns : goal.returns
returns c =
    c.from.ensures ∙ c.cell.ensures ∙ stack_cell c.args.self.cells.now (row_cells * c.args.i) (get_or c.args.self.cells.now (row_cells * c.args.i + left_cell) 0) c.args.h c.requires.1
