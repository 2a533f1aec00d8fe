use Prim.Native.Nat.{◌*◌}
use lib.ListN.{drop}
use Rattle.rows.specs.Sizes.{row_cells}
use Rattle.rows.proofs.PushLaws.{Pushing}
use Rattle.rows.proofs.row.Rows.push.Given as goal

abbrev pub invariant-loop-h : goal.invariant-loop-h
invariant-loop-h l = Pushing l.initial.stack l.stack l.below (drop (row_cells * l.i) l.self.cells.now) l.h
