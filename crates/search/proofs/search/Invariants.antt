use Prim.Native.Nat.{◌+◌, ◌-◌, ◌*◌}
use Rattle.words.specs.Words.{table_of}
use Rattle.rows.specs.Sizes.{most_rows}
use Rattle.links.specs.Links.{row_of}
use Rattle.walks.proofs.GoingLaws.{Going}
use Rattle.search.proofs.TurnLaws.{rows_left}
use Rattle.search.proofs.search.Given as goal

abbrev pub invariant-loop-index : goal.invariant-loop-index
invariant-loop-index l = Going l.bound l.form (table_of l.words.all.now) l.limit l.budget l.stack l.trail l.at (row_of l.next) l.depth l.applied

abbrev pub decreases-loop-index : goal.decreases-loop-index
decreases-loop-index l = 2 * (most_rows + 1) * (l.budget - l.applied) + (most_rows + 1) * l.depth + rows_left (row_of l.next)
