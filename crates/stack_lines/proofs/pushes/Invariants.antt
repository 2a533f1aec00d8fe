use Prim.Native.Nat.{◌-◌, ◌≤◌}
use Rattle.drawing.specs.Draws.{Draws}
use Rattle.rows.specs.Rows.{row_at}
use Rattle.stack_lines.specs.StackLines.{push_many}
use Rattle.stack_lines.proofs.pushes.Given as goal

abbrev pub invariant-loop-h : goal.invariant-loop-h
invariant-loop-h l =
    Draws (push_many l.top (row_at l.rows.ops.now l.rows.cells.now 0).rest (l.h - 1) (l.h - 1)) l.initial.t l.t × (l.h - 1 ≤ l.stay - 1)
