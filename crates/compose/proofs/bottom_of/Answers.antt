use Prim.Native.Nat.{◌-◌, ◌<◌}
use mathlib.Core.Path.{sym, ◌∙◌}
use native.Mathlib.Omega.{arith}
use lib.ListN.{length}
use Rattle.rows.specs.Rows.{row_at}
use Rattle.compose.proofs.GroupLaws.{bottom_none, bottom_last}
use Rattle.compose.proofs.bottom_of.Goals as goal

pub left-stay-requires : goal.left-stay-requires
left-stay-requires c = c.requires.1.held.fits

pub returns-then-stay-eq0 : goal.returns-then-stay-eq0
returns-then-stay-eq0 c =
    let rest = (row_at c.args.rows.ops.now c.args.rows.cells.now 0).rest in
    (bottom_none c.args.free rest (sym c.left-stay.ensures ∙ c.if-stay-eq0.true), c.requires.0)

pub left_at-requires : goal.left_at-requires
left_at-requires c =
    (c.requires.1.held, omega (arith, c.left-stay.ensures, c.if-stay-eq0.false))

pub returns : goal.returns
returns c =
    let rest = (row_at c.args.rows.ops.now c.args.rows.cells.now 0).rest in
    let some : 0 < length rest = omega (arith, c.left-stay.ensures, c.if-stay-eq0.false) in
    let at = c.left_at.ensures in
    (bottom_last c.args.free rest _ some at, omega (arith, at, c.requires.1.low (length rest - 1 - 0) (omega (arith, some))))
