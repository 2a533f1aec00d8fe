use mathlib.Core.Path.{subst}
use Prim.Native.Nat.{ℕ, ◌+◌, ◌*◌, ◌<◌}
use native.Mathlib.Omega.{arith}
use lib.ListN.{length, set, drop}
use lib.Seq.{get_or-drop}
use Rattle.rows.specs.Sizes.{row_cells}
use Rattle.rows.proofs.PushLaws.{Pushing, pushed_none, pushed_more, pushed_all}
use Rattle.rows.proofs.row.Rows.push.Goals as goal

pub loop-h-init : goal.loop-h-init
loop-h-init c = pushed_none _ _ _

pub loop-h-preserved : goal.loop-h-preserved
loop-h-preserved c =
    let a = c.args in
    let l = c.loop-h in
    let from = row_cells * a.i in
    let h : a.below + l.h < length l.stack = omega (arith, l.invariant.size) in
    let m = pushed_more a.stack.now l.stack (drop from a.self.cells.now) a.below l.h l.invariant h in
    subst (λ (v : ℕ). Pushing a.stack.now (set l.stack (a.below + l.h) v) a.below (drop from a.self.cells.now) (l.h + 1))
    (get_or-drop from a.self.cells.now l.h 0) m

pub returns : goal.returns
returns c =
    let l = c.loop-h in
    pushed_all c.args.stack.now l.stack c.args.below (drop (row_cells * c.args.i) c.args.self.cells.now) _ l.h l.invariant (omega (arith, c.requires.2.few))
