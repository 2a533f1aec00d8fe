use Prim.Native.Nat.{◌-◌, ◌<◌}
use mathlib.Core.Path.{◌≡◌, refl, ap}
use native.Mathlib.Omega.{arith}
use lib.ListN.{length}
use Rattle.basics.specs.Lists.{upto}
use Rattle.rows.specs.Rows.{row_at}
use Rattle.stack_lines.specs.StackLines.{pushed}
use Rattle.drawing.proofs.DrawLaws.{◌▹◌, draws_none, draws_is, room_after}
use Rattle.stack_lines.proofs.StackLineLaws.{pushes_more}
use Rattle.stack_lines.proofs.pushes.Goals as goal

pub loop-h-init : goal.loop-h-init
unfolding upto
loop-h-init c = (draws_none (λ p. refl), omega arith)

pub push-requires : goal.push-requires
push-requires c =
    let l = c.loop-h in
    let rest = (row_at c.args.rows.ops.now c.args.rows.cells.now 0).rest in
    let more : l.h < length rest = omega (arith, c.left-stay.ensures, c.loop-h-test) in
    let few = c.requires.2.held.few in (
      room_after c.requires.0 l.invariant.0 (omega (arith, more, few, l.auto.h)) (omega (arith, more, l.auto.h)),
      c.requires.1,
      omega (arith, more, few),
      omega (arith, c.left_at-task.ensures, c.requires.2.low (length rest - 1 - l.h) (omega (arith, more))),
    )

pub loop-h-preserved : goal.loop-h-preserved
loop-h-preserved c =
    let l = c.loop-h in
    let a = c.args in
    let rest = (row_at a.rows.ops.now a.rows.cells.now 0).rest in (
      draws_is (omega (arith, l.auto.h)) (omega (arith, l.auto.h)) (λ p. pushes_more a.top rest l.h p _ l.auto.h c.left_at-task.ensures) (l.invariant.0 ▹ c.push.ensures),
      omega (arith, l.auto.h, c.loop-h-test),
    )

pub returns : goal.returns
returns c =
    let l = c.loop-h in
    let rest = (row_at c.args.rows.ops.now c.args.rows.cells.now 0).rest in
    let e : l.h - 1 ≡ length rest - 1 = omega (arith, c.left-stay.ensures, l.invariant.1, l.auto.h, c.loop-h-test) in
    draws_is (omega (arith, e, c.requires.2.held.few)) (omega (arith, e)) (λ p. ap (upto (pushed c.args.top rest p)) e) l.invariant.0
