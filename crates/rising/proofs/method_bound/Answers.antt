use mathlib.Core.Path.{ap}
use Prim.Native.Nat.{ℕ, max}
use native.Mathlib.Omega.{arith}
use lib.ListN.{drop}
use Rattle.rules.specs.Tables.{method}
use Rattle.rules.specs.LeastBounds.{rise}
use Rattle.words.specs.Words.{table_of}
use Rattle.words.proofs.ViewLaws.{subtask_low}
use Rattle.laws.proofs.CountLaws.{prefix_short}
use Rattle.rising.proofs.RiseLaws.{bound_turn, bound_end}
use Rattle.rising.proofs.method_bound.Goals as goal

pub loop-j-init : goal.loop-j-init
loop-j-init c =
    let a = c.args in
    let t = table_of a.words.all.now in
    let e = c.prefix_length-taken.ensures in (
      omega (arith, e, c.width_of-n.ensures, prefix_short a.form t a.k),
      ap (λ (i : ℕ). max 1 (rise a.bounds.now (drop i (method t a.k).subs))) e,
    )

pub loop-j-preserved : goal.loop-j-preserved
loop-j-preserved c =
    let z = c.loop-j in
    let u = c.loop-j-test.true in (
      omega arith,
      bound_turn _ _ _ _ _ _ _ _ c.width_of-n.ensures u c.subtask-task.ensures
          (omega (arith, subtask_low c.args.words.all.now c.args.words.held c.args.k c.requires.0 z.j (omega arith))) c.max-best.ensures z.invariant.1,
    )

pub returns : goal.returns
returns c =
    let z = c.loop-j in
    let a = c.args in
    bound_end a.bounds.now (method (table_of a.words.all.now) a.k).subs z.j z.best _ (omega (arith, c.width_of-n.ensures)) z.invariant.1
