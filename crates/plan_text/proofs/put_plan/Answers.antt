use Rattle.rules.specs.Plans.{texts_of}
use native.Mathlib.Omega.{arith}
use Rattle.words.specs.Words.{table_of}
use Rattle.text.proofs.PutLaws.{◌▹◌, puts_is, puts_none}
use Rattle.plan_text.proofs.PlanLineLaws.{texts_more, small_each}
use Rattle.plan_text.proofs.put_plan.Goals as goal

pub loop-mark-init : goal.loop-mark-init
unfolding texts_of
loop-mark-init c = (puts_none _ _, omega arith)

pub put_operator-at-requires : goal.put_operator-at-requires
put_operator-at-requires c =
    let p = c.requires in
    let l = c.loop-mark in
    (small_each (table_of c.args.words.all.now) c.args.marks.now p.1 l.mark-index c.loop-mark-test.true, omega (arith, p.0, l.invariant.1, c.loop-mark-test.true))

pub loop-mark-preserved : goal.loop-mark-preserved
loop-mark-preserved c =
    let l = c.loop-mark in
    let put = c.put_operator-at.ensures in
    let e = texts_more (table_of c.args.words.all.now) c.args.marks.now l.mark-index c.loop-mark-test.true in
    (puts_is e (l.invariant.0 ▹ put.puts), omega (arith, put.upper_bound, l.invariant.1))
