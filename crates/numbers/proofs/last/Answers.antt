use native.Mathlib.Omega.{arith}
use Rattle.laws.proofs.NumberLaws.{run_end, run_stop, run_more}
use Rattle.numbers.proofs.last.Goals as goal

pub returns-then-s-i-lt128 : goal.returns-then-s-i-lt128
returns-then-s-i-lt128 c =
    let i = c.loop-i.i in
    let s = c.args.s.now in
    (omega (arith, run_stop s i c.loop-i-test.true c.if-s-i-lt128.true), c.loop-i-test.true)

pub loop-i-preserved : goal.loop-i-preserved
loop-i-preserved c =
    let i = c.loop-i.i in
    let s = c.args.s.now in
    omega (arith, run_more s i c.loop-i-test.true c.if-s-i-lt128.false)

pub returns : goal.returns
returns c =
    let i = c.loop-i.i in
    let s = c.args.s.now in
    omega (arith, run_end s i c.loop-i-test.false)
