use native.Mathlib.Omega.{arith}
use lib.ListN.{length-set}
use Rattle.text.proofs.AppendLaws.{sets_more}
use Rattle.text.proofs.copy.Goals as goal

pub loop-i-preserved : goal.loop-i-preserved
loop-i-preserved c =
    let l = c.loop-i.invariant in
    (omega arith, simp length-set l.1, rw l.2 (sets_more _ _ _ _ c.loop-i-test.true))
