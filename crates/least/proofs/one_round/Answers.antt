use native.Mathlib.Omega.{arith}
use Rattle.words.specs.Words.{table_of}
use Rattle.least.proofs.BoundLaws.{round_more, lowered_more}
use Rattle.least.proofs.one_round.Goals as goal

pub loop-k-preserved : goal.loop-k-preserved
loop-k-preserved c =
    let z = c.loop-k in
    let a = c.args in
    let t = table_of a.words.all.now in
    let i = c.improve_one-lowered.ensures in (
      omega (arith, c.loop-k-test.true),
      round_more a.form t a.bounds.now z.bounds z.k z.invariant.1 _ i.bounds_after,
      lowered_more a.form t a.bounds.now z.bounds z.k z.invariant.1 _ _ z.invariant.2 i.value,
    )
