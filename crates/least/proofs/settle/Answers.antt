use mathlib.Core.Path.{sym, ◌∙◌}
use native.Mathlib.Omega.{arith}
use Rattle.rules.specs.Tables.{method_count}
use Rattle.laws.proofs.RoundLaws.{rounded, round_length, round_settles, round_falls}
use Rattle.words.specs.Words.{table_of}
use Rattle.least.proofs.settle.Goals as goal

pub loop-again-smaller : goal.loop-again-smaller
loop-again-smaller c =
    let z = c.loop-again in
    let r = c.one_round-again in
    rw (c.loop-again-test.true, r.ensures.bounds_after) (round_falls c.args.form (table_of c.args.words.all.now) z.bounds c.args.words.held.valid z.invariant.0 r.result r.ensures.value)

pub loop-again-preserved : goal.loop-again-preserved
loop-again-preserved c =
    let z = c.loop-again in
    let t = table_of c.args.words.all.now in
    let r = c.one_round-again in (
      rw r.ensures.bounds_after (rounded c.args.form t c.args.words.held.valid z.bounds (method_count t) (omega arith) z.invariant.0),
      λ e. rw r.ensures.bounds_after (round_settles c.args.form t z.bounds (sym e ∙ r.ensures.value)),
      rw r.ensures.bounds_after (round_length c.args.form t z.bounds (method_count t) ∙ z.invariant.2),
    )
