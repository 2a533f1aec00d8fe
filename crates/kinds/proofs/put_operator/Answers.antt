use native.Mathlib.Omega.{arith}
use Rattle.laws.proofs.StepSizes.{positions_low}
use Rattle.words.specs.Words.{table_of}
use Rattle.kinds.proofs.put_operator.Goals as goal

pub put_drawn-requires : goal.put_drawn-requires
put_drawn-requires c =
    let few = positions_low c.args.form (table_of c.args.words.all.now) c.args.words.held.valid c.args.i c.requires.held.1 c.args.bound in
    let most = c.compose_step.ensures.composed.most in
    (omega (arith, few, c.requires.held.0, c.requires.p_bound), omega (arith, most, c.drawn.ensures.places))
