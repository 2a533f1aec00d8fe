use native.Mathlib.Omega.{arith}
use Rattle.text.proofs.AppendLaws.{appends_is}
use Rattle.step_text.proofs.StepLaws.{step_few, step_shown}
use Rattle.step_text.proofs.put_operators.Goals as goal

pub put_positions-requires-clause-count_bound : goal.put_positions-requires-clause-count_bound
put_positions-requires-clause-count_bound c =
    let d = c.compose_step-count.ensures.composed in
    let few = step_few _ d c.args.words.held.valid c.requires.held.1 in
    omega (arith, d.most, few, c.drawn.ensures.places, c.requires.held.0, c.requires.figures.1)

pub returns : goal.returns
returns c =
    let d = c.compose_step-count.ensures.composed in
    let few = step_few _ d c.args.words.held.valid c.requires.held.1 in
    let put = c.put_positions.ensures in
    record { appends = appends_is (step_shown _ d _ c.drawn.ensures.text) put.appends; upper_bound = omega (arith, few, c.requires.held.0, put.upper_bound) }
