use Rattle.plan.proofs.NoteByteLaws.{notes_long, notes_kept, notes_written}
use native.Mathlib.Omega.{arith}
use Rattle.plan.proofs.hand_out.Goals as goal

pub returns-then-steps-tally : goal.returns-then-steps-tally
returns-then-steps-tally c = notes_kept c.requires.few.1 c.args.steps.now c.if-steps-tally.true

pub put_all-requires-clause-rows_in_bounds : goal.put_all-requires-clause-rows_in_bounds
put_all-requires-clause-rows_in_bounds c = omega (arith, notes_long c.requires.few.1, c.if-steps-tally.false)

pub returns : goal.returns
returns c = notes_written c.requires.few.1 c.args.steps.now c.if-steps-tally.false c.put_all.ensures
