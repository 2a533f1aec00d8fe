use Rattle.laws.proofs.RefusalLaws.{plan_long, plan_fits}
use Rattle.own_checks.proofs.plan_fits.Goals as goal

pub returns-then-plan-gt-MOST_PLAN_BYTES : goal.returns-then-plan-gt-MOST_PLAN_BYTES
returns-then-plan-gt-MOST_PLAN_BYTES c = rw (plan_long c.args.plan.now c.if-plan-gt-MOST_PLAN_BYTES.true, c.at.ensures)

pub returns : goal.returns
returns c = rw (plan_fits c.args.plan.now c.if-plan-gt-MOST_PLAN_BYTES.false)
