use Rattle.laws.proofs.RefusalLaws.{limit_low, limit_high, budget_high, limits_in}
use Rattle.own_checks.proofs.limits_hold.Goals as goal

pub returns-then-low : goal.returns-then-low
returns-then-low c = rw (limit_low c.args.limit c.args.budget c.if-low.true, c.at.ensures)

pub returns-then-limit-gt-MOST_LIMIT : goal.returns-then-limit-gt-MOST_LIMIT
returns-then-limit-gt-MOST_LIMIT c =
    rw (limit_high c.args.limit c.args.budget c.if-low.false c.if-limit-gt-MOST_LIMIT.true, c.at-then-limit-gt-MOST_LIMIT.ensures)

pub returns-then-budget-gt-MOST_BUDGET : goal.returns-then-budget-gt-MOST_BUDGET
returns-then-budget-gt-MOST_BUDGET c =
    rw (
      budget_high c.args.limit c.args.budget c.if-low.false c.if-limit-gt-MOST_LIMIT.false c.if-budget-gt-MOST_BUDGET.true,
      c.at-then-budget-gt-MOST_BUDGET.ensures,
    )

pub returns : goal.returns
returns c = rw (limits_in c.args.limit c.args.budget c.if-low.false c.if-limit-gt-MOST_LIMIT.false c.if-budget-gt-MOST_BUDGET.false)
