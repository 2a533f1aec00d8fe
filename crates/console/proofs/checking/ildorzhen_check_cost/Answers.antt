use mathlib.Core.Path.{ap, ◌∙◌}
use Rattle.basics.specs.Answers.{value_of}
use Rattle.rules.specs.Checks.{cost_of}
use Rattle.console.proofs.checking.ildorzhen_check_cost.Goals as goal

pub returns : goal.returns
returns c = c.cost.ensures ∙ ap (value_of cost_of) c.verdict.ensures.1
