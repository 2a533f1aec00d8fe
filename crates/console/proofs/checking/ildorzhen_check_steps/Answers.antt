use mathlib.Core.Path.{ap, ◌∙◌}
use Rattle.basics.specs.Answers.{value_of}
use Rattle.rules.specs.Checks.{steps_in}
use Rattle.console.proofs.checking.ildorzhen_check_steps.Goals as goal

pub returns : goal.returns
returns c = c.steps.ensures ∙ ap (value_of steps_in) c.verdict.ensures.1
