use mathlib.Core.Path.{ap, ◌∙◌}
use Rattle.basics.specs.Answers.{value_of}
use Rattle.rules.specs.Checks.{operators_in}
use Rattle.console.proofs.checking.ildorzhen_check_operators.Goals as goal

pub returns : goal.returns
returns c = c.operators.ensures ∙ ap (value_of operators_in) c.verdict.ensures.1
