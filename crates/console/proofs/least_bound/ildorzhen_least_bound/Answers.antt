use mathlib.Core.Path.{ap, ◌∙◌}
use Rattle.basics.specs.Answers.{value_of, itself}
use Rattle.console.proofs.least_bound.ildorzhen_least_bound.Goals as goal

pub returns : goal.returns
returns c = c.value.ensures ∙ ap (value_of itself) c.find_least.ensures
