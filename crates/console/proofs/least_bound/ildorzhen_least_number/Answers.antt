use mathlib.Core.Path.{ap, ◌∙◌}
use Rattle.basics.specs.Answers.{number_of}
use Rattle.console.proofs.least_bound.ildorzhen_least_number.Goals as goal

pub returns : goal.returns
returns c = c.number.ensures ∙ ap number_of c.find_least.ensures
