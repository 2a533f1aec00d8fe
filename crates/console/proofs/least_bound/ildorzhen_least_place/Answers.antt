use mathlib.Core.Path.{ap, ◌∙◌}
use Rattle.basics.specs.Answers.{place_of}
use Rattle.console.proofs.least_bound.ildorzhen_least_place.Goals as goal

pub returns : goal.returns
returns c = c.place.ensures ∙ ap place_of c.find_least.ensures
