use mathlib.Core.Path.{ap, ◌∙◌}
use Rattle.basics.specs.Answers.{place_of}
use Rattle.console.proofs.sections.ildorzhen_sections_place.Goals as goal

pub returns : goal.returns
returns c = c.place.ensures ∙ ap place_of c.count_sections.ensures
