use mathlib.Core.Path.{ap, ◌∙◌}
use Rattle.basics.specs.Answers.{number_of}
use Rattle.console.proofs.sections.ildorzhen_sections_number.Goals as goal

pub returns : goal.returns
returns c = c.number.ensures ∙ ap number_of c.count_sections.ensures
