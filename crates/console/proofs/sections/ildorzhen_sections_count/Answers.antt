use mathlib.Core.Path.{ap, ◌∙◌}
use Rattle.basics.specs.Answers.{value_of, itself}
use Rattle.console.proofs.sections.ildorzhen_sections_count.Goals as goal

pub returns : goal.returns
returns c = c.value.ensures ∙ ap (value_of itself) c.count_sections.ensures
