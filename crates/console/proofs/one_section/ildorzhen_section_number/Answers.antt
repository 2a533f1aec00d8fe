use mathlib.Core.Path.{ap, ◌∙◌}
use lib.ListN.{length}
use Rattle.basics.specs.Answers.{number_of}
use Rattle.rules.specs.Refusals.{one_section}
use Rattle.laws.proofs.AnswerLaws.{mapped_number}
use Rattle.console.proofs.one_section.ildorzhen_section_number.Goals as goal

pub returns : goal.returns
returns c =
    let a = c.args in
    c.number.ensures ∙ ap number_of c.measure.ensures ∙ mapped_number length (one_section a.bound a.form a.table.now a.index (length a.text.now) a.at)
