use mathlib.Core.Path.{ap, ◌∙◌}
use lib.ListN.{length}
use Rattle.basics.specs.Answers.{place_of}
use Rattle.rules.specs.Refusals.{one_section}
use Rattle.laws.proofs.AnswerLaws.{mapped_place}
use Rattle.console.proofs.one_section.ildorzhen_section_place.Goals as goal

pub returns : goal.returns
returns c =
    let a = c.args in
    c.place.ensures ∙ ap place_of c.measure.ensures ∙ mapped_place length (one_section a.bound a.form a.table.now a.index (length a.text.now) a.at)
