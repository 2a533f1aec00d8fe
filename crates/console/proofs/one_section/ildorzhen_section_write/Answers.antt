use mathlib.Core.Path.{ap, ◌∙◌}
use lib.ListN.{length}
use Rattle.basics.specs.Answers.{value_of, itself}
use Rattle.rules.specs.Refusals.{one_section}
use Rattle.laws.proofs.AnswerLaws.{mapped_value}
use Rattle.console.proofs.one_section.ildorzhen_section_write.Goals as goal

pub returns : goal.returns
returns c =
    let a = c.args in
    let done = c.write.ensures in
    record { value = c.value.ensures ∙ ap (value_of itself) done.result_value ∙ mapped_value length itself (one_section a.bound a.form a.table.now a.index (length a.text.now) a.at); text_after = done.text_after }
