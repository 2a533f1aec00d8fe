use Rattle.replies.specs.Findings.{figures_of, bytes_in}
use Rattle.laws.proofs.AnswerLaws.{mapped_value}
use Rattle.rules.specs.Refusals.{search_plan}
use Rattle.basics.specs.Answers.{value_of}
use lib.ListN.{length}
use mathlib.Core.Path.{ap, ◌∙◌}
use Rattle.console.proofs.searching.ildorzhen_search_write.Goals as goal

pub returns : goal.returns
returns c =
    let a = c.args in
    let done = c.write.ensures in
    record { value = c.bytes.ensures ∙ ap (value_of bytes_in) done.result_value ∙ mapped_value figures_of bytes_in (search_plan a.bound a.form a.limit a.budget a.table.now (length a.text.now)); text_after = done.text_after }
