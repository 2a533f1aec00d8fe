use Rattle.replies.specs.Findings.{figures_of, applied_of}
use Rattle.laws.proofs.AnswerLaws.{mapped_value}
use Rattle.rules.specs.Refusals.{search_plan}
use Rattle.basics.specs.Answers.{value_of}
use lib.ListN.{length}
use mathlib.Core.Path.{ap, ◌∙◌}
use Rattle.console.proofs.searching.ildorzhen_search_applied.Goals as goal

pub returns : goal.returns
returns c =
    let a = c.args in
    c.applied.ensures ∙ ap (value_of applied_of) c.measure.ensures
    ∙ mapped_value figures_of applied_of (search_plan a.bound a.form a.limit a.budget a.table.now (length a.text.now))
