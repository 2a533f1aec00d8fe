use Rattle.replies.specs.Findings.{figures_of, figures_in}
use Rattle.replies.proofs.ToldLaws.{number_read}
use Rattle.laws.proofs.AnswerLaws.{mapped_number}
use Rattle.rules.specs.Refusals.{search_plan}
use Rattle.basics.specs.Answers.{number_of}
use lib.ListN.{length}
use mathlib.Core.Path.{ap, ◌∙◌}
use Rattle.console.proofs.searching.ildorzhen_search_number.Goals as goal

pub returns : goal.returns
returns c =
    let a = c.args in
    c.number.ensures ∙ number_read figures_in c.measure.result ∙ ap number_of c.measure.ensures
    ∙ mapped_number figures_of (search_plan a.bound a.form a.limit a.budget a.table.now (length a.text.now))
