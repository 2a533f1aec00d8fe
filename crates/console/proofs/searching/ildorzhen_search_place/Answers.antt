use Rattle.replies.specs.Findings.{figures_of, figures_in}
use Rattle.replies.proofs.ToldLaws.{place_read}
use Rattle.laws.proofs.AnswerLaws.{mapped_place}
use Rattle.rules.specs.Refusals.{search_plan}
use Rattle.basics.specs.Answers.{place_of}
use lib.ListN.{length}
use mathlib.Core.Path.{ap, ◌∙◌}
use Rattle.console.proofs.searching.ildorzhen_search_place.Goals as goal

pub returns : goal.returns
returns c =
    let a = c.args in
    c.place.ensures ∙ place_read figures_in c.measure.result ∙ ap place_of c.measure.ensures
    ∙ mapped_place figures_of (search_plan a.bound a.form a.limit a.budget a.table.now (length a.text.now))
