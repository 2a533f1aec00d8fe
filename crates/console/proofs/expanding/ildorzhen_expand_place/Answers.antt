use mathlib.Core.Path.{ap, ◌∙◌}
use lib.ListN.{length}
use Rattle.basics.specs.Answers.{place_of}
use Rattle.rules.specs.Refusals.{expand_plan}
use Rattle.laws.proofs.AnswerLaws.{mapped_place}
use Rattle.console.proofs.expanding.ildorzhen_expand_place.Goals as goal

pub returns : goal.returns
returns c =
    let a = c.args in
    c.place.ensures ∙ ap place_of c.measure.ensures ∙ mapped_place length (expand_plan a.bound a.form a.table.now a.plan.now (length a.steps.now))
