use mathlib.Core.Path.{ap, ◌∙◌}
use lib.ListN.{length}
use Rattle.basics.specs.Answers.{number_of}
use Rattle.rules.specs.Refusals.{expand_plan}
use Rattle.laws.proofs.AnswerLaws.{mapped_number}
use Rattle.console.proofs.expanding.ildorzhen_expand_number.Goals as goal

pub returns : goal.returns
returns c =
    let a = c.args in
    c.number.ensures ∙ ap number_of c.measure.ensures ∙ mapped_number length (expand_plan a.bound a.form a.table.now a.plan.now (length a.steps.now))
