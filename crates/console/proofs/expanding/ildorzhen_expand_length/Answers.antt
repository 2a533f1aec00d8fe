use mathlib.Core.Path.{ap, ◌∙◌}
use lib.ListN.{length}
use Rattle.basics.specs.Answers.{value_of, itself}
use Rattle.rules.specs.Refusals.{expand_plan}
use Rattle.laws.proofs.AnswerLaws.{mapped_value}
use Rattle.console.proofs.expanding.ildorzhen_expand_length.Goals as goal

pub returns : goal.returns
returns c =
    let a = c.args in
    c.value.ensures ∙ ap (value_of itself) c.measure.ensures ∙ mapped_value length itself (expand_plan a.bound a.form a.table.now a.plan.now (length a.steps.now))
