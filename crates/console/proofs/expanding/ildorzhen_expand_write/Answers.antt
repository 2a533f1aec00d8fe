use mathlib.Core.Path.{ap, ◌∙◌}
use lib.ListN.{length}
use Rattle.basics.specs.Answers.{value_of, itself}
use Rattle.rules.specs.Refusals.{expand_plan}
use Rattle.laws.proofs.AnswerLaws.{mapped_value}
use Rattle.console.proofs.expanding.ildorzhen_expand_write.Goals as goal

pub returns : goal.returns
returns c =
    let a = c.args in
    let done = c.write.ensures in record {
      value = c.value.ensures ∙ ap (value_of itself) done.result_value
          ∙ mapped_value length itself (expand_plan a.bound a.form a.table.now a.plan.now (length a.steps.now));
      steps_after = done.steps_after;
    }
