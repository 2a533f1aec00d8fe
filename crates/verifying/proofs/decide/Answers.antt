use mathlib.Core.Path.{◌∙◌}
use Rattle.rules.specs.Refusals.{check_plan}
use Rattle.rules.specs.Programs.{check_input}
use Rattle.verifying.proofs.decide.Goals as goal

pub returns : goal.returns
unfolding check_input
returns c =
    let a = c.read-asked.ensures in
    (c.verdict.ensures.1 ∙ (λ i. check_plan (a.numbers.0 i) (a.numbers.1 i) (a.table i) (a.plan i)), a.size)
