use mathlib.Core.Path.{sym, ap, ◌∙◌}
use mathlib.Core.List.{List}
use Prim.Native.Nat.{ℕ}
use Rattle.std.proofs.lemmas.Result.{err_from_is_err_and}
use Rattle.rules.specs.ReasonNumbers.{number}
use Rattle.run.specs.Steps.{refused}
use Rattle.run.specs.Runs.{point_of}
use Rattle.run.proofs.step.Goals as goal

pub returns-in_err-progress-clause-result_value : goal.returns-in_err-progress-clause-result_value
returns-in_err-progress-clause-result_value c =
    let told = err_from_is_err_and c.from_residual.result c.from_residual.ensures.1 in
    let turn = c.in_err-progress.ensures in
    rw (told.1, told.2) (ap (λ (cells : List ℕ). refused (number c.in_err-progress.field-0.0) (point_of c.args.run.progress cells)) (sym turn.stack_kept) ∙ turn.stack_after)
