use mathlib.Core.Path.{◌∙◌}
use native.Mathlib.Omega.{arith}
use Rattle.rows.specs.Rows.{row_at}
use Rattle.step_text.proofs.StepLaws.{fit_as, row_text_as}
use Rattle.step_text.proofs.compose_row.Goals as goal

pub compose-requires : goal.compose-requires
compose-requires c =
    let fit = c.requires.held in
    (fit_as c.args.i _ _ _ c.fact_count-top.ensures c.task_count-free.ensures (omega (arith, c.label_of-label.ensures.low, fit.number)) fit, c.requires.room.0, c.requires.room.1)

pub returns-clause-text : goal.returns-clause-text
returns-clause-text c p =
    let a = c.args in
    c.compose.ensures.text p ∙ row_text_as (row_at a.rows.ops.now a.rows.cells.now 0) p c.fact_count-top.ensures c.task_count-free.ensures c.label_of-label.ensures.text
