use mathlib.Core.Path.{◌∙◌}
use Rattle.rows.specs.Rows.{row_at}
use Rattle.drawing.proofs.DrawLaws.{◌▹◌, keeps_both, drawn_stands, drawn_all}
use Rattle.compose.specs.Groups.{whole}
use Rattle.compose.specs.RowTexts.{sets_of}
use Rattle.compose.proofs.GroupLaws.{operator_cut, kept_low, altered_low}
use Rattle.compose.proofs.compose.Goals as goal

pub returns-clause-stands : goal.returns-clause-stands
returns-clause-stands c =
    drawn_stands c.clear.ensures.blank (c.put_name.ensures ▹ c.prevails.ensures ▹ c.effects.ensures ▹ c.pushes.ensures ▹ c.put_cost.ensures.draws)

pub returns-clause-memory : goal.returns-clause-memory
returns-clause-memory c =
    keeps_both c.clear.ensures.memory.0 (c.put_name.ensures ▹ c.prevails.ensures ▹ c.effects.ensures ▹ c.pushes.ensures ▹ c.put_cost.ensures.draws).memory

pub returns-clause-text : goal.returns-clause-text
returns-clause-text c p =
    let f = c.requires.0 in
    let a = c.args in
    let row = row_at a.rows.ops.now a.rows.cells.now 0 in
    let bottom = c.bottom_of-bottom in
    drawn_all c.clear.ensures.blank (c.put_name.ensures ▹ c.prevails.ensures ▹ c.effects.ensures ▹ c.pushes.ensures ▹ c.put_cost.ensures.draws) p
    ∙ (λ i. (whole a.top a.letter a.k (c.needs-needs.ensures i) (c.adds-adds.ensures i) (c.dels-dels.ensures i) (c.left-stay.ensures i) (c.task-task.ensures i) bottom.result row.rest (c.cost-cost.ensures i)).text p)
    ∙ operator_cut a.top a.free (sets_of row) row.task row.rest p bottom.result bottom.ensures.0 a.letter a.k row.cost (kept_low f.row) (altered_low f.row)
