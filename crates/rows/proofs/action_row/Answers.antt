use mathlib.Core.Path.{ap, ◌∙◌}
use Rattle.rules.specs.Tables.{Action}
use Rattle.rules.specs.Facts.{join_one}
use Rattle.words.specs.Words.{table_of}
use Rattle.facts.specs.Sets.{join_read}
use Rattle.rows.proofs.RowLaws.{action_stored}
use Rattle.rows.proofs.action_row.Goals as goal

pub returns : goal.returns
returns c f =
    let a = c.args in
    let act = c.action_at-a in
    let put = c.put_sets in
    let tail = c.put_tail in
    action_stored a.bound f (table_of a.words.all.now) a.k a.i a.ops.now put.new.ops a.cells.now tail.new.cells (join_read c.join_one-join.result) act.result.cost
    c.requires.1
    (c.join_one-join.ensures ∙ (λ i. join_one (c.no_join.ensures i) (act.ensures i)))
    (ap (λ (x : Action). x.cost) act.ensures)
    put.ensures
    tail.ensures
