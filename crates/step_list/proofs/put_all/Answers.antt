use Rattle.words.specs.Words.{table_of}
use Rattle.step_list.proofs.StepListLaws.{writing_begins, all_written, row_room, row_written}
use Rattle.step_list.proofs.put_all.Goals as goal

pub loop-row-init : goal.loop-row-init
loop-row-init c = writing_begins c.args.form (table_of c.args.words.all.now) c.args.noted.now c.args.out.now c.requires.rows_in_bounds

pub put_steps-end-requires : goal.put_steps-end-requires
put_steps-end-requires c =
    let l = c.loop-row in
    let inside = c.loop-row-test.true in
    let its = c.from.ensures in
    record { held = (c.requires.held.0, rw its (c.requires.held.1 l.row-index inside)); row_in_bounds = row_room l.invariant inside its }

pub loop-row-preserved : goal.loop-row-preserved
loop-row-preserved c = row_written c.loop-row.invariant c.loop-row-test.true c.from.ensures c.put_steps-end.ensures.value c.put_steps-end.ensures.out_after

pub returns : goal.returns
returns c = all_written c.loop-row.invariant c.loop-row-test.false
