use mathlib.Core.Path.{◌∙◌}
use native.Mathlib.Omega.{arith}
use Rattle.links.proofs.LinkLaws.{task_is, task_fits, last_is, left_out, one_linked}
use Rattle.links.proofs.link_row.Goals as goal

pub returns-then-nowhere : goal.returns-then-nowhere
returns-then-nowhere c =
    let pre = c.requires in
    let e = last_is pre.0.rows c.args.i (omega (arith, pre.1.within)) in
    left_out _ _ _ pre.0.held.valid _ _ pre.1 (omega (arith, c.if-nowhere.true, c.last-last.ensures, e))

pub offset_bounds-links-task : goal.offset_bounds-links-task
offset_bounds-links-task c =
    let pre = c.requires in
    record { fits = omega (arith, c.task-task.ensures, task_fits pre.0.rows pre.0.held.valid _ pre.1.within) }

pub bounds-links-task : goal.bounds-links-task
bounds-links-task c =
    let pre = c.requires in
    omega (arith, c.task-task.ensures, task_fits pre.0.rows pre.0.held.valid _ pre.1.within)

pub offset_bounds-links-task-2 : goal.offset_bounds-links-task-2
offset_bounds-links-task-2 c =
    let pre = c.requires in
    record { fits = omega (arith, c.task-task.ensures, task_fits pre.0.rows pre.0.held.valid _ pre.1.within) }

pub bounds-links-task-2 : goal.bounds-links-task-2
bounds-links-task-2 c =
    let pre = c.requires in
    omega (arith, c.task-task.ensures, task_fits pre.0.rows pre.0.held.valid _ pre.1.within)

pub returns : goal.returns
returns c =
    let pre = c.requires in
    let task = c.task-task.ensures ∙ task_is pre.0.rows _ (omega (arith, pre.1.within)) in
    let last = last_is pre.0.rows c.args.i (omega (arith, pre.1.within)) in
    one_linked _ _ _ pre.0.held.valid _ _ _ pre.1 task
    (omega (arith, c.if-nowhere.false, c.last-last.ensures, last))
