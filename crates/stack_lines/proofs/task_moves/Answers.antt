use Prim.Native.Nat.{ℕ}
use native.Mathlib.Omega.{arith}
use Rattle.drawing.proofs.DrawLaws.{◌▹◌, draws_none, draws_is}
use Rattle.stack_lines.proofs.StackLineLaws.{if_other, task_moves_lem, task_moves_not}
use Rattle.stack_lines.proofs.task_moves.Goals as goal

pub returns-then-bottom-task : goal.returns-then-bottom-task
returns-then-bottom-task c =
    let a = c.args in
    draws_none (λ p. task_moves_not a.top a.task a.bottom p c.if-bottom-task.true)

pub returns : goal.returns
returns c =
    let a = c.args in
    let d = c.if-bottom-task.false in
    let n = if_other {A = ℕ} a.bottom a.task 0 1 d in
    draws_is (omega arith) (omega (arith, n)) (λ p. task_moves_lem a.top a.task a.bottom p d) (c.moving.ensures ▹ c.field.ensures.draws ▹ c.field_line.ensures.draws)
