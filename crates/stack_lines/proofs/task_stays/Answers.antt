use Prim.Native.Nat.{ℕ}
use native.Mathlib.Omega.{arith}
use Rattle.drawing.proofs.DrawLaws.{◌▹◌, draws_none, draws_is}
use Rattle.stack_lines.proofs.StackLineLaws.{if_same, task_stays_lem, task_stays_not}
use Rattle.stack_lines.proofs.task_stays.Goals as goal

pub returns-then-bottom-task : goal.returns-then-bottom-task
returns-then-bottom-task c =
    let a = c.args in
    draws_none (λ p. task_stays_not a.top a.task a.bottom p c.if-bottom-task.true)

pub returns : goal.returns
returns c =
    let a = c.args in
    let e = c.if-bottom-task.false in
    let n = if_same {A = ℕ} a.bottom a.task 1 0 e in
    draws_is (omega arith) (omega (arith, n)) (λ p. task_stays_lem a.top a.task a.bottom p e) (c.moving.ensures ▹ c.field_line.ensures.draws)
