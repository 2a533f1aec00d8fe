use Prim.Native.Nat.{ℕ}
use native.Mathlib.Omega.{arith}
use Rattle.drawing.proofs.DrawLaws.{◌▹◌, draws_none, draws_is}
use Rattle.stack_lines.proofs.StackLineLaws.{if_other, top_moves_lem, top_moves_not}
use Rattle.stack_lines.proofs.top_moves.Goals as goal

pub returns-then-stay-eq1 : goal.returns-then-stay-eq1
returns-then-stay-eq1 c =
    let a = c.args in
    draws_none (λ p. top_moves_not a.top a.stay p c.if-stay-eq1.true)

pub returns : goal.returns
returns c =
    let a = c.args in
    let d = c.if-stay-eq1.false in
    let n = if_other {A = ℕ} a.stay 1 0 2 d in
    draws_is (omega arith) (omega (arith, n)) (λ p. top_moves_lem a.top a.stay p d) (c.field.ensures.draws ▹ c.moving.ensures ▹ c.moving_line.ensures)
