use Prim.Native.Nat.{ℕ}
use native.Mathlib.Omega.{arith}
use Rattle.drawing.proofs.DrawLaws.{◌▹◌, draws_none, draws_is}
use Rattle.stack_lines.proofs.StackLineLaws.{if_same, top_stays_lem, top_stays_not}
use Rattle.stack_lines.proofs.top_stays.Goals as goal

pub returns-then-stay-ne1 : goal.returns-then-stay-ne1
returns-then-stay-ne1 c =
    let a = c.args in
    draws_none (λ p. top_stays_not a.top a.stay p c.if-stay-ne1.true)

pub returns : goal.returns
returns c =
    let a = c.args in
    let e = c.if-stay-ne1.false in
    let n = if_same {A = ℕ} a.stay 1 1 0 e in
    draws_is (omega arith) (omega (arith, n)) (λ p. top_stays_lem a.top a.stay p e) (c.field.ensures.draws ▹ c.moving_line.ensures)
