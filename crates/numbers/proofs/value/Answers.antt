use mathlib.Core.Path.{◌≡◌, ap, sym, subst, ◌∙◌}
use Prim.Native.Nat.{ℕ, suc, ◌%◌, ◌<◌, ◌-◌, ◌+◌, ◌*◌, ◌^◌}
use native.Mathlib.Omega.{arith}
use lib.ListN.{length}
use lib.Seq.{slice}
use Rattle.rules.specs.Numbers.{groups_value}
use Rattle.laws.proofs.NumberLaws.{spell_one, spell_prev, room, room_fits}
use Rattle.numbers.proofs.value.Goals as goal

pub loop-i-init : goal.loop-i-init
loop-i-init c =
    let a = c.args in
    let h : a.e < length a.s.now = omega arith in
    (omega arith, omega arith, c.from-v.ensures ∙ sym (spell_one a.s.now a.e h (omega arith)), omega arith)

pub overflow_mul-v : goal.overflow_mul-v
overflow_mul-v c =
    let l = c.loop-i in
    let a = c.args in
    omega (arith, room_fits (9 - (l.i - a.at)) l.v 0 (omega arith) (omega arith) (omega arith))

pub overflow_add-v : goal.overflow_add-v
overflow_add-v c =
    let l = c.loop-i in
    let a = c.args in
    record { fits = room_fits (9 - (l.i - a.at)) l.v (c.from.result % 128) (omega arith) (omega arith) (omega arith) }

pub loop-i-preserved : goal.loop-i-preserved
loop-i-preserved c =
    let l = c.loop-i in
    let a = c.args in
    let h : a.e < length a.s.now = omega arith in
    let n : suc (9 - (l.i - a.at)) ≡ 9 - (l.i - 1 - a.at) = omega arith in (
      omega arith,
      omega arith,
      omega (arith, spell_prev a.s.now a.e h l.i (omega arith) (omega arith)),
      subst (λ (k : ℕ). l.v * 128 + c.from.result % 128 < 2 * 128 ^ k) n
          (room (9 - (l.i - a.at)) l.v (c.from.result % 128) (omega arith) (omega arith)),
    )

pub returns : goal.returns
returns c =
    let l = c.loop-i in
    let a = c.args in
    let i : l.i ≡ a.at = omega arith in
    l.invariant.2 ∙ ap (λ (j : ℕ). groups_value (slice j (a.e + 1) a.s.now)) i
