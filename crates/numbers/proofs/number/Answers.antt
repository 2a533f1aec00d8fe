use mathlib.Core.Path.{◌≡◌, ap, sym, ◌∙◌}
use Prim.Native.Nat.{ℕ, ◌+◌, ◌*◌, ◌%◌, ◌≤◌, ◌<◌}
use native.Mathlib.Omega.{arith}
use lib.ListN.{get_or}
use Rattle.rules.specs.Numbers.{sound}
use Rattle.basics.specs.Readings.{got}
use Rattle.numbers.proofs.GroupLaws.{one_group, first_group, group_last, group_bad, sound_some, sound_empty}
use Rattle.numbers.proofs.number.Goals as goal

pub returns-then-a-lt128 : goal.returns-then-a-lt128
returns-then-a-lt128 c =
    let a = c.args in
    let w = c.from-a in
    let k : get_or a.s.now a.at 0 < 128 = omega (arith, w.ensures, c.if-a-lt128.true) in
    ap (λ (n : ℕ). got n (a.at + 1)) w.ensures ∙ sym (one_group a.s.now a.at c.if-at-n.true k)

pub returns-then-zero : goal.returns-then-zero
returns-then-zero c =
    let a = c.args in
    let s = a.s.now in
    let w = c.from-a in
    let w2 = c.from-b in
    let k : 128 ≤ get_or s a.at 0 = omega (arith, w.ensures, c.if-a-lt128.false) in
    let b = first_group s a.at c.if-at-n.true k in
    let l : get_or s (a.at + 1) 0 < 128 = omega (arith, w2.ensures, c.if-b-lt128.true) in
    let z : get_or s (a.at + 1) 0 ≡ 0 = sym w2.ensures ∙ c.if-zero.true in
    rw c.at.ensures (sym (group_bad b c.if-next-n.true l (ap (sound 1) z ∙ sound_empty 1 (omega arith))))

pub returns-then-b-lt128 : goal.returns-then-b-lt128
returns-then-b-lt128 c =
    let a = c.args in
    let s = a.s.now in
    let w = c.from-a in
    let w2 = c.from-b in
    let k : 128 ≤ get_or s a.at 0 = omega (arith, w.ensures, c.if-a-lt128.false) in
    let b = first_group s a.at c.if-at-n.true k in
    let l : get_or s (a.at + 1) 0 < 128 = omega (arith, w2.ensures, c.if-b-lt128.true) in
    let t = sound_some 1 (get_or s (a.at + 1) 0) (omega arith) (omega (arith, w2.ensures, c.if-zero.false)) in
    (λ i. got (w.ensures i % 128 + w2.ensures i * 128) (a.at + 1 + 1)) ∙ sym (group_last b c.if-next-n.true l t)
