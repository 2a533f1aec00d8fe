use mathlib.Core.Path.{◌≡◌, ap, sym, subst, ◌∙◌}
use Prim.Native.Nat.{ℕ, ◌+◌, ◌*◌, ◌%◌, ◌^◌, ◌≤◌, ◌<◌}
use native.Mathlib.Omega.{arith}
use lib.ListN.{get_or}
use Rattle.rules.specs.Numbers.{sound}
use Rattle.basics.specs.Readings.{got}
use Rattle.numbers.proofs.GroupLaws.{Begun, first_group, group_fits, power_fits, group_more, group_last, group_bad, sound_some, sound_last, sound_empty}
use Rattle.numbers.proofs.long.Goals as goal

pub loop-j-init : goal.loop-j-init
loop-j-init c =
    let a = c.args in
    let w = c.from-b0 in
    let k : 128 ≤ get_or a.s.now a.at 0 = omega (arith, w.ensures, c.if-b0-lt128.false) in
    (omega arith, omega arith, subst (λ (x : ℕ). Begun a.s.now a.at 1 128 (x % 128)) (sym w.ensures) (first_group a.s.now a.at (omega arith) k))

pub returns-then-b-eq0 : goal.returns-then-b-eq0
returns-then-b-eq0 c =
    let a = c.args in
    let l = c.loop-j in
    let w = c.from-b in
    let z : get_or a.s.now (a.at + l.j) 0 ≡ 0 = sym w.ensures ∙ c.if-b-eq0.true in
    rw c.at.ensures (sym (group_bad l.invariant.2 (omega arith) (omega (arith, z)) (ap (sound l.j) z ∙ sound_empty l.j l.invariant.0)))

pub overflow_mul-result : goal.overflow_mul-result
overflow_mul-result c =
    let l = c.loop-j in
    omega (arith, group_fits l.v l.scale c.from-b.result l.invariant.2.small c.if-b-lt128.true, power_fits l.j l.scale l.invariant.2.power (omega arith))

pub overflow_add-result : goal.overflow_add-result
overflow_add-result c =
    let l = c.loop-j in
    record { fits = omega (arith, group_fits l.v l.scale c.from-b.result l.invariant.2.small c.if-b-lt128.true, power_fits l.j l.scale l.invariant.2.power (omega arith)) }

pub returns-then-b-lt128 : goal.returns-then-b-lt128
returns-then-b-lt128 c =
    let a = c.args in
    let l = c.loop-j in
    let w = c.from-b in
    let k : get_or a.s.now (a.at + l.j) 0 < 128 = omega (arith, w.ensures, c.if-b-lt128.true) in
    let t = sound_some l.j (get_or a.s.now (a.at + l.j) 0) (omega arith) (omega (arith, w.ensures, c.if-b-eq0.false)) in
    ap (λ (n : ℕ). got (l.v + n * l.scale) (a.at + l.j + 1)) w.ensures
    ∙ sym (group_last l.invariant.2 (omega arith) k t)

pub overflow_mul-v : goal.overflow_mul-v
overflow_mul-v c =
    let l = c.loop-j in
    omega (arith, group_fits l.v l.scale (c.from-b.result % 128) l.invariant.2.small (omega arith), power_fits l.j l.scale l.invariant.2.power (omega arith))

pub overflow_add-v : goal.overflow_add-v
overflow_add-v c =
    let l = c.loop-j in
    record { fits = omega (arith, group_fits l.v l.scale (c.from-b.result % 128) l.invariant.2.small (omega arith), power_fits l.j l.scale l.invariant.2.power (omega arith)) }

pub overflow_mul-scale : goal.overflow_mul-scale
overflow_mul-scale c =
    let l = c.loop-j in
    omega (arith, power_fits l.j l.scale l.invariant.2.power (omega arith))

pub loop-j-preserved : goal.loop-j-preserved
loop-j-preserved c =
    let a = c.args in
    let l = c.loop-j in
    let w = c.from-b in
    let k : 128 ≤ get_or a.s.now (a.at + l.j) 0 = omega (arith, w.ensures, c.if-b-lt128.false) in
    let b = group_more l.invariant.2 (omega arith) k in
    (omega arith, omega arith, subst (λ (n : ℕ). Begun a.s.now a.at (l.j + 1) (l.scale * 128) (l.v + n % 128 * l.scale)) (sym w.ensures) b)

pub overflow_add-result-then-b9-eq1 : goal.overflow_add-result-then-b9-eq1
overflow_add-result-then-b9-eq1 c =
    let l = c.loop-j in
    let j : l.j ≡ 9 = omega arith in
    record { fits = omega (arith, l.invariant.2.small, l.invariant.2.power ∙ ap (λ (n : ℕ). 128 ^ n) j) }

pub returns-then-b9-eq1 : goal.returns-then-b9-eq1
returns-then-b9-eq1 c =
    let a = c.args in
    let l = c.loop-j in
    let w = c.from-b9 in
    let j : l.j ≡ 9 = omega arith in
    let b = subst (λ (n : ℕ). Begun a.s.now a.at n l.scale l.v) j l.invariant.2 in
    let e : get_or a.s.now (a.at + 9) 0 ≡ 1 = sym w.ensures ∙ c.if-b9-eq1.true in
    let g = group_last b (omega arith) (omega (arith, e)) (ap (sound 9) e ∙ sound_last) in
    let x : l.v + 9223372036854775808 ≡ l.v + get_or a.s.now (a.at + 9) 0 * l.scale = omega (arith, b.power, ap (λ (n : ℕ). n * l.scale) e) in
    let y : a.at + 10 ≡ a.at + 9 + 1 = omega arith in
    (λ i. got (x i) (y i)) ∙ sym g
