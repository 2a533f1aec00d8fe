use Prim.Native.Nat.{ℕ, ◌+◌, ◌-◌}
use mathlib.Core.Path.{◌≡◌, refl, sym, ap, ◌∙◌}
use mathlib.Core.Bool.{true, false}
use native.Mathlib.Omega.{arith}
use lib.ListN.{get_or}
use Rattle.basics.specs.Readings.{got}
use Rattle.rules.specs.Numbers.{sound}
use Rattle.laws.proofs.NumberLaws.{last_below, number_ends, number_long, number_got, sound_room}
use Rattle.numbers.proofs.slow.Goals as goal

pub returns-in_default : goal.returns-in_default
returns-in_default c = let a = c.args in rw c.at.ensures (sym (number_ends a.s.now a.at _ refl c.in_default.ensures))

pub value-requires : goal.value-requires
value-requires c =
    let a = c.args in
    let e = c.in-Some.e in
    let f = c.in-Some.ensures in
    let b = last_below a.s.now a.at e f.0 f.1 in
    let t : sound (e - a.at) (get_or a.s.now e 0) ≡ true =
    sym (c.shortest.ensures ∙ ap (sound (e - a.at)) c.from.ensures) ∙ c.if-shortest.true in
    let r = sound_room (e - a.at) _ t b in
    (omega (arith, f.0), f.1, b, r.0, r.1)

pub returns-then-shortest : goal.returns-then-shortest
returns-then-shortest c =
    let a = c.args in
    let e = c.in-Some.e in
    let f = c.in-Some.ensures in
    let t : sound (e - a.at) (get_or a.s.now e 0) ≡ true =
    sym (c.shortest.ensures ∙ ap (sound (e - a.at)) c.from.ensures) ∙ c.if-shortest.true in
    ap (λ (v : ℕ). got v (e + 1)) c.value.ensures ∙ sym (number_got a.s.now a.at e f.0 f.1 t)

pub returns-else-shortest : goal.returns-else-shortest
returns-else-shortest c =
    let a = c.args in
    let e = c.in-Some.e in
    let f = c.in-Some.ensures in
    let t : sound (e - a.at) (get_or a.s.now e 0) ≡ false =
    sym (c.shortest.ensures ∙ ap (sound (e - a.at)) c.from.ensures) ∙ c.if-shortest.false in
    rw c.at-else-shortest.ensures (sym (number_long a.s.now a.at e f.0 f.1 t))
