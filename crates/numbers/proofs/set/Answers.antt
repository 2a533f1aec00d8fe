use mathlib.Core.Path.{ap, ◌∙◌}
use Prim.Native.Nat.{ℕ, ◌+◌, ◌≤◌, ◌<◌}
use native.Mathlib.Omega.{arith}
use lib.ListN.{get_or}
use borrow.Author.Tests.{le-leb, lt-leb}
use Rattle.basics.specs.Readings.{got}
use Rattle.rules.specs.Numbers.{ranged, in_range}
use Rattle.numbers.proofs.GroupLaws.{one_group}
use Rattle.numbers.proofs.set.Goals as goal

pub returns-then-hi-a : goal.returns-then-hi-a
unfolding ranged in_range
returns-then-hi-a c =
    let a = c.args in
    let s = a.s.now in
    let w = c.from-a in
    let k : get_or s a.at 0 < 128 = omega (arith, w.ensures, c.if-a-lt128.true) in
    let o = one_group s a.at c.if-at-n.true k in
    let z : 0 ≤ get_or s a.at 0 = omega arith in
    let e : a.hi < get_or s a.at 0 = omega (arith, w.ensures, c.if-hi-a.true) in
    rw (o, le-leb _ _ z, lt-leb _ _ e, c.at.ensures)

pub returns-then-a-lt128 : goal.returns-then-a-lt128
unfolding ranged in_range
returns-then-a-lt128 c =
    let a = c.args in
    let s = a.s.now in
    let w = c.from-a in
    let k : get_or s a.at 0 < 128 = omega (arith, w.ensures, c.if-a-lt128.true) in
    let o = one_group s a.at c.if-at-n.true k in
    let z : 0 ≤ get_or s a.at 0 = omega arith in
    let e : get_or s a.at 0 ≤ a.hi = omega (arith, w.ensures, c.if-hi-a.false) in
    ap (λ (n : ℕ). got n (a.at + 1)) w.ensures ∙ rw (o, le-leb _ _ z, le-leb _ _ e)
