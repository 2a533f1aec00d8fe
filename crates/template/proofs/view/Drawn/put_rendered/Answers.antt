use Prim.Native.Nat.{zero-le}
use mathlib.Core.Path.{◌≡◌, refl}
use native.Mathlib.Omega.{arith}
use Rattle.basics.specs.Lists.{upto, sum_to}
use Rattle.text.proofs.AppendLaws.{◌▸◌, appends_is, appends_none}
use Rattle.template.proofs.TemplateLaws.{segment_ends, start_more, last_begins, turn_more, turn_last}
use Rattle.template.proofs.view.Drawn.put_rendered.Goals as goal

pub loop-j-init : goal.loop-j-init
unfolding upto sum_to
loop-j-init c = (zero-le, refl, refl, omega arith, appends_none _ _)

pub put_part-end-requires : goal.put_part-end-requires
put_part-end-requires c =
    let l = c.loop-j in
    let d = c.args.self in
    let e = segment_ends d l.j (omega arith) in
    omega (arith, e, c.requires, l.invariant.2, l.invariant.3, l.invariant.4.size)

pub overflow_add-v : goal.overflow_add-v
overflow_add-v c =
    omega (arith, c.requires.room.1, c.args.self.low c.loop-j.j (omega arith))

pub put_figure-next-requires : goal.put_figure-next-requires
put_figure-next-requires c =
    let l = c.loop-j in
    let d = c.args.self in
    let e = segment_ends d l.j (omega arith) in
    let q = c.put_part-end.ensures in
    (omega (arith, e, c.requires.margin_in_bounds, q.value, q.appends.size, l.invariant.3, l.invariant.4.size), omega (arith, c.requires.room.1, c.args.self.low l.j (omega arith)), c.requires.room.2)

pub overflow_add-from : goal.overflow_add-from
overflow_add-from c =
    let l = c.loop-j in
    let e = segment_ends c.args.self l.j (omega arith) in
    omega (arith, e, c.requires.margin_in_bounds, l.invariant.2)

pub loop-j-preserved : goal.loop-j-preserved
loop-j-preserved c =
    let l = c.loop-j in
    let d = c.args.self in
    let q = c.put_part-end.ensures in
    let f = c.put_figure-next.ensures in
    let more = start_more d l.j in
    (omega arith, l.invariant.1, omega (arith, more, l.invariant.2), omega (arith, more, l.invariant.3, q.value, f.upper_bound), appends_is (turn_more d l.j c.args.p l.from l.invariant.2) (l.invariant.4 ▸ (q.appends ▸ f.appends)))

pub overflow_sub-self : goal.overflow_sub-self
overflow_sub-self c =
    let l = c.loop-j in
    let d = c.args.self in
    omega (arith, last_begins d l.j l.from (omega arith) l.invariant.2, d.reach)

pub put_part-requires : goal.put_part-requires
put_part-requires c =
    let l = c.loop-j in
    let d = c.args.self in
    let k : l.j ≡ d.count = omega arith in
    let e = last_begins d l.j l.from k l.invariant.2 in
    omega (arith, e, k, c.requires, d.reach, l.invariant.2, l.invariant.3, l.invariant.4.size)

pub returns : goal.returns
returns c =
    let l = c.loop-j in
    let d = c.args.self in
    let k : l.j ≡ d.count = omega arith in
    let e = last_begins d l.j l.from k l.invariant.2 in
    let q = c.put_part.ensures in
    record { appends = appends_is (turn_last d c.args.p l.j l.from k e) (l.invariant.4 ▸ q.appends); upper_bound = omega (arith, k, e, d.reach, l.invariant.2, l.invariant.3, q.value) }
