use Prim.Native.Nat.{ℕ, ◌+◌, ◌-◌, zero-le}
use mathlib.Core.Path.{◌≡◌, refl, ap, ◌∙◌}
use mathlib.Core.List.{List, ◌++◌}
use lib.ListN.{drop, length-drop}
use lib.Seq.{length-take-le}
use native.Mathlib.Omega.{arith}
use Rattle.basics.specs.Lists.{upto, sum_to}
use Rattle.basics.specs.Texts.{digits}
use Rattle.text.proofs.PutLaws.{◌▹◌, puts_is, puts_none}
use Rattle.template.specs.Segments.{number_at, turn}
use Rattle.template.proofs.TemplateLaws.{segment_ends, start_more, last_begins, turn_more, turn_last, cut_is, cut_long}
use Rattle.template.proofs.view.Drawn.put_exactly.Goals as goal

pub loop-j-init : goal.loop-j-init
unfolding upto sum_to
loop-j-init c = (zero-le, refl, refl, omega arith, puts_none _ _)

pub overflow_add-end : goal.overflow_add-end
overflow_add-end c =
    let l = c.loop-j in
    let d = c.args.self in
    omega (arith, segment_ends d l.j (omega arith), l.invariant.2, c.requires.1)

pub overflow_add-v : goal.overflow_add-v
overflow_add-v c =
    omega (arith, c.requires.0, c.args.self.low c.loop-j.j (omega arith))

pub slice_bounds-put_field-end : goal.slice_bounds-put_field-end
slice_bounds-put_field-end c =
    let l = c.loop-j in
    let d = c.args.self in
    omega (arith, segment_ends d l.j (omega arith), d.fits, l.invariant.2)

pub put_field-next-requires : goal.put_field-next-requires
put_field-next-requires c =
    let l = c.loop-j in
    let d = c.args.self in
    let n = number_at d.numbers.now l.j in
    let e = segment_ends d l.j (omega arith) in
    let long = cut_long d.text.now l.from n.bytes (omega (arith, e, d.fits, l.invariant.2)) in
    (omega (arith, e, long, c.requires.1, l.invariant.2, l.invariant.3), omega (arith, c.requires.0, c.args.self.low l.j (omega arith)))

pub loop-j-preserved : goal.loop-j-preserved
loop-j-preserved c =
    let l = c.loop-j in
    let p = c.args.p in
    let d = c.args.self in
    let n = number_at d.numbers.now l.j in
    let e = segment_ends d l.j (omega arith) in
    let long = cut_long d.text.now l.from n.bytes (omega (arith, e, d.fits, l.invariant.2)) in
    let more = start_more d l.j in
    let put = c.put_field-next.ensures in (
      omega arith,
      l.invariant.1,
      omega (arith, more, l.invariant.2),
      omega (arith, more, long, l.invariant.3, put.upper_bound),
      puts_is (turn_more d l.j p l.from l.invariant.2
          ∙ ap (λ (x : List ℕ). upto (turn d.text.now d.numbers.now p) l.j ++ (x ++ digits (p + n.offset))) (cut_is d.text.now l.from n.bytes))
          (l.invariant.4 ▹ put.puts),
    )

pub slice_bounds-put-count : goal.slice_bounds-put-count
slice_bounds-put-count c =
    let l = c.loop-j in
    let d = c.args.self in
    omega (arith, last_begins d l.j l.from (omega arith) l.invariant.2, d.reach)

pub slice_bounds-put-start : goal.slice_bounds-put-start
slice_bounds-put-start c =
    let l = c.loop-j in
    let d = c.args.self in
    omega (arith, last_begins d l.j l.from (omega arith) l.invariant.2, d.reach)

pub slice_bounds-put-end : goal.slice_bounds-put-end
slice_bounds-put-end c =
    let d = c.args.self in
    omega (arith, d.fits)

pub put-requires : goal.put-requires
put-requires c =
    let l = c.loop-j in
    let d = c.args.self in
    let k : l.j ≡ d.count = omega arith in
    let e = last_begins d l.j l.from k l.invariant.2 in
    let long = length-take-le (d.at - l.from) (drop l.from d.text.now) (rw length-drop (omega (arith, d.fits))) in
    omega (arith, e, k, long, c.requires.1, d.reach, l.invariant.2, l.invariant.3)

pub returns : goal.returns
returns c =
    let l = c.loop-j in
    let d = c.args.self in
    let k : l.j ≡ d.count = omega arith in
    puts_is (turn_last d c.args.p l.j l.from k (last_begins d l.j l.from k l.invariant.2)) (l.invariant.4 ▹ c.put.ensures)
