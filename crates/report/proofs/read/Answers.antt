use Prim.Native.Nat.{ℕ, ◌-◌, ◌≤◌}
use mathlib.Core.Path.{sym, subst, ◌∙◌}
use native.Mathlib.Omega.{arith}
use borrow.Rule.Slice.PartMut.{same_len_mid}
use lib.ListN.{length}
use Rattle.std.specs.Io.KnownBytes.{Consumes}
use Rattle.report.proofs.ReadLaws.{read_more, front_more, front_within}
use Rattle.report.proofs.read.Goals as goal

pub loop-count-preserved : goal.loop-count-preserved
loop-count-preserved g c =
    let buffer = c.loop-count.buffer in
    let part = c.read.new.buf in
    let n = c.loop-count.count in
    let k : ℕ = length buffer - n in
    let same = same_len_mid n k buffer part c.read.auto.buf in
    let more = c.in_ok-more.ensures in
    let low : c.in_ok-more.more ≤ length part = omega (arith, more.bound.0) in (
      front_within buffer part n c.in_ok-more.more c.loop-count.invariant.0 low c.read.auto.buf,
      same ∙ c.loop-count.invariant.1,
      subst
          (Consumes (g.R.Read.remaining c.args.reader.now) (g.R.Read.remaining c.read.new.self))
          (sym (front_more buffer part n k c.in_ok-more.more c.loop-count.invariant.0 low))
          (read_more (g.R.Read.remaining c.args.reader.now) (g.R.Read.remaining c.loop-count.reader) (g.R.Read.remaining c.read.new.self) _ _ c.loop-count.invariant.2 more.bytes.0),
    )
