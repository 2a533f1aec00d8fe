use Prim.Native.Nat.{◌-◌}
use mathlib.Core.Path.{◌≡◌}
use native.Mathlib.Omega.{arith}
use Rattle.laws.specs.Steps.{step_text}
use Rattle.words.specs.Words.{table_of}
use Rattle.text.proofs.AppendLaws.{appends_is}
use Rattle.parts.specs.Pieces.{problem_piece}
use Rattle.parts.proofs.PieceLaws.{part_more, piece_of_step}
use Rattle.parts.proofs.fill.Goals as goal

pub loop-next-preserved : goal.loop-next-preserved
loop-next-preserved c =
    let w = c.put_operators-size.ensures in
    let t = table_of c.args.words.all.now in
    let step : problem_piece c.args.bound c.args.form t c.loop-next.next ≡ step_text c.args.bound c.args.form t (c.loop-next.next - 1) =
    piece_of_step c.args.bound c.args.form t c.loop-next.next (omega arith) (omega arith) in
    record {
      few = omega (arith, w.upper_bound);
      inside = omega (arith, w.upper_bound, w.appends.size);
      says = part_more _ _ _ _ _ _ _ c.loop-next.invariant.says (appends_is step w.appends);
    }
