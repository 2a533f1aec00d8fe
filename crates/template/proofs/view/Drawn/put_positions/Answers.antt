use Prim.Native.Nat.{zero-le}
use mathlib.Core.Path.{◌≡◌, ap}
use native.Mathlib.Omega.{arith}
use Rattle.basics.specs.Lists.{upto}
use Rattle.laws.proofs.TextLaws.{upto_more}
use Rattle.text.proofs.AppendLaws.{appends_none, appends_is, ◌▸◌}
use Rattle.template.proofs.view.Drawn.put_positions.Goals as goal

pub loop-p-init : goal.loop-p-init
unfolding upto
loop-p-init c = (appends_none _ _, zero-le, omega arith)

pub put_rendered-next-requires : goal.put_rendered-next-requires
put_rendered-next-requires c =
    let l = c.loop-p in
    let r = c.requires in
    record {
      room = (r.room.0, omega (arith, r.count_bound), r.room.1);
      margin_in_bounds = omega (arith, r.count_bound, l.invariant.0.size, l.invariant.2);
    }

pub loop-p-preserved : goal.loop-p-preserved
loop-p-preserved c =
    let l = c.loop-p in
    let r = c.put_rendered-next.ensures in
    (appends_is (upto_more _ _) (l.invariant.0 ▸ r.appends), omega arith, omega (arith, r.upper_bound, l.invariant.2, c.requires.count_bound))

pub returns : goal.returns
returns c =
    let l = c.loop-p in
    let e : c.args.n ≡ l.p = omega arith in
    record { appends = appends_is (ap (upto _) e) l.invariant.0; upper_bound = omega (arith, l.invariant.2) }
