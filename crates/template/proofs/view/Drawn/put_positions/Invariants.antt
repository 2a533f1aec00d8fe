use Prim.Native.Nat.{◌+◌, ◌*◌, ◌-◌, ◌≤◌}
use Rattle.basics.specs.Lists.{upto}
use Rattle.text.specs.Appends.{Appends}
use Rattle.template.specs.Views.{shown}
use Rattle.template.proofs.view.Drawn.put_positions.Given as goal

abbrev pub invariant-loop-p : goal.invariant-loop-p
invariant-loop-p l = Appends l.initial.out l.at (upto (shown l.self) l.p) l.out l.next × (l.p ≤ l.n) × (l.next ≤ l.at + 1408 * l.p)

abbrev pub decreases-loop-p : goal.decreases-loop-p
decreases-loop-p l = l.n - l.p
