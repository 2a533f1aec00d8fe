use Prim.Native.Nat.{◌+◌, ◌*◌, ◌-◌, ◌≤◌}
use mathlib.Core.Path.{◌≡◌}
use Rattle.basics.specs.Lists.{upto}
use Rattle.text.specs.Puts.{Puts}
use Rattle.template.specs.Segments.{start_of, turn}
use Rattle.template.proofs.view.Drawn.put_exactly.Given as goal

abbrev pub invariant-loop-j : goal.invariant-loop-j
invariant-loop-j l =
    (l.j ≤ l.self.count)
    × (l.j-end ≡ l.self.count)
    × (l.from ≡ start_of l.self.numbers.now l.j)
    × (l.next ≤ l.at + start_of l.self.numbers.now l.j + 3 * l.j)
    × Puts l.initial.out l.at (upto (turn l.self.text.now l.self.numbers.now l.p) l.j) l.out l.next

abbrev pub decreases-loop-j : goal.decreases-loop-j
decreases-loop-j l = l.self.count - l.j
