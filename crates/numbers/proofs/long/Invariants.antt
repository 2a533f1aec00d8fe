use Prim.Native.Nat.{◌≤◌}
use Rattle.numbers.proofs.GroupLaws.{Begun}
use Rattle.numbers.proofs.long.Given as goal

abbrev pub invariant-loop-j : goal.invariant-loop-j
invariant-loop-j l = (1 ≤ l.j) × (l.j ≤ 9) × Begun l.s l.at l.j l.scale l.v
