use Rattle.std.proofs.Common.{◌≡◌, ◌+◌, drop}
use Rattle.rules.specs.Numbers.{groups_before}
use Rattle.numbers.proofs.last.Given as goal

abbrev pub invariant-loop-i : goal.invariant-loop-i
invariant-loop-i l = (l.i + groups_before (drop l.i l.s) ≡ l.at + groups_before (drop l.at l.s))
