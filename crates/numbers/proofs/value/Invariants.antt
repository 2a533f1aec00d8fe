use mathlib.Core.Path.{◌≡◌}
use Prim.Native.Nat.{◌≤◌, ◌<◌, ◌-◌, ◌+◌, ◌*◌, ◌^◌}
use lib.Seq.{slice}
use Rattle.rules.specs.Numbers.{groups_value}
use Rattle.numbers.proofs.value.Given as goal

abbrev pub invariant-loop-i : goal.invariant-loop-i
invariant-loop-i l = (l.at ≤ l.i) × (l.i ≤ l.e) × (l.v ≡ groups_value (slice l.i (l.e + 1) l.s)) × (l.v < 2 * 128 ^ (9 - (l.i - l.at)))
