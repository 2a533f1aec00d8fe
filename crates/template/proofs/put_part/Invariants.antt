use Prim.Native.Nat.{ℕ, ◌+◌, ◌-◌, ◌≤◌}
use mathlib.Core.Path.{◌≡◌}
use mathlib.Core.List.{List}
use lib.ListN.{length, take, drop}
use Rattle.text.specs.Appends.{Appends}
use Rattle.template.proofs.put_part.Given as goal

abbrev pub invariant-loop-k : goal.invariant-loop-k
invariant-loop-k l =
    (l.k ≤ l.n + 30)
    × (length l.out ≡ length l.initial.out)
    × ((o : List ℕ) → Appends o l.at (take 30 (drop l.from l.s)) l.initial.out (l.at + 30) → Appends o l.at (take l.k (drop l.from l.s)) l.out (l.at + l.k))

abbrev pub decreases-loop-k : goal.decreases-loop-k
decreases-loop-k l = l.n - l.k
