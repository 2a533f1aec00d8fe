use mathlib.Core.Path.{◌≡◌}
use mathlib.Core.Bool.{not}
use Prim.Native.Nat.{◌≤◌}
use Rattle.rules.specs.Tables.{method_count}
use Rattle.rules.specs.LeastBounds.{round, settled}
use Rattle.words.specs.Words.{table_of}
use Rattle.least.proofs.one_round.Given as goal

abbrev pub invariant-loop-k : goal.invariant-loop-k
invariant-loop-k l =
    (l.k ≤ method_count (table_of l.words.all.now)) × (l.bounds ≡ round l.form (table_of l.words.all.now) l.initial.bounds l.k) × (l.lowered ≡ not (settled l.form (table_of l.words.all.now) l.initial.bounds l.k))
