use mathlib.Core.Path.{◌≡◌}
use Prim.Native.Nat.{◌≤◌, max}
use lib.ListN.{drop}
use Rattle.rules.specs.Tables.{method}
use Rattle.rules.specs.LeastBounds.{rise, method_bound}
use Rattle.words.specs.Words.{table_of}
use Rattle.rising.proofs.method_bound.Given as goal

abbrev pub invariant-loop-j : goal.invariant-loop-j
invariant-loop-j l =
    (l.j ≤ l.n) × (max l.best (rise l.bounds (drop l.j (method (table_of l.words.all.now) l.k).subs)) ≡ method_bound l.form (table_of l.words.all.now) l.bounds l.k)
