use mathlib.Core.Path.{◌≡◌}
use mathlib.Core.List.{map}
use Prim.Native.Nat.{◌+◌}
use lib.ListN.{drop}
use Rattle.rules.specs.Progression.{act, prefix, total_cost}
use Rattle.words.specs.Words.{table_of}
use Rattle.rows.proofs.prefix_cost.Given as goal

abbrev pub invariant-loop-j : goal.invariant-loop-j
invariant-loop-j l =
    l.cost + total_cost (table_of l.words.all.now) (map act (drop l.j (prefix l.form (table_of l.words.all.now) l.k))) ≡ total_cost (table_of l.words.all.now) (map act (prefix l.form (table_of l.words.all.now) l.k))
