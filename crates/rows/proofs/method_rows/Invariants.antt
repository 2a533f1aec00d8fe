use Prim.Native.Nat.{◌+◌}
use Rattle.words.specs.Words.{table_of}
use Rattle.rows.specs.Stores.{PreparedTo}
use Rattle.rows.proofs.method_rows.Given as goal

abbrev pub invariant-loop-k : goal.invariant-loop-k
invariant-loop-k l = PreparedTo l.bound l.form (table_of l.words.all.now) (l.first + l.k) l.ops l.cells
