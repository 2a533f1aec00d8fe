use Prim.Native.Nat.{ℕ}
use Rattle.words.specs.Words.{table_of}
use Rattle.rows.specs.Stores.{PreparedTo}
use Rattle.rows.proofs.action_rows.Given as goal

abbrev pub invariant-loop-k : goal.invariant-loop-k
invariant-loop-k l = (f : ℕ) → PreparedTo l.bound f (table_of l.words.all.now) l.k l.ops l.cells
