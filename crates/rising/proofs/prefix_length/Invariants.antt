use mathlib.Core.Path.{◌≡◌}
use Prim.Native.Nat.{◌≤◌}
use lib.ListN.{length}
use Rattle.rules.specs.Tables.{action_count, method}
use Rattle.laws.proofs.LeadingLaws.{Counted}
use Rattle.words.specs.Words.{table_of}
use Rattle.rising.proofs.prefix_length.Given as goal

abbrev pub invariant-loop-count : goal.invariant-loop-count
invariant-loop-count l =
    (l.n ≡ length (method (table_of l.words.all.now) l.k).subs) × (l.count ≤ l.n) × Counted (action_count (table_of l.words.all.now)) (method (table_of l.words.all.now) l.k).subs l.count
