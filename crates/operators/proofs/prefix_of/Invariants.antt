use mathlib.Core.Path.{◌≡◌}
use lib.ListN.{length}
use Rattle.rules.specs.Tables.{action_count, method}
use Rattle.words.specs.Words.{table_of}
use Rattle.facts.specs.Sets.{join_read}
use Rattle.operators.proofs.PrefixLaws.{Joining}
use Rattle.operators.proofs.prefix_of.Given as goal

abbrev pub invariant-loop-count : goal.invariant-loop-count
invariant-loop-count l =
    (l.width ≡ length (method (table_of l.words.all.now) l.k).subs)
    × (l.actions ≡ action_count (table_of l.words.all.now))
    × Joining (table_of l.words.all.now) (method (table_of l.words.all.now) l.k).subs (join_read l.join) l.count
