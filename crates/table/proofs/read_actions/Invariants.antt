use Rattle.rules.specs.Tables.{read_action}
use Rattle.basics.specs.Readings.{got, many}
use Rattle.words.specs.Words.{action_of, header_words}
use Rattle.basics.specs.Lists.{rows}
use mathlib.Core.Path.{◌≡◌}
use lib.ListN.{length, take}
use Rattle.table.proofs.read_actions.Given as goal

abbrev pub invariant-loop-k : goal.invariant-loop-k
invariant-loop-k l = (length l.words ≡ length l.initial.words) × (take header_words l.words ≡ take header_words l.initial.words) × (many (read_action l.s l.top) l.k l.at ≡ got (rows (action_of l.words) l.k) l.p)
