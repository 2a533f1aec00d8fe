use mathlib.Core.Path.{◌≡◌}
use lib.ListN.{length, take}
use Rattle.basics.specs.Readings.{got, many}
use Rattle.rules.specs.Tables.{read_method}
use Rattle.words.specs.Words.{method_of, first_method}
use Rattle.basics.specs.Lists.{rows}
use Rattle.methods.proofs.read_methods.Given as goal

abbrev pub invariant-loop-k : goal.invariant-loop-k
invariant-loop-k l = (length l.words ≡ length l.initial.words) × (take first_method l.words ≡ take first_method l.initial.words) × (many (read_method l.s l.lo l.hi) l.k l.at ≡ got (rows (method_of l.words) l.k) l.p)
