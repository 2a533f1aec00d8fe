use mathlib.Core.Path.{◌≡◌}
use lib.ListN.{length, take}
use Rattle.rules.specs.Reasons.{not_there}
use Rattle.basics.specs.Lists.{rows}
use Rattle.basics.specs.Readings.{got, many}
use Rattle.rules.specs.Numbers.{ranged}
use Rattle.words.specs.Words.{cell_of}
use Rattle.methods.proofs.read_subtasks.Given as goal

abbrev pub invariant-loop-j : goal.invariant-loop-j
invariant-loop-j l = (length l.words ≡ length l.initial.words) × (take l.b l.words ≡ take l.b l.initial.words) × (many (ranged l.s 0 l.hi not_there) l.j l.at ≡ got (rows (cell_of l.b l.words) l.j) l.p)
