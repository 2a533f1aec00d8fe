use Rattle.words.specs.Words.{table_of}
use Rattle.links.specs.Links.{LinkedTo}
use Rattle.links.proofs.link.Given as goal

abbrev pub invariant-loop-i : goal.invariant-loop-i
invariant-loop-i l = LinkedTo l.bound l.form (table_of l.words.all.now) l.links l.i
