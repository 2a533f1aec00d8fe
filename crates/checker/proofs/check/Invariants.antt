use Prim.Native.Nat.{◌-◌}
use lib.ListN.{length}
use Rattle.words.specs.Words.{table_of}
use Rattle.checker.proofs.CheckLaws.{Going}
use Rattle.checker.proofs.NoteLaws.{Noting}
use Rattle.checker.proofs.check.Given as goal

abbrev pub invariant-loop-at : goal.invariant-loop-at
invariant-loop-at l =
    Going l.bound l.form (table_of l.words.all.now) l.text l.stack l.run l.at l.lines × Noting l.form (table_of l.words.all.now) l.text l.notes l.run.operators l.run.steps l.at

abbrev pub decreases-loop-at : goal.decreases-loop-at
decreases-loop-at l = length l.text - l.at
