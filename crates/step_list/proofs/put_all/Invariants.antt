use lib.Seq.{sets}
use Rattle.words.specs.Words.{table_of}
use Rattle.step_list.specs.RowSteps.{rows_bytes}
use Rattle.step_list.proofs.StepListLaws.{Writing}
use Rattle.step_list.proofs.put_all.Given as goal

abbrev pub invariant-loop-row : goal.invariant-loop-row
invariant-loop-row l = Writing l.form (table_of l.words.all.now) l.noted (sets l.initial.out 0 (rows_bytes l.form (table_of l.words.all.now) l.noted)) l.row-index l.end l.out
