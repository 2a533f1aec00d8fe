use mathlib.Core.Path.{refl}
use native.Mathlib.Omega.{arith}
use Rattle.rules.specs.Tables.{method}
use Rattle.rules.specs.Checks.{step_bytes}
use Rattle.words.specs.Words.{table_of}
use Rattle.step_list.proofs.StepListLaws.{one_more}
use Rattle.step_list.proofs.put_prefix.Goals as goal

pub loop-j-init : goal.loop-j-init
unfolding step_bytes
loop-j-init c = refl

pub loop-j-preserved : goal.loop-j-preserved
loop-j-preserved c =
    let l = c.loop-j in
    let tasks = (method (table_of c.args.words.all.now) c.args.k).subs in
    one_more c.args.out.now l.out _ c.args.at l.j c.subtask-word.result tasks (omega (arith, c.requires.p_in_bounds.0)) l.invariant c.subtask-word.ensures c.put_word.ensures
