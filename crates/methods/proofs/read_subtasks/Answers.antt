use Rattle.std.proofs.Common.{rules}
use mathlib.Core.Path.{refl, ap, sym, ◌∙◌}
use Prim.Native.Nat.{ℕ, ◌+◌}
use native.Mathlib.Omega.{arith}
use lib.ListN.{set, length-set}
use lib.Seq.{take-set-le}
use Rattle.rules.specs.Reasons.{not_there}
use Rattle.basics.specs.Lists.{rows}
use Rattle.basics.specs.Readings.{got, many}
use Rattle.rules.specs.Numbers.{ranged}
use Rattle.words.specs.Words.{cell_of}
use Rattle.laws.proofs.ReadingLaws.{many_bad, turn}
use Rattle.methods.proofs.MethodLaws.{cell_stored, cell_kept}
use Rattle.methods.proofs.read_subtasks.Goals as goal

pub loop-j-init : goal.loop-j-init
unfolding many rows
loop-j-init c = (refl, refl, refl)

pub returns-in_err-task : goal.returns-in_err-task
returns-in_err-task c =
    let a = c.args in
    let l = c.loop-j in
    let e = many_bad (ranged a.s.now 0 a.hi not_there) a.at a.n l.j c.loop-j-test.true l.invariant.2 (sym c.in_err-task.ensures.reading) in
    (search (rules, e), l.invariant.1)

pub loop-j-preserved : goal.loop-j-preserved
loop-j-preserved c =
    let a = c.args in
    let l = c.loop-j in
    let v = c.in_ok-task.task in
    let w = set l.words (a.b + l.j) v in (
      length-set l.words (a.b + l.j) v ∙ l.invariant.0,
      take-set-le a.b l.words (a.b + l.j) v (omega arith) ∙ l.invariant.1,
      turn (cell_of a.b) (ranged a.s.now 0 a.hi not_there) a.at l.words w l.j l.invariant.2
          (sym c.in_ok-task.ensures.reading ∙ ap (λ (x : ℕ). got x c.in_ok-task.next) (sym (cell_stored l.words a.b l.j v (omega arith))))
          (cell_kept l.words w a.b l.j (take-set-le (a.b + l.j) l.words (a.b + l.j) v (omega arith))),
    )
