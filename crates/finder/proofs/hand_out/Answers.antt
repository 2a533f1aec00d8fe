use mathlib.Core.Path.{◌≡◌, ◌∙◌}
use native.Mathlib.Omega.{arith}
use Rattle.rules.specs.Refusals.{Sought, plan_bytes}
use Rattle.trail.specs.Trails.{marked}
use Rattle.words.specs.Words.{table_of}
use Rattle.finder.proofs.FinderLaws.{plan_kept, plan_written}
use Rattle.finder.proofs.hand_out.Goals as goal

pub returns-then-fits-clause-text_after : goal.returns-then-fits-clause-text_after
returns-then-fits-clause-text_after c =
    let a = c.args in
    let y : Sought = record { operators = marked (table_of a.words.all.now) a.marks.now; applied = a.applied } in
    let e : c.put_plan-bytes.result ≡ plan_bytes y = omega (arith, c.put_plan-bytes.ensures.puts.next) in
    let done = c.put_plan.ensures.puts in
    done.text (omega (arith, done.next, e, c.if-fits.true)) ∙ plan_written a.text.now y c.put_plan-bytes.result e c.if-fits.true

pub returns-else-fits-clause-text_after : goal.returns-else-fits-clause-text_after
returns-else-fits-clause-text_after c =
    let a = c.args in
    let y : Sought = record { operators = marked (table_of a.words.all.now) a.marks.now; applied = a.applied } in
    let e : c.put_plan-bytes.result ≡ plan_bytes y = omega (arith, c.put_plan-bytes.ensures.puts.next) in
    plan_kept a.text.now y c.put_plan-bytes.result e c.if-fits.false
