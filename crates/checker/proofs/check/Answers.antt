use mathlib.Core.Path.{refl, ap, ◌∙◌}
use native.Mathlib.Omega.{arith}
use Rattle.run.specs.Steps.{Point}
use Rattle.run.specs.Runs.{point_of}
use Rattle.checker.proofs.CheckLaws.{going_begins, operator_out, operator_counts, operator_on, cut_out, ends}
use Rattle.checker.proofs.NoteLaws.{noting_begins, noting_operator, noting_ends}
use Rattle.checker.proofs.check.Goals as goal

pub loop-at-init : goal.loop-at-init
loop-at-init c = let b = c.begin-run.ensures in
    let start = b.stack_after in (
      going_begins b.stack_len.0 b.stack_len.1 start,
      noting_begins c.requires.2 (ap (λ (p : Point). p.operators) start) (ap (λ (p : Point). p.steps) start),
    )

pub returns-in-Err-clause-result_value : goal.returns-in-Err-clause-result_value
returns-in-Err-clause-result_value c =
    let l = c.loop-at in
    let h = rw (c.in-Some.is, c.in-Operator.is) at c.line_at.ensures in
    let refused = rw c.in-Err.is at c.operate.ensures in
    rw c.at-in-Err.ensures (operator_out l.invariant.0 h c.operate.new.stack c.in-Err.reason refused.stack_after)

pub loop-at-preserved : goal.loop-at-preserved
loop-at-preserved c =
    let l = c.loop-at in
    let g = l.invariant.0 in
    let h = rw (c.in-Some.is, c.in-Operator.is) at c.line_at.ensures in
    let a = c.in-Ok.applied in
    let applied = rw c.in-Ok.is at c.operate.ensures in
    let n = operator_counts g h c.operate.new.stack a applied.stack_after in (
      operator_on g h c.operate.new.stack a applied.stack_after applied.sized.0 applied.sized.1,
      noting_operator l.invariant.1 h applied.row_of (omega (arith, g.few, h.onward, h.within, c.requires.1)) n.operators n.steps,
    )

pub returns-then-at-text-clause-result_value : goal.returns-then-at-text-clause-result_value
returns-then-at-text-clause-result_value c = rw c.at-then-at-text.ensures (cut_out c.loop-at.invariant.0 c.whole_lines-end.ensures c.loop-at-test.false c.if-at-text.true)

pub returns : goal.returns
returns c = let l = c.loop-at in
    let g = l.invariant.0 in
    let e = c.conclude.ensures.verdict l.stack in
    let n = noting_ends l.invariant.1 c.if-at-text.false (omega (arith, g.few, g.within, c.requires.1)) c.conclude.result l.lines (point_of l.run l.stack) refl refl e in
    record { result_value = e ∙ ends g c.if-at-text.false; few = (c.conclude.ensures.few, n.0); notes_expand = n.1 }
