use mathlib.Core.Path.{◌≡◌, sym, ap, ◌∙◌}
use Prim.Native.Nat.{ℕ, ◌≤◌, ◌<◌}
use native.Mathlib.Omega.{arith}
use Rattle.rules.specs.Facts.{holds}
use Rattle.facts.specs.Sets.{set_of}
use Rattle.rows.specs.Rows.{row_at}
use Rattle.run.specs.Steps.{Point}
use Rattle.run.proofs.RowLaws.{row_low, row_high, row_other_height, row_other_task, row_needs, row_done, landed_point, landed_ok}
use Rattle.run.proofs.turn.Goals as goal

pub returns-then-pos-lt1-clause-stack_after : goal.returns-then-pos-lt1-clause-stack_after
returns-then-pos-lt1-clause-stack_after c =
    let a = c.args in row_low (row_at a.rows.ops.now a.rows.cells.now a.index) a.pos a.t a.stack.now c.if-pos-lt1.true

pub returns-then-above-clause-stack_after : goal.returns-then-above-clause-stack_after
returns-then-above-clause-stack_after c =
    let a = c.args in
    let row = row_at a.rows.ops.now a.rows.cells.now a.index in
    let g : row.last < a.pos = omega (arith, c.last-last.ensures, c.if-above.true) in row_high row a.pos a.t a.stack.now c.if-pos-lt1.false g

pub returns-then-elsewhere-clause-stack_after : goal.returns-then-elsewhere-clause-stack_after
returns-then-elsewhere-clause-stack_after c =
    let a = c.args in
    let row = row_at a.rows.ops.now a.rows.cells.now a.index in
    let g : a.pos ≤ row.last = omega (arith, c.last-last.ensures, c.if-above.false) in row_other_height row a.pos a.t a.stack.now c.if-pos-lt1.false g c.if-elsewhere.true

pub returns-then-other-clause-stack_after : goal.returns-then-other-clause-stack_after
returns-then-other-clause-stack_after c =
    let a = c.args in
    let row = row_at a.rows.ops.now a.rows.cells.now a.index in
    let g : a.pos ≤ row.last = omega (arith, c.last-last.ensures, c.if-above.false) in
    row_other_task row a.pos a.t a.stack.now c.if-pos-lt1.false g c.if-elsewhere.false (λ e. c.if-other.true (c.from-top.ensures ∙ e ∙ sym c.task-task.ensures))

pub returns-then-not-holds-clause-stack_after : goal.returns-then-not-holds-clause-stack_after
returns-then-not-holds-clause-stack_after c =
    let a = c.args in
    let row = row_at a.rows.ops.now a.rows.cells.now a.index in
    let g : a.pos ≤ row.last = omega (arith, c.last-last.ensures, c.if-above.false) in
    let top = sym c.from-top.ensures ∙ c.if-other.false ∙ c.task-task.ensures in
    let h = c.holds.ensures ∙ ap (λ (n : ℕ). holds n (set_of a.t.facts)) c.needs-needs.ensures in
    row_needs row a.pos a.t a.stack.now c.if-pos-lt1.false g c.if-elsewhere.false top (sym h ∙ c.if-not-holds.true)

pub returns : goal.returns
returns c =
    let a = c.args in
    let row = row_at a.rows.ops.now a.rows.cells.now a.index in
    let g : a.pos ≤ row.last = omega (arith, c.last-last.ensures, c.if-above.false) in
    let q : a.pos ≡ a.t.height = c.if-elsewhere.false in
    let top = sym c.from-top.ensures ∙ c.if-other.false ∙ c.task-task.ensures in
    let h = c.holds.ensures ∙ ap (λ (n : ℕ). holds n (set_of a.t.facts)) c.needs-needs.ensures in
    let push = c.push.ensures in
    let ok = c.requires.row_ok in record {
      stack_after = ap (λ (p : Point). record { number = 0; point = p }) (landed_point c.landed.ensures a.stack.now _ push)
          ∙ row_done row a.pos a.t a.stack.now c.if-pos-lt1.false g q top (sym h ∙ c.if-not-holds.false);
      sized = (push.size ∙ c.requires.stack_len.0, landed_ok c.landed.ensures c.requires.stack_len.1 c.requires.few_operators ok.steps ok.cost (omega (arith, g, q, ok.height)));
      stack_kept = tt;
    }
