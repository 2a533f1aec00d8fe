use mathlib.Core.Path.{◌≡◌, ap, sym, subst, ◌∙◌}
use Prim.Native.Nat.{ℕ, ◌+◌, ◌<◌}
use native.Mathlib.Omega.{arith}
use Rattle.rows.specs.Sizes.{most_rows}
use Rattle.rules.specs.Progression.{Step, mth}
use Rattle.words.specs.Words.{table_of}
use Rattle.rows.specs.Rows.{row_of}
use Rattle.laws.specs.Steps.{step_at}
use Rattle.rows.specs.Stores.{PreparedTo, Stored}
use Rattle.laws.proofs.StepNumbers.{step_method}
use Rattle.rows.proofs.RowLaws.{prepared_more}
use Rattle.rows.proofs.method_rows.Goals as goal

pub method_row-requires : goal.method_row-requires
method_row-requires c =
    let pre = c.requires in
    let v = c.args.words.held.valid.head in
    let l = c.loop-k in
    let few : c.action_count-first.result + l.k < most_rows = omega (arith, c.action_count-first.ensures, c.method_count-n.ensures, v.actions, v.methods) in (
      pre.0,
      omega (arith, c.method_count-n.ensures),
      few,
      record { in_words = omega (arith, few, pre.1.in_words); in_cells = omega (arith, few, pre.1.in_cells) },
    )

pub loop-k-preserved : goal.loop-k-preserved
loop-k-preserved c =
    let a = c.args in
    let l = c.loop-k in
    let row = c.method_row in
    let t = table_of a.words.all.now in
    let first = c.action_count-first.result in
    let ops = row.new.ops in
    let cells = row.new.cells in
    let x : step_at t (first + l.k) ≡ mth l.k = ap (λ (n : ℕ). step_at t (n + l.k)) c.action_count-first.ensures ∙ step_method t l.k in
    let e : first + l.k + 1 ≡ first + (l.k + 1) = omega arith in
    subst (λ (n : ℕ). PreparedTo a.bound a.form t n ops cells) e
    (prepared_more a.bound a.form t (first + l.k) l.ops l.cells ops cells c.args.words.held.valid (omega (arith, c.action_count-first.ensures, c.method_count-n.ensures)) l.invariant
    (subst (λ (y : Step). Stored (first + l.k) (row_of a.bound a.form t y) l.ops l.cells ops cells) (sym x) row.ensures))
