use mathlib.Core.Path.{◌≡◌, sym, ap, ◌∙◌}
use mathlib.Core.List.{List}
use Prim.Native.Nat.{ℕ}
use Rattle.std.specs.Prelude.{Option, Some}
use Rattle.std.proofs.lemmas.Result.{err_from_is_err_and}
use Rattle.rules.specs.Tables.{Table, action_count, method_count}
use Rattle.rules.specs.declared.Kind.{Kind}
use Rattle.rules.specs.declared.Operator.{Operator as OperatorInCode}
use Rattle.words.specs.Words.{table_of}
use Rattle.laws.specs.Steps.{step_of, operator_of}
use Rattle.rows.specs.Rows.{Row, row_at, Prepared}
use Rattle.run.specs.Steps.{Point, step_row, document_step}
use Rattle.run.specs.Runs.{point_of}
use Rattle.run.specs.Ready.{row_index}
use Rattle.run.proofs.StepLaws.{step_document, step_unknown}
use Rattle.run.proofs.RowIndexLaws.{row_found, row_missing}
use Rattle.run.proofs.operate.Goals as goal

-- The row that is found makes the document's step.
by_row : {b f : ℕ} {t : Table} {ops cells : List ℕ} (rows : Prepared b f t ops cells) (o : OperatorInCode) (p : Point) {i : ℕ}
    → row_index o.kind o.number (action_count t) (method_count t) ≡ Some i → step_row (row_at ops cells i) o.position p ≡ document_step b f t (operator_of o) p
by_row {b} {f} {t} rows o p h =
    let q = row_found rows o.number o.kind h in
    ap (λ (r : Row). step_row r o.position p) q.row ∙ step_document f t b (step_of o.kind o.number) o.position p q.known

-- What is found by the code's counts is found by the table's.
same_row : (kind : Kind) (k : ℕ) {a a' m m' : ℕ} {r o : Option ℕ} → a ≡ a' → m ≡ m' → r ≡ row_index kind k a m → r ≡ o → row_index kind k a' m' ≡ o
same_row kind k e d h q = sym (λ i. row_index kind k (e i) (d i)) ∙ sym h ∙ q

pub returns-in_default-clause-stack_after : goal.returns-in_default-clause-stack_after
returns-in_default-clause-stack_after c =
    let o = c.args.operator in
    let missing = same_row o.kind o.number c.action_count-actions.ensures c.method_count-methods.ensures c.row_index.ensures c.in_default.is in
    let t = table_of c.args.words.all.now in
    sym (step_unknown c.args.form t c.args.bound (step_of o.kind o.number) o.position (point_of c.args.t c.args.stack.now) (row_missing t o.kind o.number missing))

pub returns-in_err-progress-clause-stack_after : goal.returns-in_err-progress-clause-stack_after
returns-in_err-progress-clause-stack_after c =
    let told = err_from_is_err_and c.from_residual.result c.from_residual.ensures.1 in
    let o = c.args.operator in
    let found = same_row o.kind o.number c.action_count-actions.ensures c.method_count-methods.ensures c.row_index.ensures c.in-Some.is in
    rw (told.1, told.2) (c.in_err-progress.ensures.stack_after ∙ by_row c.requires.ready.rows o (point_of c.args.t c.args.stack.now) found)

pub returns : goal.returns
returns c =
    let o = c.args.operator in
    let found = same_row o.kind o.number c.action_count-actions.ensures c.method_count-methods.ensures c.row_index.ensures c.in-Some.is in
    record {
      stack_after = c.in_ok-progress.ensures.stack_after ∙ by_row c.requires.ready.rows o (point_of c.args.t c.args.stack.now) found;
      sized = c.in_ok-progress.ensures.sized;
      stack_kept = tt;
      row_of = (row_found c.requires.ready.rows o.number o.kind found).its;
    }
