-- The check, a line at a time, by the run's own steps.
use mathlib.Core.Path.{◌≡◌, refl, sym, ap, subst, ◌∙◌}
use mathlib.Core.Bool.{Bool, true, false, cond}
use mathlib.Core.List.{List, ◌∷◌}
use Prim.Native.Nat.{ℕ, suc, ◌+◌, ◌*◌, ◌<◌, ◌≤◌}
use native.Mathlib.Numerals.{add-one}
use native.Mathlib.Omega.{arith}
use borrow.Author.Tests.{eq-eqb, ne_eqb}
use lib.ListN.{length, drop}
use Rattle.std.specs.Prelude.{None, Ok, Err}
use Rattle.basics.specs.Answers.{refusal}
use Rattle.rules.specs.Reasons.{line_shape, not_emitted, not_applicable}
use Rattle.rules.specs.ReasonNumbers.{number}
use Rattle.rules.specs.declared.Operator.{Operator as OperatorInCode}
use Rattle.rules.specs.declared.reasons.Reason.{Reason}
use Rattle.rules.specs.declared.reasons.Reason.TheVariants.{BadBound, BadForm, TableTooLong, PlanTooLong, TableEnds, BadNumber, OutOfRange, NotThere, BytesAfterTable, NoSuchSection, LineShape, NotEmitted, NotApplicable, StackNotEmpty, GoalMissing, NoRoom, BadLimits, NoPlan, OverBudget}
use Rattle.rules.specs.Tables.{Table}
use Rattle.rules.specs.Progression.{after_all, total_cost}
use Rattle.rules.specs.Operators.{Operator, expand, emitted, applies}
use Rattle.rules.specs.Plans.{Line, note, oper, other, lines_of}
use Rattle.rules.specs.Checks.{finish, check_from, check_lines}
use Rattle.laws.specs.Steps.{operator_of}
use Rattle.lines.specs.Places.{shortest_line}
use Rattle.line_ends.specs.Ends.{Whole}
use Rattle.lines.specs.Lines.{OperatorLine, CommentLine, IsLine}
use Rattle.lines.proofs.PlaceLaws.{left_over, no_line}
use Rattle.rows.specs.Sizes.{stack_cells}
use Rattle.run.specs.Steps.{Point, Moved, start_point, state_of, check_at, refused, reached, document_step}
use Rattle.run.specs.Runs.{ProgressOk, point_of, applied_of}
use Rattle.run.specs.declared.Progress.{Progress}
use Rattle.run.specs.declared.Applied.{Applied}
use Rattle.run.proofs.StepLaws.{check_step}

-- What a line of each kind does.
module _ (b f : ℕ) (t : Table) (n : ℕ) (p : Point) where
  pub shape_line : {rest ls : List Line} → ls ≡ other ∷ rest → check_from b f t (check_at n p) ls ≡ refusal line_shape (n + 1)
  shape_line e = rw (e, add-one)

  pub comment_line : {rest ls : List Line} → ls ≡ note ∷ rest → check_from b f t (check_at n p) ls ≡ check_from b f t (check_at (n + 1) p) rest
  comment_line e = rw (e, add-one)

  module _ (o : Operator) {rest ls : List Line} {m : Moved} (e : ls ≡ oper o ∷ rest) (d : m ≡ document_step b f t o p) where
    pub operator_moves : m.number ≡ 0 → check_from b f t (check_at n p) ls ≡ check_from b f t (check_at (n + 1) m.point) rest
    operator_moves z =
        rw (e, add-one, d) (check_step b f t n p o rest ∙ rw (eq-eqb _ 0 (ap (λ (x : Moved). x.number) (sym d) ∙ z)))

    pub operator_refused : (m.number ≡ 0 → ⊥) → check_from b f t (check_at n p) ls ≡ refusal m.number (n + 1)
    operator_refused z =
        rw (e, add-one, d) (check_step b f t n p o rest ∙ rw (ne_eqb _ 0 (λ q. z (ap (λ (x : Moved). x.number) d ∙ q))))

-- A check on its way: what is left of the text gives the whole answer.
pub record Going (b f : ℕ) (t : Table) (text stack : List ℕ) (run : Progress) (at lines : ℕ) : Type 0 where
  pub cells : length stack ≡ stack_cells
  pub ok : ProgressOk run
  pub few : shortest_line * run.operators ≤ at
  pub passed : lines ≤ at
  pub within : at ≤ length text
  pub rest : check_from b f t (check_at lines (point_of run stack)) (lines_of (drop at text)) ≡ check_lines b f t (lines_of text)

-- It begins with the starting task alone on the stack.
pub going_begins : {f : ℕ} {t : Table} {b : ℕ} {text stack : List ℕ} {run : Progress} → length stack ≡ stack_cells → ProgressOk run → point_of run stack ≡ start_point t
    → Going b f t text stack run 0 0
unfolding check_lines
going_begins {f} {t} {b} {text} l k e =
    record {
      cells = l;
      ok = k;
      few = omega (arith, ap (λ (p : Point). p.operators) e);
      passed = omega arith;
      within = omega arith;
      rest = ap (λ (p : Point). check_from b f t (check_at 0 p) (lines_of text)) e;
    }

-- An operator that is applied counts one, and its steps.
pub record Counted (f : ℕ) (t : Table) (o : Operator) (p q : Point) : Type 0 where
  pub operators : q.operators ≡ suc p.operators
  pub steps : q.steps ≡ p.steps + length (expand f t o)

counted : (b f : ℕ) (t : Table) (o : Operator) (p : Point) → (document_step b f t o p).number ≡ 0 → Counted f t o p (document_step b f t o p).point
unfolding document_step
counted b f t o p = go (emitted b f t o) (applies f t (state_of p) o)
  where
    done : Moved
    done = reached p (after_all t (state_of p) (expand f t o)) (length (expand f t o)) (total_cost t (expand f t o))

    go : (x y : Bool) → (cond x (cond y done (refused not_applicable p)) (refused not_emitted p)).number ≡ 0
        → Counted f t o p (cond x (cond y done (refused not_applicable p)) (refused not_emitted p)).point
    go true true z = record { operators = refl; steps = refl }
    go true false z = absurd (omega arith)
    go false y z = absurd (omega arith)

-- No reason has the number 0, which tells that there is none.
reason_told : (r : Reason) → number r ≡ 0 → ⊥
reason_told BadBound z = absurd (omega arith)
reason_told BadForm z = absurd (omega arith)
reason_told TableTooLong z = absurd (omega arith)
reason_told PlanTooLong z = absurd (omega arith)
reason_told TableEnds z = absurd (omega arith)
reason_told BadNumber z = absurd (omega arith)
reason_told OutOfRange z = absurd (omega arith)
reason_told NotThere z = absurd (omega arith)
reason_told BytesAfterTable z = absurd (omega arith)
reason_told NoSuchSection z = absurd (omega arith)
reason_told LineShape z = absurd (omega arith)
reason_told NotEmitted z = absurd (omega arith)
reason_told NotApplicable z = absurd (omega arith)
reason_told StackNotEmpty z = absurd (omega arith)
reason_told GoalMissing z = absurd (omega arith)
reason_told NoRoom z = absurd (omega arith)
reason_told BadLimits z = absurd (omega arith)
reason_told NoPlan z = absurd (omega arith)
reason_told OverBudget z = absurd (omega arith)

-- One line more, of each kind, and the end of the text.
module _ {f : ℕ} {t : Table} {b : ℕ} {text stack : List ℕ} {run : Progress} {at lines : ℕ} (g : Going b f t text stack run at lines) where
  pub shape_out : IsLine text at None → refusal line_shape (lines + 1) ≡ check_lines b f t (lines_of text)
  shape_out h = sym (shape_line b f t lines (point_of run stack) h.1) ∙ g.rest

  pub comment_on : {next : ℕ} → CommentLine text at next → Going b f t text stack run next (lines + 1)
  comment_on h =
      record {
        cells = g.cells;
        ok = g.ok;
        few = omega (arith, g.few, h.onward);
        passed = omega (arith, g.passed, h.onward);
        within = h.within;
        rest = sym (comment_line b f t lines (point_of run stack) h.lines) ∙ g.rest;
      }

  module _ {o : OperatorInCode} {next : ℕ} (h : OperatorLine text at o next) (stack' : List ℕ) where
    pub operator_out : (r : Reason) → applied_of run (Err r) stack' ≡ document_step b f t (operator_of o) (point_of run stack) → refusal (number r) (lines + 1) ≡ check_lines b f t (lines_of text)
    operator_out r d = sym (operator_refused b f t lines (point_of run stack) _ h.lines d (reason_told r)) ∙ g.rest

    module _ (a : Applied) (d : applied_of run (Ok a) stack' ≡ document_step b f t (operator_of o) (point_of run stack)) where
      pub operator_counts : Counted f t (operator_of o) (point_of run stack) (point_of a.progress stack')
      operator_counts =
          subst (λ (m : Moved). Counted f t (operator_of o) (point_of run stack) m.point) (sym d)
          (counted b f t (operator_of o) (point_of run stack) (sym (ap (λ (m : Moved). m.number) d)))

      pub operator_on : length stack' ≡ stack_cells → ProgressOk a.progress → Going b f t text stack' a.progress next (lines + 1)
      operator_on l k =
          let n = operator_counts.operators in
          record {
            cells = l;
            ok = k;
            few = omega (arith, g.few, h.onward, n);
            passed = omega (arith, g.passed, h.onward);
            within = h.within;
            rest = sym (operator_moves b f t lines (point_of run stack) _ h.lines d refl) ∙ g.rest;
          }

  -- A last line without line feed.
  pub cut_out : {end : ℕ} → Whole text end → end ≤ at → at < length text → refusal line_shape (lines + 1) ≡ check_lines b f t (lines_of text)
  cut_out w h l = sym (shape_line b f t lines (point_of run stack) (left_over w at h l)) ∙ g.rest

  pub ends : length text ≤ at → finish t (check_at lines (point_of run stack)) ≡ check_lines b f t (lines_of text)
  ends l = ap (check_from b f t (check_at lines (point_of run stack))) (sym (no_line text at l)) ∙ g.rest
