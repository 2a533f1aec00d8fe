-- The notes of a check, an operator at a time: what is noted and what is left give the whole plan's steps.
use Prim.Native.Nat.{ℕ, suc, ◌+◌, ◌≤◌, ◌<◌}
use mathlib.Core.Path.{◌≡◌, refl, sym, ap, ◌∙◌}
use mathlib.Core.Bool.{Bool, true, false}
use mathlib.Core.List.{List, [], ◌∷◌, ◌++◌, append-nil, append_assoc}
use native.Mathlib.Omega.{arith}
use native.Mathlib.Decide.{dec_lt}
use lib.ListN.{length, get_or, set, take, drop, length-set, length-append}
use lib.Seq.{get_or-set_same, get_or-set_other, take-suc-set, length-take-le, get_or-take}
use Rattle.basics.specs.Answers.{Answer, number_of, value_of, check}
use Rattle.std.specs.Prelude.{Result, Ok, Err}
use Rattle.basics.specs.declared.Refusal.{Refusal}
use Rattle.rules.specs.declared.Tally.{Tally as TallyInCode}
use Rattle.rules.specs.declared.Operator.{Operator as OperatorInCode}
use Rattle.rules.specs.Reasons.{stack_not_empty, goal_missing}
use Rattle.rules.specs.Tables.{Table, goal_facts}
use Rattle.rules.specs.Facts.{holds}
use Rattle.rules.specs.Progression.{Step, is_empty}
use Rattle.rules.specs.Operators.{expand, expand_all}
use Rattle.rules.specs.Plans.{lines_of, opers_of}
use Rattle.rules.specs.Checks.{Tally, accepted, operators_in, steps_in, verdict_of, finish}
use Rattle.laws.specs.Steps.{step_of, operator_of}
use Rattle.lines.specs.Lines.{OperatorLine, CommentLine}
use Rattle.lines.proofs.PlaceLaws.{no_line}
use Rattle.run.specs.Steps.{Point, check_at}
use Rattle.run.specs.Ready.{RowOf}
use Rattle.step_list.specs.RowSteps.{IsRow, row_operator, rows_steps}
use Rattle.checker.specs.Notes.{most_notes, Noted, NotesHeld, NotesExpand}

-- So many operators, with so many steps, are noted of the lines up to a place.
pub record Noting (f : ℕ) (t : Table) (text notes : List ℕ) (operators steps at : ℕ) : Type 0 where
  pub space : length notes ≡ most_notes
  pub rows : (n : ℕ) → n < operators → IsRow t (get_or notes n 0)
  pub count : length (rows_steps f t (take operators notes)) ≡ steps
  pub whole : rows_steps f t (take operators notes) ++ expand_all f t (opers_of (lines_of (drop at text))) ≡ expand_all f t (opers_of (lines_of text))

pub noting_begins : {f : ℕ} {t : Table} {text notes : List ℕ} {operators steps : ℕ} → length notes ≡ most_notes → operators ≡ 0 → steps ≡ 0
    → Noting f t text notes operators steps 0
noting_begins l e d = rw (e, d) (record { space = l; rows = λ n h. absurd (omega arith); count = refl; whole = refl })

-- One row more.
rows_append : (f : ℕ) (t : Table) (xs ys : List ℕ) → rows_steps f t (xs ++ ys) ≡ rows_steps f t xs ++ rows_steps f t ys
rows_append f t [] ys = refl
rows_append f t (x ∷ xs) ys =
    ap (λ (zs : List Step). expand f t (row_operator t x) ++ zs) (rows_append f t xs ys)
    ∙ sym (append_assoc (expand f t (row_operator t x)) (rows_steps f t xs) (rows_steps f t ys))

module _ {f : ℕ} {t : Table} {text notes : List ℕ} {operators steps at : ℕ} (g : Noting f t text notes operators steps at) where
  pub noting_comment : {next : ℕ} → CommentLine text at next → Noting f t text notes operators steps next
  noting_comment h =
      record { space = g.space; rows = g.rows; count = g.count; whole = rw h.lines at g.whole }

  module _ {op : OperatorInCode} {next : ℕ} (h : OperatorLine text at op next) {row : ℕ} (o : RowOf t (step_of op.kind op.number) row) (l : operators < most_notes) where
    abbrev noted : List ℕ
    noted = set notes operators row

    abbrev those : List Step
    those = expand f t (operator_of op)

    more : rows_steps f t (take (suc operators) noted) ≡ rows_steps f t (take operators notes) ++ those
    more =
        ap (rows_steps f t) (take-suc-set notes operators row (omega (arith, g.space)))
        ∙ rows_append f t (take operators notes) (row ∷ [])
        ∙ ap (λ (zs : List Step). rows_steps f t (take operators notes) ++ zs)
        (append-nil (expand f t (row_operator t row)) ∙ ap (λ (x : Step). expand f t (record { what = x; at = op.position })) o.step)

    its_row : (n : ℕ) → n < suc operators → IsRow t (get_or noted n 0)
    its_row n m =
        elim (dec_lt n operators) [
          | yes e ↦ rw (get_or-set_other notes operators n row 0 (λ q. omega arith)) (g.rows n e)
          | no e ↦ (let q : n ≡ operators = omega arith in rw (q, get_or-set_same notes operators row 0 (omega (arith, g.space))) o.low)
        ]

    pub noting_operator : {operators' steps' : ℕ} → operators' ≡ suc operators → steps' ≡ steps + length those → Noting f t text noted operators' steps' next
    noting_operator {operators'} {steps'} e d =
        rw e (record {
          space = length-set notes operators row ∙ g.space;
          rows = its_row;
          count = ap length more ∙ length-append (rows_steps f t (take operators notes)) those ∙ omega (arith, g.count, d);
          whole =
              ap (λ (zs : List Step). zs ++ expand_all f t (opers_of (lines_of (drop next text)))) more
              ∙ append_assoc (rows_steps f t (take operators notes)) those (expand_all f t (opers_of (lines_of (drop next text))))
              ∙ (rw h.lines at g.whole);
        })

  -- At the end of the text all is noted.
  all_noted : length text ≤ at → operators ≤ most_notes → Noted f t notes operators steps × (rows_steps f t (take operators notes) ≡ expand_all f t (opers_of (lines_of text)))
  all_noted l m = (
    record { few = omega (arith, g.space); rows = λ n h. taken_row n h; count = g.count },
    sym (append-nil (rows_steps f t (take operators notes))) ∙ (rw (no_line text at l) at g.whole),
  )
    where
      taken_row : (n : ℕ) → n < length (take operators notes) → IsRow t (get_or (take operators notes) n 0)
      taken_row n h =
          let low : n < operators = omega (arith, length-take-le operators notes (omega (arith, g.space))) in
          rw (get_or-take operators notes n 0 low) (g.rows n low)

  -- Whatever the verdict.
  pub noting_ends : length text ≤ at → operators ≤ most_notes → (r : Result TallyInCode Refusal) (lines : ℕ) (p : Point) → p.operators ≡ operators → p.steps ≡ steps
      → verdict_of r ≡ finish t (check_at lines p) → NotesHeld f t notes r × NotesExpand f t (lines_of text) notes r
  noting_ends l m (Err e) lines p o k q = (tt, tt)
  noting_ends l m (Ok y) lines p o k q = go (is_empty p.stack) (holds (goal_facts t) p.facts) q
    where
      go : (x z : Bool) → accepted y.cost y.operators y.steps ≡ check x stack_not_empty lines (check z goal_missing lines (accepted p.cost p.operators p.steps))
          → Noted f t notes y.operators y.steps × (rows_steps f t (take y.operators notes) ≡ expand_all f t (opers_of (lines_of text)))
      go true true q =
          let a : y.operators ≡ operators = ap (λ (v : Answer Tally). value_of operators_in v) q ∙ o in
          let b : y.steps ≡ steps = ap (λ (v : Answer Tally). value_of steps_in v) q ∙ k in
          rw (a, b) (all_noted l m)
      go true false q = let z : ◌≡◌ {A = ℕ} 0 goal_missing = ap number_of q in absurd (omega arith)
      go false z q = let n : ◌≡◌ {A = ℕ} 0 stack_not_empty = ap number_of q in absurd (omega arith)
