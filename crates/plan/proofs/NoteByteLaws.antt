-- The bytes of an accepted plan's notes are those of its steps.
use Prim.Native.Nat.{ℕ, ◌*◌, ◌≤◌, ◌<◌}
use mathlib.Core.Path.{◌≡◌, sym, ap, ◌∙◌}
use mathlib.Core.List.{List}
use native.Mathlib.Omega.{arith}
use lib.ListN.{length, take}
use lib.Seq.{sets}
use Rattle.std.specs.Prelude.{Ok, Err}
use Rattle.basics.specs.declared.Refusal.{Refusal}
use Rattle.basics.specs.Answers.{Answer, after}
use Rattle.rules.specs.declared.Tally.{Tally as TallyInCode}
use Rattle.rules.specs.Tables.{Table}
use Rattle.rules.specs.Progression.{Step}
use Rattle.rules.specs.Operators.{expand_all}
use Rattle.rules.specs.Plans.{lines_of, opers_of}
use Rattle.rules.specs.Checks.{Tally, verdict_of, check_lines, step_bytes}
use Rattle.rules.specs.Refusals.{room_for, steps_for, written}
use Rattle.laws.proofs.StepLaws.{bytes_length}
use Rattle.laws.proofs.RefusalLaws.{stores_written, room_short, room_fits}
use Rattle.step_list.specs.RowSteps.{rows_steps, rows_bytes}
use Rattle.checker.specs.Notes.{Noted, NotesExpand}
use Rattle.plan.specs.NoteBytes.{note_bytes}

module _ {f : ℕ} {t : Table} {notes : List ℕ} {operators steps : ℕ} (h : Noted f t notes operators steps) where
  abbrev the_bytes : List ℕ
  the_bytes = rows_bytes f t (take operators notes)

  pub notes_long : length the_bytes ≡ 2 * steps
  notes_long = bytes_length (rows_steps f t (take operators notes)) ∙ ap (λ (n : ℕ). 2 * n) h.count

  pub notes_kept : (old : List ℕ) → length old < 2 * steps → old ≡ written old 0 (room_for (length old) 0 the_bytes)
  unfolding written
  notes_kept old l = sym (ap (written old 0) (room_short (length old) 0 the_bytes (omega (arith, notes_long))))

  pub notes_written : (old : List ℕ) {new : List ℕ} → 2 * steps ≤ length old → new ≡ sets old 0 the_bytes → new ≡ written old 0 (room_for (length old) 0 the_bytes)
  notes_written old l e =
      e ∙ stores_written old the_bytes 0 (omega (arith, notes_long))
      ∙ ap (written old 0) (sym (room_fits (length old) 0 the_bytes (omega (arith, notes_long))))

-- They are those of the plan's lines.
module _ (b f : ℕ) (t : Table) (text : List ℕ) where
  abbrev given : ℕ → Answer Tally → Answer (List ℕ)
  given size verdict = after verdict (λ _. room_for size 0 (step_bytes (expand_all f t (opers_of (lines_of text)))))

  pub notes_given : (notes : List ℕ) (y : TallyInCode) → verdict_of (Ok y) ≡ check_lines b f t (lines_of text) → NotesExpand f t (lines_of text) notes (Ok y)
      → (size : ℕ) → note_bytes f t notes y.operators size ≡ steps_for b f t text size
  notes_given notes y e h size = ap (λ (xs : List Step). room_for size 0 (step_bytes xs)) h ∙ ap (given size) e

  -- A refused plan's are not written.
  pub none_given : (e : Refusal) → verdict_of (Err e) ≡ check_lines b f t (lines_of text) → (old : List ℕ) → old ≡ written old 0 (steps_for b f t text (length old))
  unfolding written
  none_given e q old = ap (λ (a : Answer Tally). written old 0 (given (length old) a)) q
