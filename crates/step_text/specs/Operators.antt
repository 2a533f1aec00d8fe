-- The operators of one step, and the template that says them.
use Rattle.std.specs.Prelude.{ℕ, suc, ◌+◌, ◌*◌, ◌≤◌, ◌≡◌, List, ◌∷◌}
use Rattle.basics.specs.Texts.{digits}
use Rattle.rules.specs.Tables.{Table, fact_count}
use Rattle.rules.specs.Operators.{positions}
use Rattle.rules.specs.Problems.{no_task, name_of}
use Rattle.laws.specs.Steps.{step_at, operator_text}
use Rattle.template.specs.Sizes.{operator_bytes}
use Rattle.template.specs.declared.memory.Template.{Template}
use Rattle.template.specs.Templates.{Stands, rendered}
use Rattle.rows.specs.Rows.{Row}
use Rattle.compose.specs.RowTexts.{row_text}
use Rattle.step_text.specs.declared.Label.{Label}

-- The letter and the number of step i's name; the number is no higher than the step's.
pub record Names (t : Table) (i : ℕ) (r : Label) : Type 0 where
  pub text : r.letter ∷ digits r.number ≡ name_of (step_at t i)
  pub low : r.number ≤ i

-- The operator of step i at the position p + 1: from a row, and as the document has it.
abbrev pub row_text_at : Table → ℕ → Row → ℕ → List ℕ
row_text_at t i r p = row_text (fact_count t) (no_task t) (name_of (step_at t i)) r p

abbrev pub operator_text_at : ℕ → Table → ℕ → ℕ → List ℕ
operator_text_at f t i p = operator_text f t (record { what = step_at t i; at = suc p })

-- The template says the operator of step i at each position; it exists at so many.
pub record IsComposed (b f : ℕ) (t : Table) (i : ℕ) (s : Template) (n : ℕ) : Type 0 where
  pub stands : Stands s
  pub text : (p : ℕ) → rendered s p ≡ operator_text_at f t i p
  pub most : s.at + 3 * s.count ≤ operator_bytes
  pub count : n ≡ positions b f t (step_at t i)
