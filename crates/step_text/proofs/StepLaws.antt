-- The operators of a step, from its row and the template that is composed of it.
use mathlib.Core.Path.{◌≡◌, sym, ap, ◌∙◌}
use mathlib.Core.List.{List}
use Prim.Native.Nat.{ℕ, ◌+◌, ◌≤◌, ◌<◌}
use native.Mathlib.Omega.{arith}
use lib.ListN.{length}
use Rattle.basics.specs.Texts.{ThreeDigits}
use Rattle.basics.specs.Lists.{upto}
use Rattle.rules.specs.Tables.{Table, fact_count, task_count, action_count, method_count}
use Rattle.rules.specs.Operators.{positions}
use Rattle.laws.specs.Valid.{Valid}
use Rattle.laws.specs.Steps.{step_at, step_text}
use Rattle.laws.proofs.TextLaws.{upto_same}
use Rattle.laws.proofs.StepSizes.{positions_low}
use Rattle.template.specs.declared.memory.Template.{Template}
use Rattle.template.specs.declared.view.Drawn.{Drawn}
use Rattle.template.specs.Templates.{rendered}
use Rattle.template.specs.Views.{shown}
use Rattle.rows.specs.Sizes.{row_words, row_cells}
use Rattle.rows.specs.Rows.{Row, row_at, row_of}
use Rattle.compose.specs.RowTexts.{Fit, row_text}
use Rattle.step_text.specs.Operators.{row_text_at, operator_text_at, IsComposed}
use Rattle.compose.proofs.FitLaws.{row_text_lem, row_fit}

-- What is asked of a row, for another number, in words of the code.
pub fit_as : {facts none top free : ℕ} (i k : ℕ) (ops cells : List ℕ) → top ≡ facts → free ≡ none → ThreeDigits k → Fit facts none i ops cells → Fit top free k ops cells
fit_as i k ops cells p q h x =
    rw (p, q) (record {
      facts = x.facts;
      none = x.none;
      number = h;
      row = x.row;
      left = x.left;
    })

pub row_text_as : {facts none top free : ℕ} {label name : List ℕ} (r : Row) (p : ℕ) → top ≡ facts → free ≡ none → label ≡ name
    → row_text top free label r p ≡ row_text facts none name r p
row_text_as r p a b c = λ j. row_text (a j) (b j) (c j) r p

module _ (b f : ℕ) (t : Table) (i : ℕ) (ops cells : List ℕ) (e : row_at ops cells 0 ≡ row_of b f t (step_at t i)) where
  pub step_fit : Valid t → i < action_count t + method_count t → length ops ≡ row_words → length cells ≡ row_cells → Fit (fact_count t) (task_count t) i ops cells
  step_fit v l p q = row_fit b f t i i ops cells v l (omega (arith, v.head.actions, v.head.methods)) e (record { in_words = omega arith; in_cells = omega arith })

  -- Its highest position.
  pub step_count_lem : (row_at ops cells 0).last ≡ positions b f t (step_at t i)
  step_count_lem = ap (λ (r : Row). r.last) e

  pub step_composed : (p : ℕ) → row_text_at t i (row_at ops cells 0) p ≡ operator_text_at f t i p
  step_composed p = row_text_lem b f t (step_at t i) ops cells p e

module _ {b f : ℕ} {t : Table} {i : ℕ} (s : Template) {n : ℕ} (c : IsComposed b f t i s n) where
  pub step_few : Valid t → i < action_count t + method_count t → n ≤ b
  step_few v l = omega (arith, c.count, positions_low f t v i l b)

  -- The texts of the template at its positions are the step's operators.
  pub step_drawn : step_text b f t i ≡ upto (rendered s) n
  unfolding step_text
  step_drawn =
      ap (upto (operator_text_at f t i)) (sym c.count)
      ∙ upto_same (operator_text_at f t i) (rendered s) n (λ p l. sym (c.text p))

  -- The same of a view of it.
  pub step_shown : (d : Drawn) → ((p : ℕ) → shown d p ≡ rendered s p) → step_text b f t i ≡ upto (shown d) n
  step_shown d e = step_drawn ∙ upto_same (rendered s) (shown d) n (λ p l. sym (e p))
