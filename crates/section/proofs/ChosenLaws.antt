-- Which section a number chooses.
use mathlib.Core.Path.{◌≡◌, ap, ◌∙◌}
use mathlib.Core.List.{List, []}
use Prim.Native.Nat.{ℕ, suc, ◌+◌, ◌-◌, ◌≤◌, ◌<◌}
use native.Mathlib.Omega.{arith}
use borrow.Author.Tests.{lt-ltb, le-ltb}
use lib.ListN.{length, get_or}
use Rattle.basics.specs.Answers.{answer, refusal}
use Rattle.rules.specs.Tables.{Table}
use Rattle.rules.specs.Operators.{Operator, operators_of}
use Rattle.basics.specs.Texts.{bytes}
use Rattle.version3.specs.Spelling.{preamble, middle}
use Rattle.rules.specs.Reasons.{no_such_section}
use Rattle.rules.specs.Problems.{variable_count, problem_of}
use Rattle.rules.specs.Sections.{sections_of}
use Rattle.rules.specs.Refusals.{chosen}
use Rattle.laws.specs.Steps.{step_at, variable_text, operator_text}
use Rattle.laws.proofs.CountLaws.{sections_length}
use Rattle.laws.proofs.SectionLaws.{section_first, section_variable, section_middle, section_operator, section_last}
use Rattle.problem.specs.Places.{IsPlace}
use Rattle.step_text.specs.Operators.{operator_text_at}

module _ (b f : ℕ) (t : Table) (k : ℕ) where
  here : (m : ℕ) {x : List ℕ} → k ≡ m → m < length (sections_of b f t) → get_or (sections_of b f t) m [] ≡ x → chosen (sections_of b f t) k ≡ answer x
  here m e l q = rw (e, lt-ltb m (length (sections_of b f t)) l) (ap answer q)

  pub chosen_first : k ≡ 0 → chosen (sections_of b f t) k ≡ answer (preamble (variable_count b t))
  chosen_first e = here 0 e (omega (arith, sections_length b f t)) (section_first b f t)

  pub chosen_variable : (k ≡ 0 → ⊥) → k ≤ variable_count b t → chosen (sections_of b f t) k ≡ answer (variable_text b t (k - 1))
  chosen_variable n l = here (suc (k - 1)) (omega arith) (omega (arith, sections_length b f t)) (section_variable b f t (k - 1) (omega arith))

  pub chosen_middle : k ≡ variable_count b t + 1 → chosen (sections_of b f t) k ≡ answer (middle (problem_of b f t))
  chosen_middle e = here (suc (variable_count b t)) (omega arith) (omega (arith, sections_length b f t)) (section_middle b f t)

  -- n sections behind the middle.
  module _ (n : ℕ) (e : k ≡ variable_count b t + 2 + n) where
    pub chosen_operator : (i p : ℕ) → IsPlace b f t n i p → chosen (sections_of b f t) k ≡ answer (operator_text_at f t i p)
    chosen_operator i p h =
        let o : Operator = record { what = step_at t i; at = suc p } in
        here (suc (suc (variable_count b t)) + n) (omega arith) (omega (arith, sections_length b f t, h.within))
        (section_operator b f t o n h.within ∙ ap (operator_text f t) (h.operator o))

    pub chosen_last : n ≡ length (operators_of b f t) + 0 → chosen (sections_of b f t) k ≡ answer (bytes "0\n")
    chosen_last h =
        here (suc (suc (variable_count b t)) + length (operators_of b f t)) (omega arith) (omega (arith, sections_length b f t)) (section_last b f t)

    pub chosen_none : (over : ℕ) → n ≡ length (operators_of b f t) + over → (over ≡ 0 → ⊥) → chosen (sections_of b f t) k ≡ refusal no_such_section 0
    chosen_none over h z = rw (le-ltb k (length (sections_of b f t)) (omega (arith, sections_length b f t)))
