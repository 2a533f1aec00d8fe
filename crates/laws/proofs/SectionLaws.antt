-- Where each section stands, which operator stands where, and the whole text step by step.
use mathlib.Core.Path.{◌≡◌, refl, sym, ap, ap₂, ◌∙◌}
use mathlib.Core.List.{List, [], ◌∷◌, ◌++◌, map, append_assoc, map-append}
use Prim.Native.Nat.{ℕ, zero, suc, ◌+◌, ◌<◌}
use native.Mathlib.Omega.{arith}
use lib.ListN.{length, get_or, length-map, get_or-append}
use lib.Seq.{get_or_at, get_or-append-add}
use Rattle.basics.specs.Lists.{rows, upto, sum_to, concat}
use Rattle.rules.specs.Tables.{Table, action_count, method_count}
use Rattle.rules.specs.Progression.{Step, act, mth}
use Rattle.rules.specs.Operators.{Operator, positions, rising_from1, operators_of}
use Rattle.basics.specs.Texts.{bytes}
use Rattle.rules.specs.Problems.{variable_count, variable_of, oper_of, problem_of}
use Rattle.rules.specs.Sections.{sections_of, problem_text}
use Rattle.version3.specs.Spelling.{preamble, spell_variable, middle, spell_oper, spell}
use Rattle.laws.specs.Steps.{step_at, variable_text, operator_text, step_text, front_text}
use Rattle.laws.proofs.ListLaws.{rows_length, rows_at, map_rows, map_map, upto_length, upto_split, upto_at, sum_same}
use Rattle.laws.proofs.TextLaws.{upto_same, concat_append, concat_rows}
use Rattle.laws.proofs.StepNumbers.{step_action, step_method}

-- Lists made from each list of a row.
concat_upto : {A B : Type 0} (g : A → List B) (f : ℕ → List A) (n : ℕ) → concat (map g (upto f n)) ≡ upto (λ k. concat (map g (f k))) n
unfolding upto concat
concat_upto g f zero = refl
concat_upto {B = B} g f (suc n) =
    ap concat (map-append g (upto f n) (f n))
    ∙ concat_append (map g (upto f n)) (map g (f n))
    ∙ ap (λ (xs : List B). xs ++ concat (map g (f n))) (concat_upto g f n)

map_at : {A B : Type 0} (g : A → B) (xs : List A) (k : ℕ) (d : A) (e : B) → k < length xs → get_or (map g xs) k e ≡ g (get_or xs k d)
map_at g [] k d e l = absurd (omega arith)
map_at g (x ∷ xs) zero d e l = refl
map_at g (x ∷ xs) (suc k) d e l = map_at g xs k d e (omega arith)

module _ (b f : ℕ) (t : Table) where
  -- ---- operators

  -- The operators of a step, and how many they are.
  abbrev ops : Step → List Operator
  ops x = rising_from1 x (positions b f t x)

  abbrev count : ℕ → ℕ
  count i = positions b f t (step_at t i)

  pub operators_steps : operators_of b f t ≡ upto (λ i. rising_from1 (step_at t i) (positions b f t (step_at t i))) (action_count t + method_count t)
  unfolding operators_of
  operators_steps =
      ap₂ (λ (xs ys : List Operator). xs ++ ys)
      (upto_same (λ k. ops (act k)) (λ k. ops (step_at t k)) (action_count t) (λ k l. ap ops (sym (step_action t k l))))
      (upto_same (λ k. ops (mth k)) (λ k. ops (step_at t (action_count t + k))) (method_count t) (λ k l. ap ops (sym (step_method t k))))
      ∙ sym (upto_split (λ k. ops (step_at t k)) (action_count t) (method_count t))

  ops_length : (i : ℕ) → length (ops (step_at t i)) ≡ count i
  ops_length i = rows_length (λ p. record { what = step_at t i; at = suc p }) (count i)

  -- Operators before those of step i.
  ops_sum : (i : ℕ) → sum_to (λ j. length (ops (step_at t j))) i ≡ sum_to count i
  ops_sum i = sum_same (λ j. length (ops (step_at t j))) count i (λ j l. ops_length j)

  pub operator_at_lem : (d : Operator) (i p : ℕ) → i < action_count t + method_count t → p < positions b f t (step_at t i)
      → get_or (operators_of b f t) (sum_to (λ j. positions b f t (step_at t j)) i + p) d ≡ record { what = step_at t i; at = suc p }
  operator_at_lem d i p l h =
      ap₂ (λ (os : List Operator) (n : ℕ). get_or os (n + p) d) operators_steps (sym (ops_sum i))
      ∙ upto_at (λ j. ops (step_at t j)) d (action_count t + method_count t) i p l (omega (arith, ops_length i))
      ∙ rows_at (λ p. record { what = step_at t i; at = suc p }) d (count i) p h

  pub operators_count : length (operators_of b f t) ≡ sum_to (λ j. positions b f t (step_at t j)) (action_count t + method_count t)
  operators_count = ap length operators_steps ∙ upto_length (λ j. ops (step_at t j)) (action_count t + method_count t) ∙ ops_sum (action_count t + method_count t)

  -- ---- sections

  -- The sections of the operators, and those before the middle one.
  abbrev operator_sections : List (List ℕ)
  operator_sections = map (operator_text f t) (operators_of b f t)

  abbrev front : List (List ℕ)
  front = preamble (variable_count b t) ∷ rows (variable_text b t) (variable_count b t)

  -- The spelling of the problem, as these.
  sections_group : sections_of b f t ≡ front ++ (middle (problem_of b f t) ∷ operator_sections) ++ (bytes "0\n" ∷ [])
  unfolding sections_of spell problem_of
  sections_group =
      let head : preamble (length (problem_of b f t).variables) ≡ preamble (variable_count b t) = ap preamble (rows_length (variable_of b t) (variable_count b t)) in
      let variables : map spell_variable (problem_of b f t).variables ≡ rows (variable_text b t) (variable_count b t) = map_rows spell_variable (variable_of b t) (variable_count b t) in
      let operators : map spell_oper (problem_of b f t).operators ≡ operator_sections = map_map spell_oper (oper_of f t) (operators_of b f t) in
      λ i. (head i ∷ variables i) ++ (middle (problem_of b f t) ∷ operators i) ++ (bytes "0\n" ∷ [])

  sections_are : sections_of b f t ≡ front ++ (middle (problem_of b f t) ∷ (operator_sections ++ (bytes "0\n" ∷ [])))
  sections_are = sections_group ∙ append_assoc front (middle (problem_of b f t) ∷ operator_sections) (bytes "0\n" ∷ [])

  front_length : length front ≡ suc (variable_count b t)
  front_length = ap suc (rows_length (variable_text b t) (variable_count b t))

  pub section_first : get_or (sections_of b f t) 0 [] ≡ preamble (variable_count b t)
  section_first = ap (λ (xs : List (List ℕ)). get_or xs 0 []) sections_are

  pub section_variable : (v : ℕ) → v < variable_count b t → get_or (sections_of b f t) (suc v) [] ≡ variable_text b t v
  section_variable v l =
      ap (λ (xs : List (List ℕ)). get_or xs (suc v) []) sections_are
      ∙ get_or-append front (middle (problem_of b f t) ∷ (operator_sections ++ (bytes "0\n" ∷ []))) [] (suc v) (omega (arith, front_length))
      ∙ rows_at (variable_text b t) [] (variable_count b t) v l

  pub section_middle : get_or (sections_of b f t) (suc (variable_count b t)) [] ≡ middle (problem_of b f t)
  section_middle =
      ap (λ (xs : List (List ℕ)). get_or xs (suc (variable_count b t)) []) sections_are
      ∙ get_or_at front (middle (problem_of b f t)) (operator_sections ++ (bytes "0\n" ∷ [])) [] (suc (variable_count b t)) front_length

  -- What stands k places behind the middle.
  behind : (k : ℕ) → get_or (sections_of b f t) (suc (suc (variable_count b t)) + k) [] ≡ get_or (operator_sections ++ (bytes "0\n" ∷ [])) k []
  behind k =
      let e : suc (suc (variable_count b t)) + k ≡ length front + suc k = omega (arith, front_length) in
      ap₂ (λ (xs : List (List ℕ)) (n : ℕ). get_or xs n []) sections_are e
      ∙ get_or-append-add front (middle (problem_of b f t) ∷ (operator_sections ++ (bytes "0\n" ∷ []))) (suc k) []

  pub section_operator : (d : Operator) (k : ℕ) → k < length (operators_of b f t)
      → get_or (sections_of b f t) (suc (suc (variable_count b t)) + k) [] ≡ operator_text f t (get_or (operators_of b f t) k d)
  section_operator d k l =
      behind k
      ∙ get_or-append operator_sections (bytes "0\n" ∷ []) [] k (omega (arith, length-map (operators_of b f t) (operator_text f t)))
      ∙ map_at (operator_text f t) (operators_of b f t) k d [] l

  pub section_last : get_or (sections_of b f t) (suc (suc (variable_count b t)) + length (operators_of b f t)) [] ≡ bytes "0\n"
  section_last =
      behind (length (operators_of b f t))
      ∙ get_or_at operator_sections (bytes "0\n") [] [] (length (operators_of b f t)) (length-map (operators_of b f t) (operator_text f t))

  -- ---- the whole text

  -- The text of all operators, step by step.
  operators_text : concat operator_sections ≡ upto (step_text b f t) (action_count t + method_count t)
  unfolding step_text
  operators_text =
      ap (λ (os : List Operator). concat (map (operator_text f t) os)) operators_steps
      ∙ concat_upto (operator_text f t) (λ i. ops (step_at t i)) (action_count t + method_count t)
      ∙ upto_same (λ i. concat (map (operator_text f t) (ops (step_at t i)))) (step_text b f t) (action_count t + method_count t)
      (λ i l. ap concat (map_rows (operator_text f t) (λ p. record { what = step_at t i; at = suc p }) (count i))
      ∙ concat_rows (λ p. operator_text f t (record { what = step_at t i; at = suc p })) (count i))

  pub whole_text : problem_text b f t ≡ front_text b f t ++ upto (step_text b f t) (action_count t + method_count t) ++ bytes "0\n"
  unfolding problem_text concat front_text
  whole_text =
      ap concat sections_group
      ∙ concat_append (front ++ (middle (problem_of b f t) ∷ operator_sections)) (bytes "0\n" ∷ [])
      ∙ ap (λ (xs : List ℕ). xs ++ bytes "0\n")
      (concat_append front (middle (problem_of b f t) ∷ operator_sections)
      ∙ ap₂ (λ (xs ys : List ℕ). (preamble (variable_count b t) ++ xs) ++ (middle (problem_of b f t) ++ ys)) (concat_rows (variable_text b t) (variable_count b t)) operators_text
      ∙ sym (append_assoc (preamble (variable_count b t) ++ upto (variable_text b t) (variable_count b t)) (middle (problem_of b f t)) (upto (step_text b f t) (action_count t + method_count t))))
