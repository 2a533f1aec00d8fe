-- The texts that a chain of writers leaves are the sections' texts.
use mathlib.Core.Path.{◌≡◌, refl, ap, ap₂, sym, ◌∙◌}
use mathlib.Core.List.{List, [], ◌∷◌, ◌++◌, append-nil, append_assoc, map, map-append}
use Prim.Native.Nat.{ℕ, suc, ◌+◌, ◌<◌}
use native.Mathlib.Numerals.{add-one}
use native.Mathlib.Omega.{arith}
use borrow.Author.Tests.{lt-ltb, le-ltb, eq-eqb, ne_eqb}
use lib.ListN.{length, length-append, length-map}
use Rattle.basics.specs.Lists.{rows, upto, concat}
use Rattle.basics.specs.Texts.{bytes, digits}
use Rattle.version3.specs.Spelling.{word_line, number_line, spell_variable}
use Rattle.rules.specs.Tables.{Table, fact_count, task_count}
use Rattle.rules.specs.Problems.{fact_names, height_names, value_names, variable_of}
use Rattle.laws.specs.Steps.{variable_text}
use Rattle.laws.proofs.ListLaws.{rows_length, map_rows}
use Rattle.laws.proofs.TextLaws.{concat_append, concat_rows}
use Rattle.variables.specs.Variables.{labelled, variable, variable_head, position_names}

pub head_lines : (v n : ℕ) → variable_head v n ≡ labelled (bytes "begin_variable\nvar") v ++ labelled (bytes "-1\n") n
unfolding variable_head
head_lines v n = append_assoc (labelled (bytes "begin_variable\nvar") v) (bytes "-1\n") (number_line n)

-- A section by the number of its values and their text.
whole : (v n : ℕ) (names : List (List ℕ)) (x : List ℕ) → length names ≡ n → concat (map word_line names) ≡ x
    → spell_variable (variable v names) ≡ variable_head v n ++ x ++ bytes "end_variable\n"
unfolding spell_variable variable_head
whole v n names x p q =
    let a : List ℕ = bytes "begin_variable\n" ++ labelled (bytes "var") v ++ bytes "-1\n" in
    ap₂ (λ (m : ℕ) (y : List ℕ). a ++ (number_line m ++ y) ++ bytes "end_variable\n") (length-map names word_line ∙ p) q
    ∙ ap (λ (y : List ℕ). y ++ bytes "end_variable\n") (sym (append_assoc a (number_line n) x))

-- The values that one text and the numbers below n give.
names_text : (s : List ℕ) (n : ℕ) → concat (map word_line (rows (λ k. s ++ digits k) n)) ≡ upto (labelled s) n
names_text s n = ap concat (map_rows word_line (λ k. s ++ digits k) n) ∙ concat_rows (labelled s) n

two_names : (o a b e : List ℕ) → o ++ (a ++ (b ++ [])) ++ e ≡ o ++ a ++ b ++ e
two_names o a b e = simp (append-nil, append_assoc)

pub fact_lines_lem : (v : ℕ)
    → spell_variable (variable v (fact_names v)) ≡ variable_head v 2 ++ labelled (bytes "Atom f") v ++ labelled (bytes "NegatedAtom f") v ++ bytes "end_variable\n"
unfolding concat
fact_lines_lem v =
    let holds : List ℕ = labelled (bytes "Atom f") v in
    let fails : List ℕ = labelled (bytes "NegatedAtom f") v in
    whole v 2 (fact_names v) (holds ++ (fails ++ [])) refl refl ∙ two_names (variable_head v 2) holds fails (bytes "end_variable\n")

pub top_lines : (v b : ℕ) → spell_variable (variable v (height_names b)) ≡ variable_head v (b + 1) ++ upto (labelled (bytes "top")) (b + 1) ++ bytes "end_variable\n"
top_lines v b =
    whole v (b + 1) (height_names b) (upto (labelled (bytes "top")) (b + 1))
    (rows_length (λ h. bytes "top" ++ digits h) (suc b) ∙ sym (add-one b))
    (names_text (bytes "top") (suc b) ∙ ap (upto (labelled (bytes "top"))) (sym (add-one b)))

last_name : (o u n e : List ℕ) → o ++ (u ++ n) ++ e ≡ o ++ u ++ (n ++ e)
last_name o u n e = simp append_assoc

pub position_lines : (v n : ℕ) → spell_variable (variable v (position_names n)) ≡ variable_head v (n + 1) ++ upto (labelled (bytes "t")) n ++ bytes "none\nend_variable\n"
unfolding concat
position_lines v n =
    let names : List (List ℕ) = rows (λ k. bytes "t" ++ digits k) n in
    let tasks : List ℕ = upto (labelled (bytes "t")) n in
    whole v (n + 1) (position_names n) (tasks ++ bytes "none\n")
    (length-append names (bytes "none" ∷ []) ∙ ap (λ (k : ℕ). k + 1) (rows_length (λ k. bytes "t" ++ digits k) n))
    (ap concat (map-append word_line names (bytes "none" ∷ []))
    ∙ concat_append (map word_line names) (bytes "none\n" ∷ [])
    ∙ ap (λ (x : List ℕ). x ++ bytes "none\n") (names_text (bytes "t") n))
    ∙ last_name (variable_head v (n + 1)) tasks (bytes "none\n") (bytes "end_variable\n")

module _ (b : ℕ) (t : Table) (v : ℕ) where
  by_names : {names : List (List ℕ)} → value_names b t v ≡ names → variable_text b t v ≡ spell_variable (variable v names)
  unfolding variable_of
  by_names e = ap (λ (names : List (List ℕ)). spell_variable (variable v names)) e

  pub fact_variable : v < fact_count t → variable_text b t v ≡ spell_variable (variable v (fact_names v))
  fact_variable l = by_names (rw (lt-ltb v (fact_count t) l))

  pub top_variable : v ≡ fact_count t → variable_text b t v ≡ spell_variable (variable v (height_names b))
  top_variable e = by_names (rw (le-ltb v (fact_count t) (omega arith), eq-eqb v (fact_count t) e))

  pub position_variable : fact_count t < v → variable_text b t v ≡ spell_variable (variable v (position_names (task_count t)))
  position_variable l = by_names (rw (le-ltb v (fact_count t) (omega arith), ne_eqb v (fact_count t) (λ e. omega arith)))
