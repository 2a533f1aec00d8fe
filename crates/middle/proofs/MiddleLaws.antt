-- The texts that a chain of writers leaves are the middle section's.
use mathlib.Core.Path.{◌≡◌, ap, ap₂, ◌∙◌}
use mathlib.Core.List.{List, [], ◌∷◌, ◌++◌, append-nil, append_assoc, map, map-append}
use Prim.Native.Nat.{ℕ, ◌+◌, ◌<◌, ◌^◌}
use native.Mathlib.Omega.{arith}
use lib.Count.{ones}
use lib.Pow.{pow_pos}
use lib.ListN.{length, length-append, length-map}
use Rattle.basics.specs.Lists.{upto, concat}
use Rattle.basics.specs.Texts.{bytes, digits, digits_f}
use Rattle.version3.specs.Spelling.{number_line, counted, spell_setting, middle}
use Rattle.rules.specs.Tables.{Table, fact_count, goal_facts}
use Rattle.rules.specs.Facts.{members_of}
use Rattle.rules.specs.Operators.{operators_of}
use Rattle.rules.specs.Problems.{variable_count, start_value, set, holding, goal_of, oper_of, problem_of}
use Rattle.laws.specs.Valid.{Valid}
use Rattle.laws.proofs.ListLaws.{map_rows}
use Rattle.laws.proofs.TextLaws.{concat_append, concat_rows}
use Rattle.laws.proofs.MemberLaws.{members_ones}
use Rattle.variables.specs.Variables.{labelled}
use Rattle.middle.specs.Middles.{start_line, state_text, goal_text}

-- ---- state

pub state_lines : (b : ℕ) (t : Table) → state_text b t ≡ bytes "0\nbegin_state\n" ++ upto (start_line t) (variable_count b t) ++ bytes "end_state\n"
unfolding state_text
state_lines b t =
    ap (λ (x : List ℕ). bytes "0\nbegin_state\n" ++ x ++ bytes "end_state\n")
    (ap concat (map_rows number_line (start_value t) (variable_count b t)) ∙ concat_rows (start_line t) (variable_count b t))

-- ---- goal

goal_fits : (t : Table) → Valid t → goal_facts t < 2 ^ fact_count t
goal_fits t h = omega (arith, h.head.goal, pow_pos (fact_count t))

-- The lines of the goal facts, and that of the top.
goal_split : (t : Table) → map spell_setting (goal_of t)
    ≡ map spell_setting (holding (members_of (fact_count t) (goal_facts t))) ++ (spell_setting (set (fact_count t) 0) ∷ [])
goal_split t = map-append spell_setting (holding (members_of (fact_count t) (goal_facts t))) (set (fact_count t) 0 ∷ [])

-- A goal has one line for each of its facts, and one more.
goal_count : (t : Table) → Valid t → length (map spell_setting (goal_of t)) ≡ ones (goal_facts t) + 1
goal_count t h =
    let ms : List ℕ = members_of (fact_count t) (goal_facts t) in
    length-map (goal_of t) spell_setting
    ∙ length-append (holding ms) (set (fact_count t) 0 ∷ [])
    ∙ ap (λ (n : ℕ). n + 1) (length-map ms (λ k. set k 0) ∙ members_ones (fact_count t) (goal_facts t) (goal_fits t h))

last_line : (b c m f z e : List ℕ) → b ++ (c ++ (m ++ (f ++ z ++ []))) ++ e ≡ b ++ c ++ m ++ f ++ (z ++ e)
last_line b c m f z e = simp (append-nil, append_assoc)

pub goal_lines : (t : Table) → Valid t
    → goal_text t ≡ labelled (bytes "begin_goal\n") (ones (goal_facts t) + 1)
    ++ concat (map spell_setting (holding (members_of (fact_count t) (goal_facts t))))
    ++ digits (fact_count t)
    ++ bytes " 0\nend_goal\n"
unfolding goal_text concat digits digits_f
goal_lines t h =
    let ms : List (List ℕ) = map spell_setting (holding (members_of (fact_count t) (goal_facts t))) in
    ap₂ (λ (n : ℕ) (x : List ℕ). bytes "begin_goal\n" ++ (number_line n ++ x) ++ bytes "end_goal\n")
    (goal_count t h)
    (ap concat (goal_split t) ∙ concat_append ms (spell_setting (set (fact_count t) 0) ∷ []))
    ∙ last_line (bytes "begin_goal\n") (number_line (ones (goal_facts t) + 1)) (concat ms) (digits (fact_count t)) (bytes " 0\n") (bytes "end_goal\n")

-- ---- the middle section

parts : (s b c e d n : List ℕ) → s ++ b ++ c ++ e ++ (d ++ n) ≡ s ++ (b ++ c ++ e) ++ d ++ n
parts s b c e d n = simp append_assoc

pub middle_lines : (b f : ℕ) (t : Table)
    → middle (problem_of b f t) ≡ state_text b t ++ goal_text t ++ digits (length (operators_of b f t)) ++ bytes "\n"
unfolding middle problem_of state_text goal_text
middle_lines b f t =
    ap (λ (n : ℕ). state_text b t ++ bytes "begin_goal\n" ++ counted (map spell_setting (goal_of t)) ++ bytes "end_goal\n" ++ number_line n)
    (length-map (operators_of b f t) (oper_of f t))
    ∙ parts (state_text b t) (bytes "begin_goal\n") (counted (map spell_setting (goal_of t))) (bytes "end_goal\n") (digits (length (operators_of b f t))) (bytes "\n")
