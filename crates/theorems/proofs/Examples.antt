-- The examples of document 01 that are marked P, with U's least bounds as document 02, C-12 has them ("U gives 2 and 1"), plans by their
-- line ends, and least bounds of tables beside it, from bytes.
use Prim.Native.Nat.{ℕ}
use mathlib.Core.Path.{◌≡◌, refl}
use mathlib.Core.List.{List, [], ◌∷◌}
use Rattle.basics.specs.Answers.{answer, refusal}
use Rattle.basics.specs.Readings.{many}
use Rattle.rules.specs.Numbers.{groups_before, groups_value, sound, number_at, in_range, ranged}
use Rattle.rules.specs.Tables.{header, read_action, read_method, closed, decode}
use Rattle.rules.specs.Facts.{without, join_one, join_from, join_of}
use Rattle.rules.specs.Operators.{joined, positions}
use Rattle.basics.specs.Texts.{bytes}
use Rattle.rules.specs.Plans.{lines_of}
use Rattle.rules.specs.Checks.{accepted, check_lines, step_bytes}
use Rattle.rules.specs.LeastBounds.{least_bound}
use Rattle.rules.specs.Refusals.{plan_number, table_read, form_read, opened, check_plan, expand_plan, find_least}

abbrev pub table_t : List ℕ
table_t = 1 ∷ 1 ∷ 1 ∷ 1 ∷ 1 ∷ 0 ∷ 1 ∷ 0 ∷ 1 ∷ 0 ∷ 3 ∷ 1 ∷ 1 ∷ 0 ∷ []

-- "U is T with the method `01 02 00 00`."
abbrev pub table_u : List ℕ
table_u = 1 ∷ 1 ∷ 1 ∷ 1 ∷ 1 ∷ 0 ∷ 1 ∷ 0 ∷ 1 ∷ 0 ∷ 3 ∷ 1 ∷ 2 ∷ 0 ∷ 0 ∷ []

-- "T with byte 8 as 0".
abbrev table_t8 : List ℕ
table_t8 = 1 ∷ 1 ∷ 1 ∷ 1 ∷ 1 ∷ 0 ∷ 1 ∷ 0 ∷ 0 ∷ 0 ∷ 3 ∷ 1 ∷ 1 ∷ 0 ∷ []

pub examples :
    (check_plan 1 0 table_t (bytes "(m0 1)\n(a0 1)\n") ≡ accepted 3 2 2)
    × (expand_plan 1 0 table_t (bytes "(m0 1)\n(a0 1)\n") 4 ≡ answer (0 ∷ 4 ∷ 0 ∷ 0 ∷ []))
    × (check_plan 1 1 table_t (bytes "(m0 1)\n") ≡ accepted 3 1 2)
    × (expand_plan 1 1 table_t (bytes "(m0 1)\n") 4 ≡ answer (0 ∷ 4 ∷ 0 ∷ 0 ∷ []))
    × (check_plan 1 1 table_t (bytes "(m0 1)\n(a0 1)\n") ≡ refusal 13 2)
    × (check_plan 1 0 table_t [] ≡ refusal 14 0)
    × (check_plan 1 0 table_t (bytes "(m0 1)\n") ≡ refusal 14 1)
    × (check_plan 1 0 table_t (bytes "(a0 1)\n") ≡ refusal 13 1)
    × (check_plan 1 0 table_t (bytes "(m0 2)\n") ≡ refusal 12 1)
    × (check_plan 1 0 table_t8 (bytes "(m0 1)\n(a0 1)\n") ≡ refusal 15 2)
    × (check_plan 1 0 table_u (bytes "(m0 1)\n") ≡ refusal 12 1)
    × (check_plan 1 1 table_u (bytes "(m0 1)\n") ≡ accepted 6 1 3)
    × (check_plan 2 0 table_u (bytes "(m0 1)\n(a0 2)\n(a0 1)\n") ≡ accepted 6 3 3)
    × (find_least 0 table_u ≡ answer 2)
    × (find_least 1 table_u ≡ answer 1)
unfolding many groups_before groups_value sound number_at in_range ranged header read_action read_method closed decode without join_one join_from join_of joined positions lines_of check_lines step_bytes plan_number table_read form_read opened check_plan expand_plan least_bound find_least
examples = (refl, refl, refl, refl, refl, refl, refl, refl, refl, refl, refl, refl, refl, refl, refl)

-- C-13: T's plan with both line ends, in every mixture; a carriage return where it is of no line's end; comments, whose content it is.
pub ends :
    (check_plan 1 0 table_t (bytes "(m0 1)\r\n(a0 1)\r\n") ≡ accepted 3 2 2)
    × (check_plan 1 0 table_t (bytes "(m0 1)\r\n(a0 1)\n") ≡ accepted 3 2 2)
    × (check_plan 1 0 table_t (bytes "(m0 1)\n(a0 1)\r\n") ≡ accepted 3 2 2)
    × (expand_plan 1 0 table_t (bytes "(m0 1)\r\n(a0 1)\n") 4 ≡ answer (0 ∷ 4 ∷ 0 ∷ 0 ∷ []))
    × (check_plan 1 1 table_t (bytes "(m0 1)\r\n") ≡ accepted 3 1 2)
    × (check_plan 1 0 table_t (bytes "(m0 1)\r\n") ≡ refusal 14 1)
    × (check_plan 1 0 table_t (bytes "(m0 1)\r\n\r\n(a0 1)\r\n") ≡ refusal 11 2)
    × (check_plan 1 0 table_t (bytes "(m0 1)\n(a0 1)\r\r\n") ≡ refusal 11 2)
    × (check_plan 1 0 table_t (bytes "(m0 1)\r\n(a0 1\r)\r\n") ≡ refusal 11 2)
    × (check_plan 1 0 table_t (bytes "(m0 1)\r\n(a0 1)\r") ≡ refusal 11 2)
    × (check_plan 1 0 table_t (bytes "(m0 1)\r(a0 1)\n") ≡ refusal 11 1)
    × (check_plan 1 0 table_t (bytes "\r(m0 1)\n(a0 1)\n") ≡ refusal 11 1)
    × (check_plan 1 0 table_t (bytes ";\r\n(m0 1)\r\n;\r(a0 1)\r\r\n(a0 1)\n") ≡ accepted 3 2 2)
    × (check_plan 1 0 table_t (bytes ";\r(m0 1)\n(a0 1)\n") ≡ refusal 13 2)
    × (check_plan 1 0 table_t (bytes "(m0 1)\n(a0 1)\n;\r") ≡ refusal 11 3)
unfolding many groups_before groups_value sound number_at in_range ranged header read_action read_method closed decode without join_one join_from join_of joined positions lines_of check_lines step_bytes plan_number table_read form_read opened check_plan expand_plan
ends = (refl, refl, refl, refl, refl, refl, refl, refl, refl, refl, refl, refl, refl, refl, refl)

-- T with a method of eight actions: the forms lie no further apart on any table.
abbrev table_v : List ℕ
table_v = 1 ∷ 1 ∷ 1 ∷ 1 ∷ 1 ∷ 0 ∷ 1 ∷ 0 ∷ 1 ∷ 0 ∷ 3 ∷ 1 ∷ 8 ∷ 0 ∷ 0 ∷ 0 ∷ 0 ∷ 0 ∷ 0 ∷ 0 ∷ 0 ∷ []

-- A table whose one action needs and deletes its one fact: its one method, that action twice, is dead in form 1.
abbrev table_w : List ℕ
table_w = 1 ∷ 1 ∷ 1 ∷ 1 ∷ 1 ∷ 1 ∷ 0 ∷ 1 ∷ 0 ∷ 1 ∷ 3 ∷ 1 ∷ 2 ∷ 0 ∷ 0 ∷ []

-- Two tables with one method, of task 1 twice for task 2, and two abstract tasks. In the first task 1 is abstract and has no method; in
-- the second there is one action more, and it is that.
abbrev table_x : List ℕ
table_x = 0 ∷ 1 ∷ 2 ∷ 1 ∷ 2 ∷ 0 ∷ 0 ∷ 0 ∷ 0 ∷ 0 ∷ 0 ∷ 2 ∷ 2 ∷ 1 ∷ 1 ∷ []

abbrev table_y : List ℕ
table_y = 0 ∷ 2 ∷ 2 ∷ 1 ∷ 2 ∷ 0 ∷ 0 ∷ 0 ∷ 0 ∷ 0 ∷ 0 ∷ 0 ∷ 0 ∷ 0 ∷ 0 ∷ 2 ∷ 2 ∷ 1 ∷ 1 ∷ []

-- The least bounds of these, and form 2, which is refused before the table is looked at.
pub hints :
    (find_least 0 table_v ≡ answer 8)
    × (find_least 1 table_v ≡ answer 1)
    × (find_least 0 table_w ≡ answer 2)
    × (find_least 1 table_w ≡ answer 1)
    × (find_least 0 table_x ≡ answer 0)
    × (find_least 0 table_y ≡ answer 2)
    × ((s : List ℕ) → find_least 2 s ≡ refusal 2 0)
unfolding many groups_before groups_value sound number_at in_range ranged header read_action read_method closed decode table_read form_read least_bound find_least
hints = (refl, refl, refl, refl, refl, refl, λ s. refl)
