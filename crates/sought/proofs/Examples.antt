-- Document 01's tables T and U, searched, from bytes.
use Prim.Native.Nat.{ℕ}
use mathlib.Core.Path.{◌≡◌, refl}
use mathlib.Core.List.{List, [], ◌∷◌}
use Rattle.basics.specs.Answers.{Answer, answer, refusal}
use Rattle.basics.specs.Readings.{many}
use Rattle.basics.specs.Texts.{bytes, digits_f, digits}
use Rattle.rules.specs.Numbers.{groups_before, groups_value, sound, number_at, in_range, ranged}
use Rattle.rules.specs.Tables.{header, read_action, read_method, closed, decode}
use Rattle.rules.specs.Facts.{without, join_one, join_from, join_of}
use Rattle.rules.specs.Progression.{act, mth}
use Rattle.rules.specs.Operators.{Operator, joined, positions}
use Rattle.rules.specs.Plans.{texts_of}
use Rattle.rules.specs.Walks.{picks, choices, among, walk}
use Rattle.rules.specs.Refusals.{table_read, form_read, opened, search_number, Sought, search_plan, text_found}
use Rattle.theorems.proofs.Examples.{table_t, table_u}
use Rattle.sought.specs.Findings.{applied_in_t}

abbrev m0 : ℕ → Operator
m0 i = record { what = mth 0; at = i }

abbrev a0 : ℕ → Operator
a0 i = record { what = act 0; at = i }

abbrev found : List Operator → ℕ → Answer Sought
found os n = answer (record { operators = os; applied = n })

-- Bound, form, L, budget, table, room.
pub searches :
    (search_plan 1 0 2 2 table_t 14 ≡ found (m0 1 ∷ a0 1 ∷ []) applied_in_t)
    × (text_found (search_plan 1 0 2 2 table_t 14) ≡ answer (bytes "(m0 1)\n(a0 1)\n"))
    × (search_plan 1 0 2 2 table_t 13 ≡ refusal 16 14)
    × (search_plan 1 0 2 1 table_t 14 ≡ refusal 19 0)
    × (search_plan 1 0 1 1 table_t 14 ≡ refusal 18 1)
    × (search_plan 1 0 1 0 table_t 14 ≡ refusal 19 0)
    × (search_plan 1 1 1 1 table_t 7 ≡ found (m0 1 ∷ []) 1)
    × (search_plan 1 0 256 0 table_u 0 ≡ refusal 18 0)
    × (search_plan 2 0 256 3 table_u 21 ≡ found (m0 1 ∷ a0 2 ∷ a0 1 ∷ []) 3)
    × (search_plan 1 0 0 0 table_t 14 ≡ refusal 17 0)
    × (search_plan 1 2 0 0 table_t 14 ≡ refusal 2 0)
    × (search_plan 1 0 257 0 [] 14 ≡ refusal 17 0)
    × (search_plan 1 0 256 1000001 [] 14 ≡ refusal 17 0)
    × (search_plan 1 0 256 1000000 [] 14 ≡ refusal 5 0)
unfolding many groups_before groups_value sound number_at in_range ranged header read_action read_method closed decode without join_one join_from join_of joined positions digits_f digits texts_of picks choices among walk table_read form_read opened search_number search_plan
searches = (refl, refl, refl, refl, refl, refl, refl, refl, refl, refl, refl, refl, refl, refl)
