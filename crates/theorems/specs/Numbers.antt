-- "Refusal numbers": which of them an entry's row lists, and what the place of each can be.
use Rattle.std.specs.Prelude.{ℕ, ◌+◌, ◌≤◌, ◌<◌, ◌≡◌, ◌↔◌, Bool, false, ◌||◌, cond, List, [], ◌∷◌, ◌++◌, length, get_or, T, eqb}
use Rattle.basics.specs.Answers.{Answer, answer, refusal, number_of}
use Rattle.rules.specs.Reasons.{bad_bound, bad_form, table_too_long, plan_too_long, table_ends, bad_number, out_of_range, not_there, bytes_after_table, no_such_section, line_shape, not_emitted, not_applicable, stack_not_empty, goal_missing, no_room, bad_limits, no_plan, over_budget}
use Rattle.rules.specs.Tables.{Table}
use Rattle.rules.specs.Operators.{expand_all}
use Rattle.rules.specs.Sections.{sections_of}
use Rattle.rules.specs.Plans.{lines_of, opers_of}
use Rattle.rules.specs.Checks.{step_bytes}
use Rattle.theorems.specs.Demand.{Given}

abbrev pub one_of : List ℕ → ℕ → Bool
one_of [] n = false
one_of (m ∷ ms) n = eqb n m || one_of ms n

-- "5 to 8 by the first number at fault", and 9.
abbrev pub table_numbers : List ℕ
table_numbers = table_ends ∷ bad_number ∷ out_of_range ∷ not_there ∷ bytes_after_table ∷ []

-- What every entry has: 3 before these.
abbrev pub read_numbers : List ℕ
read_numbers = table_too_long ∷ table_numbers

-- The rows, entry by entry: "Checks run in this order, an entry skipping what it lacks". Of the least bound document 02, C-12: "2 now
-- applies to this entry".
abbrev pub least_numbers : List ℕ
least_numbers = bad_form ∷ read_numbers

abbrev pub sections_numbers : List ℕ
sections_numbers = bad_bound ∷ least_numbers

abbrev pub section_numbers : List ℕ
section_numbers = sections_numbers ++ (no_such_section ∷ no_room ∷ [])

abbrev pub check_numbers : List ℕ
check_numbers =
    bad_bound ∷ bad_form ∷ table_too_long ∷ plan_too_long ∷ table_numbers ++ (line_shape ∷ not_emitted ∷ not_applicable ∷ stack_not_empty ∷ goal_missing ∷ [])

abbrev pub expand_numbers : List ℕ
expand_numbers = check_numbers ++ (no_room ∷ [])

-- The column "Place", by the number, for a table of `size` bytes, a plan of `lines` lines ("Lines count from 1"), what `Short` says
-- of the bytes to write and `Tried` of the operators applied: "0"; "where that number begins", where the table may end; "same" and
-- "first of them", where it does not; "line"; "lines in all"; "bytes to write"; "the number applied".
abbrev pub PlaceOf : ℕ → ℕ → (ℕ → Type 0) → (ℕ → Type 0) → ℕ → ℕ → Type 0
PlaceOf size lines Short Tried number place =
    cond (one_of (bad_bound ∷ bad_form ∷ bad_limits ∷ table_too_long ∷ plan_too_long ∷ no_such_section ∷ over_budget ∷ []) number) (place ≡ 0)
    (cond (one_of (table_ends ∷ []) number) (place ≤ size)
    (cond (one_of (bad_number ∷ out_of_range ∷ not_there ∷ bytes_after_table ∷ []) number) (place < size)
    (cond (one_of (line_shape ∷ not_emitted ∷ not_applicable ∷ []) number) ((1 ≤ place) × (place ≤ lines))
    (cond (one_of (stack_not_empty ∷ goal_missing ∷ []) number) (place ≡ lines)
    (cond (one_of (no_room ∷ []) number) (Short place)
    (cond (one_of (no_plan ∷ []) number) (Tried place) ⊥))))))

-- A refusal's number is of the row, and its place is the number's.
pub record Listed (row : List ℕ) (size lines : ℕ) (Short Tried : ℕ → Type 0) (number place : ℕ) : Type 0 where
  pub listed : T (one_of row number)
  pub placed : PlaceOf size lines Short Tried number place

-- Every refusal is so, and the number is 0 exactly with a result.
pub record Tells {A : Type 0} (row : List ℕ) (size lines : ℕ) (Short Tried : ℕ → Type 0) (a : Answer A) : Type 0 where
  pub refused : (number place : ℕ) → a ≡ refusal number place → Listed row size lines Short Tried number place
  pub zero : (number_of a ≡ 0) ↔ ((x : A) × (a ≡ answer x))

-- The number and the place that are handed back of an answer: 0 and 0 of a result, and otherwise such a refusal's.
pub record Handed (row : List ℕ) (size lines : ℕ) (Short Tried : ℕ → Type 0) (number place : ℕ) : Type 0 where
  pub result : number ≡ 0 → place ≡ 0
  pub refused : (number ≡ 0 → ⊥) → Listed row size lines Short Tried number place

-- Of an entry that writes no text, or does not search.
abbrev pub Never : ℕ → Type 0
Never n = ⊥

-- "every other number handed back is 0".
abbrev pub Nothing : ℕ → ℕ → Type 0
Nothing number value = (number ≡ 0 → ⊥) → value ≡ 0

-- The problem has a section k, and there is room for it from the place `at` on of `all` bytes.
pub record RoomForSection (b f : ℕ) (s : List ℕ) (k all at : ℕ) : Type 0 where
  pub table : Table
  pub given : Given b f s table
  pub there : k < length (sections_of b f table)
  pub room : at + length (get_or (sections_of b f table) k []) ≤ all

-- n is the length of section k, and there is less room for it than that, from the place `at` on of `all` bytes.
pub record ShortSection (b f : ℕ) (s : List ℕ) (k all at n : ℕ) : Type 0 where
  pub table : Table
  pub given : Given b f s table
  pub there : k < length (sections_of b f table)
  pub bytes : n ≡ length (get_or (sections_of b f table) k [])
  pub room : all < at + n

-- n is the length of the plan's step list, and there is less room for it than that.
pub record ShortSteps (b f : ℕ) (s plan : List ℕ) (all n : ℕ) : Type 0 where
  pub table : Table
  pub given : Given b f s table
  pub bytes : n ≡ length (step_bytes (expand_all f table (opers_of (lines_of plan))))
  pub room : all < n
