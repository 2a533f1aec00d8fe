-- The programs: what each reads from standard input and what it writes ("Text sections", "Plans" and document 02, C-11).
-- "In both programs, bound, form and length bytes that the input lacks read as 0, and a table cut short is what is there."
use Rattle.std.specs.Prelude.{ℕ, ◌+◌, ◌*◌, List, [], ◌∷◌, take, drop, get_or}
use Rattle.basics.specs.Answers.{Answer, answer, refusal}
use Rattle.basics.specs.Texts.{bytes, digits, line}
use Rattle.rules.specs.Checks.{Tally}
use Rattle.rules.specs.Refusals.{whole_problem, check_plan, Sought, plan_text, find_plan}

abbrev pub bound_in : List ℕ → ℕ
bound_in input = get_or input 0 0

abbrev pub form_in : List ℕ → ℕ
form_in input = get_or input 1 0

-- Two bytes, low first.
abbrev pub pair_at : List ℕ → ℕ → ℕ
pair_at input at = get_or input at 0 + 256 * get_or input (at + 1) 0

-- "Checking program: input is bound, form, table length (two bytes, low first), table, plan."
unfoldable pub size_in : List ℕ → ℕ
size_in input = pair_at input 2

unfoldable pub check_input : List ℕ → Answer Tally
check_input input = check_plan (bound_in input) (form_in input) (take (size_in input) (drop 4 input)) (drop (size_in input) (drop 4 input))

-- "It writes `accepted COST OPERATORS STEPS` or `refused NUMBER PLACE`, one line."
unfoldable pub refused_line : ℕ → ℕ → List ℕ
refused_line number place = line (bytes "refused" ∷ digits number ∷ digits place ∷ [])

unfoldable pub accepted_line : Tally → List ℕ
accepted_line y = line (bytes "accepted" ∷ digits y.cost ∷ digits y.operators ∷ digits y.steps ∷ [])

-- What a program writes of an answer: what it has to say of a result, or the refusal's line.
abbrev pub told : {A : Type 0} → (A → List ℕ) → Answer A → List ℕ
told say (answer a) = say a
told say (refusal number place) = refused_line number place

unfoldable pub check_output : List ℕ → List ℕ
check_output input = told accepted_line (check_input input)

-- "Emitting program: standard input is one byte bound, one byte form, then the table."
unfoldable pub emit_input : List ℕ → Answer (List ℕ)
emit_input input = whole_problem (bound_in input) (form_in input) (drop 2 input)

-- The whole problem as it is. "The emitting program refuses with the same line."
abbrev pub as_it_is : List ℕ → List ℕ
as_it_is text = text

unfoldable pub emit_output : List ℕ → List ℕ
emit_output input = told as_it_is (emit_input input)

-- The finding program, for document 02's C-11: input is bound, form, L (two bytes, low first), budget (four bytes, low first), table.
-- Its bytes that the input lacks read as 0 too.
unfoldable pub limit_in : List ℕ → ℕ
limit_in input = pair_at input 2

unfoldable pub budget_in : List ℕ → ℕ
budget_in input = pair_at input 4 + 256 * 256 * pair_at input 6

unfoldable pub find_input : List ℕ → Answer Sought
find_input input = find_plan (bound_in input) (form_in input) (limit_in input) (budget_in input) (drop 8 input)

-- It writes the text of the plan found; it refuses with the same line as the others.
unfoldable pub find_output : List ℕ → List ℕ
find_output input = told plan_text (find_input input)
