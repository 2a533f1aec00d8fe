-- "Refusal numbers": the order of checks, entry by entry, and what each entry answers for all inputs.
-- "Checks run in this order, an entry skipping what it lacks": every entry opens its table first, the form before it, and the bound
-- before that where the entry has one; what it does then it does with the table alone.
use Rattle.std.specs.Prelude.{ℕ, ◌+◌, ◌&&◌, cond, List, [], ◌++◌, length, get_or, take, drop, eqb, leb, ltb}
use Rattle.std.proofs.Math.Option.{Option, none, some}
use Rattle.basics.specs.Answers.{Answer, answer, refusal, check, after, mapped}
use Rattle.basics.specs.Readings.{Reading, got, bad}
use Rattle.rules.specs.Limits.{most_bound, most_table_bytes, most_plan_bytes, most_limit, most_budget}
use Rattle.rules.specs.Reasons.{bad_bound, bad_form, table_too_long, plan_too_long, no_such_section, no_room, bad_limits, no_plan, over_budget}
use Rattle.rules.specs.Tables.{Table, decode}
use Rattle.rules.specs.Progression.{begin}
use Rattle.rules.specs.Operators.{Operator, expand_all}
use Rattle.rules.specs.Sections.{sections_of, problem_text}
use Rattle.rules.specs.Plans.{lines_of, opers_of, texts_of}
use Rattle.rules.specs.Checks.{Tally, check_lines, step_bytes}
use Rattle.rules.specs.LeastBounds.{least_bound}
use Rattle.rules.specs.Walks.{Walked, walk}

-- 1 "bound not 1 to 64".
abbrev pub bounded : {A : Type 0} → ℕ → Answer A → Answer A
bounded b rest = check (leb 1 b && leb b most_bound) bad_bound 0 rest

-- 2 "form not 0 or 1".
abbrev pub formed : {A : Type 0} → ℕ → Answer A → Answer A
formed f rest = check (leb f 1) bad_form 0 rest

-- 3 "table too long": "A table is at most 32,768 bytes."
abbrev pub table_fits : {A : Type 0} → List ℕ → Answer A → Answer A
table_fits s rest = check (leb (length s) most_table_bytes) table_too_long 0 rest

-- A check of the entry's own, which stands before the table's length, or between the length and the table: its refusal's number, 0
-- where it passes or where the entry has none.
abbrev pub passed : {A : Type 0} → ℕ → Answer A → Answer A
passed own rest = check (eqb own 0) own 0 rest

-- 4 "plan over 65,536 bytes": such a check.
unfoldable pub plan_number : List ℕ → ℕ
plan_number plan = cond (leb (length plan) most_plan_bytes) 0 plan_too_long

-- 5 to 9.
abbrev pub read_of : {A : Type 0} → Reading A → Answer A
read_of (got a at) = answer a
read_of (bad why at) = refusal why at

-- The table: 3, a check of the entry's own, 5 to 9.
unfoldable pub table_read : ℕ → List ℕ → Answer Table
table_read late s = table_fits s (passed late (read_of (decode s)))

-- The table, for an entry with a form: 2, a check of its own, then the table.
unfoldable pub form_read : ℕ → ℕ → ℕ → List ℕ → Answer Table
form_read early late f s = formed f (passed early (table_read late s))

-- The table, for an entry with bound and form: 1, then the same.
unfoldable pub opened : ℕ → ℕ → ℕ → ℕ → List ℕ → Answer Table
opened early late b f s = bounded b (form_read early late f s)

-- 16 "too little room", at "bytes to write", for n bytes from the place `at` on of a text of `size`. "A writing place past the end is
-- no room."
abbrev pub room_of : ℕ → ℕ → ℕ → Answer ℕ
room_of size at n = check (leb (at + n) size) no_room n (answer n)

abbrev pub room_for : ℕ → ℕ → List ℕ → Answer (List ℕ)
room_for size at x = after (room_of size at (length x)) (λ _. answer x)

-- Count the sections of a problem: 1 2 3 5-9.
unfoldable pub count_sections : ℕ → ℕ → List ℕ → Answer ℕ
count_sections b f s = after (opened 0 0 b f s) (λ t. answer (length (sections_of b f t)))

-- The text of section k: 10 "no such section".
abbrev pub chosen : List (List ℕ) → ℕ → Answer (List ℕ)
chosen sections k = check (ltb k (length sections)) no_such_section 0 (answer (get_or sections k []))

-- Section k of an opened table, to be written from the place `at` on of a text of `size` bytes: 10 16.
abbrev pub section_for : ℕ → ℕ → Table → ℕ → ℕ → ℕ → Answer (List ℕ)
section_for b f t k size at = after (chosen (sections_of b f t) k) (room_for size at)

-- One section: 1 2 3 5-9, 10 16.
unfoldable pub one_section : ℕ → ℕ → List ℕ → ℕ → ℕ → ℕ → Answer (List ℕ)
one_section b f s k size at = after (opened 0 0 b f s) (λ t. section_for b f t k size at)

-- The whole problem, as the emitting program writes it: 1 2 3 5-9.
unfoldable pub whole_problem : ℕ → ℕ → List ℕ → Answer (List ℕ)
whole_problem b f s = after (opened 0 0 b f s) (λ t. answer (problem_text b f t))

-- Check a plan: 1 2 3 4 5-9, 11-15.
unfoldable pub check_plan : ℕ → ℕ → List ℕ → List ℕ → Answer Tally
check_plan b f s plan = after (opened 0 (plan_number plan) b f s) (λ t. check_lines b f t (lines_of plan))

-- The bytes of a plan's steps, by an opened table, to be written from the start of `size` bytes: 11-15 16.
abbrev pub steps_for : ℕ → ℕ → Table → List ℕ → ℕ → Answer (List ℕ)
steps_for b f t plan size =
    after (check_lines b f t (lines_of plan)) (λ _. room_for size 0 (step_bytes (expand_all f t (opers_of (lines_of plan)))))

-- Expand a plan: 1 2 3 4 5-9, 11-15 16.
unfoldable pub expand_plan : ℕ → ℕ → List ℕ → List ℕ → ℕ → Answer (List ℕ)
expand_plan b f s plan size = after (opened 0 (plan_number plan) b f s) (λ t. steps_for b f t plan size)

-- Least bound, document 02, C-12: it takes form and table, "2 now applies to this entry": 2 3 5-9.
unfoldable pub find_least : ℕ → List ℕ → Answer ℕ
find_least f s = after (form_read 0 0 f s) (λ t. answer (least_bound f t))

-- Document 02, C-11. 17 "L or the budget out of range, after 2": a check before the table's length.
unfoldable pub search_number : ℕ → ℕ → ℕ
search_number l budget = cond ((leb 1 l && leb l most_limit) && leb budget most_budget) 0 bad_limits

-- A plan that was found: its operators, and how many were applied.
pub record Sought : Type 0 where
  pub operators : List Operator
  pub applied : ℕ

abbrev pub plan_text : Sought → List ℕ
plan_text y = texts_of y.operators

-- Its numbers, one at a time.
abbrev pub applied_in : Sought → ℕ
applied_in y = y.applied

abbrev pub plan_bytes : Sought → ℕ
plan_bytes y = length (plan_text y)

-- 18 "no plan of at most L operators, the number applied being its place".
abbrev pub plan_of : Option (List Operator) → ℕ → Answer Sought
plan_of none n = refusal no_plan n
plan_of (some os) n = answer (record { operators = os; applied = n })

-- 19 "that number is above the budget, before 18 and with place 0".
abbrev pub judged : ℕ → Walked → Answer Sought
judged budget w = check (leb w.count budget) over_budget 0 (plan_of w.plan w.count)

-- What a search of an opened table comes to: 19 18.
abbrev pub sought_in : ℕ → ℕ → Table → ℕ → ℕ → Answer Sought
sought_in b f t l budget = judged budget (walk b f t l (begin t))

-- Find a plan, as the finding program does: 1 2 17 3 5-9, 19 18.
unfoldable pub find_plan : ℕ → ℕ → ℕ → ℕ → List ℕ → Answer Sought
find_plan b f l budget s = after (opened (search_number l budget) 0 b f s) (λ t. sought_in b f t l budget)

-- "It writes, from the start of the caller's bytes, the text of the first accepted plan": 16, which "stays last".
abbrev pub room_for_plan : ℕ → Sought → Answer Sought
room_for_plan size y = after (room_of size 0 (plan_bytes y)) (λ _. answer y)

-- Search: 1 2 17 3 5-9, 19 18 16.
unfoldable pub search_plan : ℕ → ℕ → ℕ → ℕ → List ℕ → ℕ → Answer Sought
search_plan b f l budget s size = after (opened (search_number l budget) 0 b f s) (λ t. after (sought_in b f t l budget) (room_for_plan size))

-- The text that it is to write.
abbrev pub text_found : Answer Sought → Answer (List ℕ)
text_found a = mapped plan_text a

-- "written into the caller's text from a given place on; all other bytes stay". "Every refusal leaves all lent memory as found".
unfoldable pub written : List ℕ → ℕ → Answer (List ℕ) → List ℕ
written old at (answer x) = take at old ++ (x ++ drop (at + length x) old)
written old at (refusal number place) = old
