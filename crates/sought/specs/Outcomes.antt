-- What a search comes to, from bytes: which answers there are, and the numbers that are handed back.
use Rattle.std.specs.Prelude.{ℕ, ◌≤◌, ◌<◌, ◌≡◌, ◌↔◌, List, [], ◌∷◌, ◌++◌, length}
use Rattle.std.proofs.Math.Option.{Option, none, some}
use Rattle.rules.specs.Limits.{most_limit, most_budget}
use Rattle.rules.specs.Reasons.{bad_bound, bad_form, bad_limits, no_plan, over_budget, no_room}
use Rattle.rules.specs.Tables.{Table}
use Rattle.rules.specs.Progression.{total_cost}
use Rattle.rules.specs.Operators.{Operator, expand_all}
use Rattle.rules.specs.Checks.{accepted}
use Rattle.rules.specs.Refusals.{check_plan, Sought, plan_text, plan_bytes}
use Rattle.rules.specs.Searches.{Found, NoneWithin, IsPlan, NumberApplied}
use Rattle.theorems.specs.Demand.{Given}
use Rattle.theorems.specs.Numbers.{read_numbers, Handed, Nothing}

-- Which refusals there are of finding a plan, and of a search; what comes before what is said by what each means.
abbrev pub find_numbers : List ℕ
find_numbers = bad_bound ∷ bad_form ∷ bad_limits ∷ read_numbers ++ (over_budget ∷ no_plan ∷ [])

abbrev pub search_numbers : List ℕ
search_numbers = find_numbers ++ (no_room ∷ [])

-- Bound, form, L and the budget are in range, and the bytes s are the table t.
pub record Posed (b f l budget : ℕ) (s : List ℕ) (t : Table) : Type 0 where
  pub given : Given b f s t
  pub low : 1 ≤ l
  pub high : l ≤ most_limit
  pub most : budget ≤ most_budget

-- y is the plan to be found with the number of operators applied, and the budget allows it.
pub record Finds (b f l budget : ℕ) (s : List ℕ) (y : Sought) : Type 0 where
  pub table : Table
  pub posed : Posed b f l budget s table
  pub found : Found b f table l y.operators
  pub number : NumberApplied b f table l (some y.operators) y.applied
  pub allowed : y.applied ≤ budget

-- There is no plan, n is the number of operators applied, and the budget allows it.
pub record FindsNone (b f l budget : ℕ) (s : List ℕ) (n : ℕ) : Type 0 where
  pub table : Table
  pub posed : Posed b f l budget s table
  pub nowhere : NoneWithin b f table l
  pub number : NumberApplied b f table l none n
  pub allowed : n ≤ budget

-- "that number is above the budget", whether there is a plan or not.
pub record OverBudget (b f l budget : ℕ) (s : List ℕ) : Type 0 where
  pub table : Table
  pub posed : Posed b f l budget s table
  pub plan : Option (List Operator)
  pub found : IsPlan b f table l plan
  pub applied : ℕ
  pub number : NumberApplied b f table l plan applied
  pub above : budget < applied

-- n is the length of the text of the plan to be found, and there is less room for it than that.
pub record ShortPlan (b f l budget : ℕ) (s : List ℕ) (room n : ℕ) : Type 0 where
  pub plan : Sought
  pub finds : Finds b f l budget s plan
  pub bytes : n ≡ plan_bytes plan
  pub short : room < n

-- What calls of the search on the same input hand back. 0: there is a plan to be found, within the budget, and room for its text; the
-- numbers are then its own, and the text is a plan that the check accepts with the same bound and form.
pub record SearchCalls (b f l budget : ℕ) (s : List ℕ) (room number place applied bytes : ℕ) : Type 0 where
  pub zero : (number ≡ 0) ↔ ((y : Sought) × Finds b f l budget s y × (plan_bytes y ≤ room))
  pub numbers : (y : Sought) → Finds b f l budget s y → plan_bytes y ≤ room → (applied ≡ y.applied) × (bytes ≡ plan_bytes y)
  pub accepted : (y : Sought) (q : Finds b f l budget s y)
      → let xs = expand_all f q.table y.operators in
      check_plan b f s (plan_text y) ≡ accepted (total_cost q.table xs) (length y.operators) (length xs)
  pub nowhere : (n : ℕ) → ((number ≡ no_plan) × (place ≡ n)) ↔ FindsNone b f l budget s n
  pub above : (number ≡ over_budget) ↔ OverBudget b f l budget s
  pub refusal : Handed search_numbers (length s) 0 (ShortPlan b f l budget s room) (FindsNone b f l budget s) number place
  pub nothing : Nothing number applied × Nothing number bytes
