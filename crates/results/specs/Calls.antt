-- What calls on the same input hand back, entry by entry: what 0 means, the other numbers with it and without it, and the refusal.
use Rattle.std.specs.Prelude.{ℕ, ◌*◌, ◌≤◌, ◌≡◌, ◌↔◌, List, [], ◌++◌, length, get_or, drop}
use Rattle.rules.specs.Tables.{Table}
use Rattle.rules.specs.Sections.{sections_of}
use Rattle.rules.specs.Plans.{lines_of}
use Rattle.rules.specs.LeastBounds.{Least}
use Rattle.rules.specs.Refusals.{Sought, plan_text, plan_bytes}
use Rattle.theorems.specs.Solutions.{Solution, actions_of, summed}
use Rattle.theorems.specs.Demand.{Given, GivenForm, Accepted, Completes, steps_of_plan}
use Rattle.theorems.specs.Numbers.{least_numbers, sections_numbers, section_numbers, check_numbers, expand_numbers, Handed, Never, Nothing, RoomForSection, ShortSection, ShortSteps}
use Rattle.sought.specs.Outcomes.{Finds}

pub record SectionsCalls (bound form : ℕ) (table : List ℕ) (number place count : ℕ) : Type 0 where
  pub zero : (number ≡ 0) ↔ ((t : Table) × Given bound form table t)
  pub counted : (t : Table) → Given bound form table t → count ≡ length (sections_of bound form t)
  pub refusal : Handed sections_numbers (length table) 0 Never Never number place
  pub nothing : Nothing number count

pub record SectionCalls (bound form : ℕ) (table : List ℕ) (index room at number place bytes : ℕ) : Type 0 where
  pub zero : (number ≡ 0) ↔ RoomForSection bound form table index room at
  pub size : (q : RoomForSection bound form table index room at) → bytes ≡ length (get_or (sections_of bound form q.table) index [])
  pub refusal : Handed section_numbers (length table) 0 (ShortSection bound form table index room at) Never number place
  pub nothing : Nothing number bytes

pub record LeastCalls (form : ℕ) (table : List ℕ) (number place bound : ℕ) : Type 0 where
  pub zero : (number ≡ 0) ↔ ((t : Table) × GivenForm form table t)
  pub least : (t : Table) → GivenForm form table t → Least form t bound
  pub refusal : Handed least_numbers (length table) 0 Never Never number place
  pub nothing : Nothing number bound

-- Demand 3: the check's number is 0 exactly where the plan completes a run of the table; the other numbers are then that run's, and
-- its actions are a solution at the cost handed back.
pub record CheckCalls (bound form : ℕ) (table plan : List ℕ) (number place cost operators steps : ℕ) : Type 0 where
  pub zero : (number ≡ 0) ↔ Completes bound form table plan
  pub accepted : (q : Completes bound form table plan) → Accepted bound form q.table (lines_of plan) cost operators steps
  pub solution : (q : Completes bound form table plan) → Solution q.table (actions_of (steps_of_plan q))
  pub priced : (q : Completes bound form table plan) → cost ≡ summed q.table (actions_of (steps_of_plan q))
  pub refusal : Handed check_numbers (length table) (length (lines_of plan)) Never Never number place
  pub nothing : Nothing number cost × Nothing number operators × Nothing number steps

-- The expansion's number is 0 exactly where the check's is and `room` bytes hold two for each step.
pub record ExpandCalls (bound form : ℕ) (table plan : List ℕ) (room number place bytes : ℕ) : Type 0 where
  pub zero : (number ≡ 0) ↔ ((q : Completes bound form table plan) × (2 * length (steps_of_plan q) ≤ room))
  pub size : (q : Completes bound form table plan) → 2 * length (steps_of_plan q) ≤ room → bytes ≡ 2 * length (steps_of_plan q)
  pub refusal : Handed expand_numbers (length table) (length (lines_of plan)) (ShortSteps bound form table plan room) Never number place
  pub nothing : Nothing number bytes

-- What a search writes: the text of the plan to be found, where there is room for it, and all bytes after it stay; or nothing.
pub record SearchWrites (bound form limit budget : ℕ) (table old new : List ℕ) (bytes : ℕ) : Type 0 where
  pub text : (y : Sought) → Finds bound form limit budget table y → plan_bytes y ≤ length old
      → (new ≡ plan_text y ++ drop (plan_bytes y) old) × (bytes ≡ plan_bytes y)
  pub nothing : ((y : Sought) → Finds bound form limit budget table y → plan_bytes y ≤ length old → ⊥) → (new ≡ old) × (bytes ≡ 0)
