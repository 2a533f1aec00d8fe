-- The rows of one task whose operators exist, linked in order: of each row the next of its task, and of each task the first.
use Rattle.std.specs.Prelude.{ℕ, ◌+◌, ◌≤◌, ◌<◌, ◌≡◌, cond, Option, Some, None, ltb, length, get_or}
use Rattle.rules.specs.Limits.{most_tasks}
use Rattle.rules.specs.Tables.{Table, action_count, method_count}
use Rattle.rules.specs.Operators.{task_of, positions}
use Rattle.laws.specs.Steps.{step_at}
use Rattle.rows.specs.Sizes.{most_rows}
use Rattle.links.specs.declared.NextRow.{NextRow}
use Rattle.links.specs.declared.Links.{Links}

abbrev pub row_count : Table → ℕ
row_count t = action_count t + method_count t

-- The row after row i of its task, and the first row of task c; most_rows is no row.
abbrev pub next_in : Links → ℕ → ℕ
next_in links i = get_or links.next i 0

abbrev pub first_in : Links → ℕ → ℕ
first_in links c = get_or links.first c 0

-- The row of a number.
abbrev pub some_row : ℕ → Option ℕ
some_row n = cond (ltb n most_rows) (Some n) None

-- The row that a walk is led to.
abbrev pub row_of : NextRow → Option ℕ
row_of next = some_row next.number

-- A cell for each row, and one for each task.
pub record Sized (links : Links) : Type 0 where
  pub next : length links.next ≡ most_rows
  pub first : length links.first ≡ most_tasks

-- Row v is the first from row k on that has task c and an operator at some position; or there is none, and v is the number that no row has.
pub record Leads (b f : ℕ) (t : Table) (c k v : ℕ) : Type 0 where
  pub low : k ≤ v
  pub high : v ≤ most_rows
  pub known : v < most_rows → (v < row_count t) × (task_of t (step_at t v) ≡ c) × (1 ≤ positions b f t (step_at t v))
  pub skips : (j : ℕ) → k ≤ j → j < row_count t → j < v → task_of t (step_at t j) ≡ c → positions b f t (step_at t j) ≡ 0

-- A row whose operator exists nowhere is never reached, so nothing is said of the next after it.
pub record Linked (b f : ℕ) (t : Table) (links : Links) : Type 0 where
  pub size : Sized links
  pub first : (c : ℕ) → c < most_tasks → Leads b f t c 0 (first_in links c)
  pub next : (i : ℕ) → i < row_count t → 1 ≤ positions b f t (step_at t i) → Leads b f t (task_of t (step_at t i)) (i + 1) (next_in links i)

-- The rows from k on are linked.
pub record LinkedTo (b f : ℕ) (t : Table) (links : Links) (k : ℕ) : Type 0 where
  pub within : k ≤ row_count t
  pub size : Sized links
  pub first : (c : ℕ) → c < most_tasks → Leads b f t c k (first_in links c)
  pub next : (i : ℕ) → k ≤ i → i < row_count t → 1 ≤ positions b f t (step_at t i) → Leads b f t (task_of t (step_at t i)) (i + 1) (next_in links i)
