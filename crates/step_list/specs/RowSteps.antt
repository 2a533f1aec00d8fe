-- The steps of operators that are told by their rows: actions first, then methods.
use Rattle.std.specs.Prelude.{ℕ, suc, ◌+◌, ◌-◌, ◌*◌, ◌≤◌, ◌<◌, ◌≡◌, List, map, length, get_or}
use Rattle.rules.specs.Limits.{most_methods}
use Rattle.rules.specs.Tables.{Table, action_count, method_count, method}
use Rattle.rules.specs.Progression.{Step, prefix}
use Rattle.rules.specs.Operators.{Operator, expand, expand_all}
use Rattle.rules.specs.Checks.{step_bytes}
use Rattle.laws.specs.Steps.{step_at}
use Rattle.rows.specs.Rows.{row_at, RowsFit}

-- An operator of row i: its steps do not depend on its position.
abbrev pub row_operator : Table → ℕ → Operator
row_operator t i = record { what = step_at t i; at = 0 }

abbrev pub row_bytes : ℕ → Table → ℕ → List ℕ
row_bytes f t i = step_bytes (expand f t (row_operator t i))

-- The steps of rows in turn, and their bytes.
abbrev pub rows_steps : ℕ → Table → List ℕ → List Step
rows_steps f t rows = expand_all f t (map (row_operator t) rows)

abbrev pub rows_bytes : ℕ → Table → List ℕ → List ℕ
rows_bytes f t rows = step_bytes (rows_steps f t rows)

-- The table has such a row.
abbrev pub IsRow : Table → ℕ → Type 0
IsRow t i = i < action_count t + method_count t

abbrev pub AllRows : Table → List ℕ → Type 0
AllRows t rows = (n : ℕ) → n < length rows → IsRow t (get_or rows n 0)

-- Each method's row holds its number of steps.
pub record StepsHeld (f : ℕ) (t : Table) (ops cells : List ℕ) : Type 0 where
  pub fits : RowsFit (action_count t + method_count t) ops cells
  pub steps : (k : ℕ) → k < method_count t → (row_at ops cells (action_count t + k)).steps ≡ suc (length (prefix f t k))

-- Row i is that of method k: what it holds, and what its steps come to.
pub record MethodRow (f : ℕ) (t : Table) (ops cells : List ℕ) (i k : ℕ) : Type 0 where
  pub past : action_count t ≤ i
  pub its : k ≡ i - action_count t
  pub known : k < method_count t
  pub few_methods : method_count t ≤ most_methods
  pub within : RowsFit (i + 1) ops cells
  pub steps : (row_at ops cells i).steps ≡ suc (length (prefix f t k))
  pub short : length (prefix f t k) ≤ length (method t k).subs
  pub size : length (row_bytes f t i) ≡ 2 + 2 * length (prefix f t k)
