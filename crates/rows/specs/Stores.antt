-- Rows as they are stored, one after the other.
use Rattle.std.specs.Prelude.{ℕ, ◌+◌, ◌*◌, ◌<◌, ◌≡◌, List, length, get_or, take, drop}
use Rattle.rules.specs.Tables.{Table, action_count, method_count}
use Rattle.rules.specs.Facts.{Join}
use Rattle.laws.specs.Steps.{step_at}
use Rattle.words.specs.Words.{action_at}
use Rattle.rows.specs.Sizes.{row_words, row_cells, task_cell, left_cell, steps_cell, last_cell}
use Rattle.rows.specs.Stacks.{stack_of}
use Rattle.rows.specs.Rows.{Row, row_of, row_at}

-- The first n rows are prepared.
abbrev pub PreparedTo : ℕ → ℕ → Table → ℕ → List ℕ → List ℕ → Type 0
PreparedTo b f t n words cells = (i : ℕ) → i < n → row_at words cells i ≡ row_of b f t (step_at t i)

-- Those of the actions are; and those of all operators.
abbrev pub ActionsPrepared : ℕ → ℕ → Table → List ℕ → List ℕ → Type 0
ActionsPrepared b f t words cells = PreparedTo b f t (action_count t) words cells

abbrev pub AllPrepared : ℕ → ℕ → Table → List ℕ → List ℕ → Type 0
AllPrepared b f t words cells = PreparedTo b f t (action_count t + method_count t) words cells

-- Row i is stored, and the rows before it are kept.
pub record Stored (i : ℕ) (x : Row) (words cells words' cells' : List ℕ) : Type 0 where
  pub row : row_at words' cells' i ≡ x
  pub words_kept : take (row_words * i) words' ≡ take (row_words * i) words
  pub cells_kept : take (row_cells * i) cells' ≡ take (row_cells * i) cells

-- The words of row i are stored, and those of the rows before it kept.
pub record SetsStored (i : ℕ) (j : Join) (cost : ℕ) (words words' : List ℕ) : Type 0 where
  pub kept : take (row_words * i) words' ≡ take (row_words * i) words
  pub sets : action_at words' (row_words * i) ≡ record { needs = j.needs; adds = j.adds; dels = j.dels; cost = cost }

-- The cells after those of the tasks, in the row from c on, are stored, and all before them kept.
pub record Ended (c x r n top : ℕ) (cells cells' : List ℕ) : Type 0 where
  pub kept : take (c + task_cell) cells' ≡ take (c + task_cell) cells
  pub task : get_or cells' (c + task_cell) 0 ≡ x
  pub left : get_or cells' (c + left_cell) 0 ≡ r
  pub steps : get_or cells' (c + steps_cell) 0 ≡ n
  pub last : get_or cells' (c + last_cell) 0 ≡ top

-- The tasks are stored from cell c on, the last first, and all before them kept.
pub record RestStored (c : ℕ) (tasks cells cells' : List ℕ) : Type 0 where
  pub kept : take c cells' ≡ take c cells
  pub stack : stack_of (drop c cells') (length tasks) ≡ tasks
