-- An operator prepared once: its joined sets, what it costs and leaves, and its highest position.
use Rattle.std.specs.Prelude.{ℕ, suc, ◌+◌, ◌*◌, ◌≤◌, ◌<◌, ◌≡◌, List, ◌∷◌, ◌++◌, map, length, get_or, drop}
use Rattle.rules.specs.Limits.{most_subtasks, most_bound}
use Rattle.rules.specs.Tables.{Table, action_count, method_count}
use Rattle.rules.specs.Progression.{Step, act, mth, total_cost}
use Rattle.rules.specs.Operators.{company, joined, task_of, leaves, positions}
use Rattle.facts.specs.Sets.{set_words, set_at}
use Rattle.rows.specs.Sizes.{row_words, row_cells, task_cell, left_cell, steps_cell, last_cell, most_steps, most_row_cost}
use Rattle.rows.specs.Stacks.{stack_of}

pub record Row : Type 0 where
  pub needs : ℕ
  pub adds : ℕ
  pub dels : ℕ
  pub cost : ℕ
  pub task : ℕ
  pub steps : ℕ
  pub last : ℕ
  pub rest : List ℕ

-- The operators of a step, as the document has them.
abbrev pub row_of : ℕ → ℕ → Table → Step → Row
row_of b f t x =
    record {
      needs = (joined f t x).needs;
      adds = (joined f t x).adds;
      dels = (joined f t x).dels;
      cost = total_cost t (x ∷ map act (company f t x));
      task = task_of t x;
      steps = suc (length (company f t x));
      last = positions b f t x;
      rest = leaves f t x;
    }

-- Row i in memory.
abbrev pub row_at : List ℕ → List ℕ → ℕ → Row
row_at words cells i =
    record {
      needs = set_at words (row_words * i);
      adds = set_at words (row_words * i + set_words);
      dels = set_at words (row_words * i + 2 * set_words);
      cost = get_or words (row_words * i + 3 * set_words) 0;
      task = get_or cells (row_cells * i + task_cell) 0;
      steps = get_or cells (row_cells * i + steps_cell) 0;
      last = get_or cells (row_cells * i + last_cell) 0;
      rest = stack_of (drop (row_cells * i) cells) (get_or cells (row_cells * i + left_cell) 0);
    }

-- There is room for n rows.
pub record RowsFit (n : ℕ) (words cells : List ℕ) : Type 0 where
  pub in_words : row_words * n ≤ length words
  pub in_cells : row_cells * n ≤ length cells

-- Row i leaves no more tasks than its cells can hold.
pub record RowHeld (words cells : List ℕ) (i : ℕ) : Type 0 where
  pub fits : RowsFit (i + 1) words cells
  pub few : length (row_at words cells i).rest ≤ most_subtasks

-- The rows of all operators of a table: actions first, then methods.
pub record Prepared (b f : ℕ) (t : Table) (words cells : List ℕ) : Type 0 where
  pub fits : RowsFit (action_count t + method_count t) words cells
  pub actions : (k : ℕ) → k < action_count t → row_at words cells k ≡ row_of b f t (act k)
  pub methods : (k : ℕ) → k < method_count t → row_at words cells (action_count t + k) ≡ row_of b f t (mth k)

-- What a step by row i asks of it.
pub record RowOk (words cells : List ℕ) (i : ℕ) : Type 0 where
  pub held : RowHeld words cells i
  pub height : (row_at words cells i).last + length (row_at words cells i).rest ≤ most_bound + 1
  pub steps : (row_at words cells i).steps ≤ most_steps
  pub cost : (row_at words cells i).cost ≤ most_row_cost

-- The tasks stand on top of the first `below` cells of a stack.
pub record Pushed (old : List ℕ) (below : ℕ) (tasks new : List ℕ) : Type 0 where
  pub size : length new ≡ length old
  pub stack : stack_of new (below + length tasks) ≡ tasks ++ stack_of old below
