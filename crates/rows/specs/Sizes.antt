-- How many rows there are at most, and what each takes.
use Rattle.std.specs.Prelude.{ℕ, suc, ◌+◌, ◌*◌}
use Rattle.rules.specs.Limits.{most_actions, most_methods, most_subtasks, most_cost, most_bound}
use Rattle.facts.specs.Sets.{action_words}

-- A row for each action and each method.
abbrev pub most_rows : ℕ
most_rows = most_actions + most_methods

-- Its words: the joined sets and what it costs.
abbrev pub row_words : ℕ
row_words = action_words

-- Its cells: the tasks that it leaves, the last first, then its task, how many it leaves, its steps and its highest position.
abbrev pub row_cells : ℕ
row_cells = most_subtasks + 4

abbrev pub task_cell : ℕ
task_cell = most_subtasks

abbrev pub left_cell : ℕ
left_cell = most_subtasks + 1

abbrev pub steps_cell : ℕ
steps_cell = most_subtasks + 2

abbrev pub last_cell : ℕ
last_cell = most_subtasks + 3

abbrev pub all_words : ℕ
all_words = most_rows * row_words

abbrev pub all_cells : ℕ
all_cells = most_rows * row_cells

-- A run's stack has room for the tasks that a row may leave above the highest bound.
abbrev pub stack_cells : ℕ
stack_cells = most_bound + most_subtasks

-- A row has at most so many steps, its own and its prefix's, and costs at most so much.
abbrev pub most_steps : ℕ
most_steps = suc most_subtasks

abbrev pub most_row_cost : ℕ
most_row_cost = most_subtasks * most_cost
