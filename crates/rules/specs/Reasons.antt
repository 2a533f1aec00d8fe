-- "Refusal numbers": a name for each.
use Rattle.std.specs.Prelude.{ℕ}

-- "bound not 1 to 64".
abbrev pub bad_bound : ℕ
bad_bound = 1

-- "form not 0 or 1".
abbrev pub bad_form : ℕ
bad_form = 2

-- "table too long".
abbrev pub table_too_long : ℕ
table_too_long = 3

-- "plan over 65,536 bytes".
abbrev pub plan_too_long : ℕ
plan_too_long = 4

-- "table ends before or inside a number".
abbrev pub table_ends : ℕ
table_ends = 5

-- "number not shortest, or over 64 bits".
abbrev pub bad_number : ℕ
bad_number = 6

-- "count or cost beyond its range".
abbrev pub out_of_range : ℕ
out_of_range = 7

-- "fact bit, task, head or starting task not there or of the wrong kind".
abbrev pub not_there : ℕ
not_there = 8

-- "bytes after the table".
abbrev pub bytes_after_table : ℕ
bytes_after_table = 9

-- "no such section".
abbrev pub no_such_section : ℕ
no_such_section = 10

-- "line of another shape, or without line feed".
abbrev pub line_shape : ℕ
line_shape = 11

-- "operator not emitted".
abbrev pub not_emitted : ℕ
not_emitted = 12

-- "operator not applicable".
abbrev pub not_applicable : ℕ
not_applicable = 13

-- "stack not empty at the end".
abbrev pub stack_not_empty : ℕ
stack_not_empty = 14

-- "goal fact missing at the end".
abbrev pub goal_missing : ℕ
goal_missing = 15

-- "too little room".
abbrev pub no_room : ℕ
no_room = 16

-- Document 02, C-11. "L or the budget out of range".
abbrev pub bad_limits : ℕ
bad_limits = 17

-- "no plan of at most L operators".
abbrev pub no_plan : ℕ
no_plan = 18

-- "that number is above the budget".
abbrev pub over_budget : ℕ
over_budget = 19
