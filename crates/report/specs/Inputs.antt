-- How much of its input a program reads, and what has been read.
use Rattle.std.specs.Prelude.{ℕ, ◌+◌, ◌*◌, ◌-◌, ◌≡◌, List, length, take}
use Rattle.rules.specs.Limits.{most_table_bytes, most_plan_bytes}
use Rattle.report.specs.declared.Input.{Input}

-- What a table's two bytes of length can name.
abbrev pub most_size : ℕ
most_size = 256 * 256 - 1

-- The bytes before the table, the longest table and a plan one byte too long: where the table is longer, the plan is not looked at.
abbrev pub most_check_input : ℕ
most_check_input = 4 + most_table_bytes + most_plan_bytes + 1

-- For the emitting program, a table one byte too long; and for the finding program.
abbrev pub most_emit_input : ℕ
most_emit_input = 2 + most_table_bytes + 1

abbrev pub most_find_input : ℕ
most_find_input = 8 + most_table_bytes + 1

-- How many bytes have been read.
abbrev pub count_of : Input → ℕ
count_of r = r.count

-- Of an input, so many bytes stand at the start of the buffer: all of them, or as many as it holds.
abbrev pub ReadFrom : List ℕ → List ℕ → Input → Type 0
ReadFrom input buffer r = take (count_of r) buffer ≡ take (length buffer) input
