-- Sizes of templates, and of the memory that they are rendered from and into.
use Rattle.std.specs.Prelude.{ℕ, ◌+◌, ◌*◌}
use Rattle.rules.specs.Limits.{most_bound}

-- How many bytes are moved at a time, and the room behind a text that is moved so.
abbrev pub chunk : ℕ
chunk = 32

abbrev pub margin : ℕ
margin = 2 * chunk

-- A number that moves is the position plus at most this; the figures of all such numbers, of four bytes each.
abbrev pub most_offset : ℕ
most_offset = 448

abbrev pub figure_count : ℕ
figure_count = most_offset + most_bound

abbrev pub figure_bytes : ℕ
figure_bytes = 4 * figure_count

-- How many numbers move in a template, and how long its text is at a position.
abbrev pub most_numbers : ℕ
most_numbers = 12

abbrev pub operator_bytes : ℕ
operator_bytes = 1408

-- The text that a template is composed in, and the texts at all positions.
abbrev pub template_bytes : ℕ
template_bytes = operator_bytes + margin

abbrev pub step_text_bytes : ℕ
step_text_bytes = operator_bytes * most_bound
