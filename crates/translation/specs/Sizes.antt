-- Bounds that allow a position, and how long sections are, in the document's words.
use Rattle.std.specs.Prelude.{ℕ, ◌≤◌, List, length}
use Rattle.rules.specs.Limits.{most_section_bytes}

-- "With bound b, positions are 1 to b": there is one.
abbrev pub SomePosition : ℕ → Type 0
SomePosition b = 1 ≤ b

-- "No section is longer than 2,048 bytes."
abbrev pub Short : List ℕ → Type 0
Short x = length x ≤ most_section_bytes
