-- The lines of a plan, and the bytes that they take.
use Rattle.std.specs.Prelude.{ℕ, List, [], ◌∷◌, ◌++◌}
use Rattle.rules.specs.Operators.{Operator}
use Rattle.rules.specs.Plans.{text_of}

-- An operator's text and its line feed.
abbrev pub line_text : Operator → List ℕ
line_text o = text_of o ++ (10 ∷ [])

-- The bracket, the letter and a number of three digits; all of a line, its position of three digits too. That a plan found has two there
-- at most is known above (`sought`).
abbrev pub name_bytes : ℕ
name_bytes = 5

abbrev pub line_bytes : ℕ
line_bytes = 11
