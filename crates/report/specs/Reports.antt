-- Room for the line of an answer.
use Rattle.std.specs.Prelude.{ℕ}

-- A space and a number of 64 bits, which has at most twenty digits; and room for a whole line.
abbrev pub word_room : ℕ
word_room = 21

abbrev pub line_room : ℕ
line_room = 80
