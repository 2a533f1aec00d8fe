-- Pieces of a template's text: what each says at the position p, and the bytes and the moving numbers that it takes at most.
use Rattle.std.specs.Prelude.{ℕ, ◌+◌, List, ◌++◌, length}
use Rattle.basics.specs.Texts.{bytes as ascii, digits}

pub record Piece : Type 0 where
  pub text : ℕ → List ℕ
  pub bytes : ℕ
  pub numbers : ℕ

infixl 20 ◌then◌
-- One and then another.
abbrev pub ◌then◌ : Piece → Piece → Piece
◌then◌ x y = record { text = λ p. x.text p ++ y.text p; bytes = x.bytes + y.bytes; numbers = x.numbers + y.numbers }

-- Text in which no number moves.
abbrev pub fixed : List ℕ → ℕ → Piece
fixed x b = record { text = λ _. x; bytes = b; numbers = 0 }

abbrev pub plain : List ℕ → Piece
plain s = fixed s (length s)

-- Text, and a number of at most three digits that does not move; and with a line feed.
abbrev pub field : List ℕ → ℕ → Piece
field s n = fixed (s ++ digits n) (length s + 3)

abbrev pub field_line : List ℕ → ℕ → Piece
field_line s n = fixed (s ++ digits n ++ ascii "\n") (length s + 4)

-- Text, and the position plus o; and with a line feed.
abbrev pub moving : List ℕ → ℕ → Piece
moving s o = record { text = λ p. s ++ digits (p + o); bytes = length s; numbers = 1 }

abbrev pub moving_line : List ℕ → ℕ → Piece
moving_line s o = record { text = λ p. s ++ digits (p + o) ++ ascii "\n"; bytes = length s + 1; numbers = 1 }
