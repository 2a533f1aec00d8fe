-- "Plans": the lines of a plan text, and the text of a list of operators.
use Rattle.std.specs.Prelude.{ℕ, zero, suc, ◌+◌, ◌-◌, ◌*◌, Bool, true, false, ◌&&◌, cond, List, [], ◌∷◌, ◌++◌, eqb, leb}
use Rattle.rules.specs.Progression.{Step, act, mth}
use Rattle.rules.specs.Operators.{Operator}
use Rattle.basics.specs.Texts.{bytes}
use Rattle.rules.specs.Problems.{call_of}

-- A line: a comment, an operator, or one of another shape.
pub data Line : Type 0 where
  note : Line
  oper : Operator → Line
  other : Line

abbrev pub is_digit : ℕ → Bool
is_digit c = leb 48 c && leb c 57

-- A number that is read and the bytes after it, or none.
pub data Digits : Type 0 where
  read : ℕ → List ℕ → Digits
  unread : Digits

-- At most j digits more, after those that stand for n.
abbrev pub more : ℕ → ℕ → List ℕ → Digits
more zero n cs = read n cs
more (suc j) n [] = read n []
more (suc j) n (c ∷ cs) = cond (is_digit c) (more j (n * 10 + (c - 48)) cs) (read n (c ∷ cs))

-- "Numbers have one to three digits, no leading zero but `0` itself."
abbrev pub number : List ℕ → Digits
number [] = unread
number (c ∷ cs) = cond (is_digit c) (cond (eqb c 48) (read 0 cs) (more 2 (c - 48) cs)) unread

-- C-13: "A line may end either way, each line on its own." Of an operator's line that is read up to its closing bracket, and whose line feed is taken
-- off: nothing is left, or one carriage return.
abbrev pub at_end : List ℕ → Bool
at_end [] = true
at_end (c ∷ []) = eqb c 13
at_end (c ∷ d ∷ cs) = false

-- "`(`, `a` or `m`, a number, one space, a position, `)`, line feed", from its end to its start; the line feed is taken off.
abbrev pub ending : Step → ℕ → List ℕ → Line
ending x i [] = other
ending x i (c ∷ cs) = cond (eqb c 41) (cond (at_end cs) (oper (record { what = x; at = i })) other) other

abbrev pub position : Step → Digits → Line
position x unread = other
position x (read i cs) = ending x i cs

abbrev pub space : Step → List ℕ → Line
space x [] = other
space x (c ∷ cs) = cond (eqb c 32) (position x (number cs)) other

abbrev pub named : (ℕ → Step) → Digits → Line
named kind unread = other
named kind (read k cs) = space (kind k) cs

abbrev pub letter : List ℕ → Line
letter [] = other
letter (c ∷ cs) = cond (eqb c 97) (named act (number cs)) (cond (eqb c 109) (named mth (number cs)) other)

-- "A line that starts with `;` and ends with a line feed is a comment; its content is ignored."
abbrev pub line_of : List ℕ → Line
line_of [] = other
line_of (c ∷ cs) = cond (eqb c 59) note (cond (eqb c 40) (letter cs) other)

-- "line of another shape, or without line feed": what follows the last line feed, if anything does.
abbrev pub leftover : List ℕ → List Line
leftover [] = []
leftover (c ∷ cs) = other ∷ []

-- The lines of a text, of whose first line the bytes cs are passed already.
abbrev pub lines_from : List ℕ → List ℕ → List Line
lines_from cs [] = leftover cs
lines_from cs (d ∷ ds) = cond (eqb d 10) (line_of cs ∷ lines_from [] ds) (lines_from (cs ++ (d ∷ [])) ds)

unfoldable pub lines_of : List ℕ → List Line
lines_of ds = lines_from [] ds

-- The operators of a plan; whether all its lines are in shape.
abbrev pub opers_of : List Line → List Operator
opers_of [] = []
opers_of (note ∷ ls) = opers_of ls
opers_of (other ∷ ls) = opers_of ls
opers_of (oper o ∷ ls) = o ∷ opers_of ls

abbrev pub shaped : List Line → Bool
shaped [] = true
shaped (note ∷ ls) = shaped ls
shaped (other ∷ ls) = false
shaped (oper o ∷ ls) = shaped ls

-- The text of an operator, and of a list of them.
abbrev pub text_of : Operator → List ℕ
text_of o = bytes "(" ++ call_of o ++ bytes ")"

unfoldable pub texts_of : List Operator → List ℕ
texts_of [] = []
texts_of (o ∷ os) = text_of o ++ (10 ∷ texts_of os)
