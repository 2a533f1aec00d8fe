-- One line of a plan text, byte by byte from a place on. A byte past the end reads as 0.
use Rattle.std.specs.Prelude.{cond, List, ℕ, ◌+◌, ◌-◌, ◌*◌, eqb, get_or, drop, Option, None, Some}
use Rattle.rules.specs.Plans.{is_digit}
use Rattle.rules.specs.declared.Kind.{Kind}
use Rattle.rules.specs.declared.Kind.TheVariants.{Action, Method}
use Rattle.line_ends.specs.Ends.{end_bytes, feed_at}
use Rattle.lines.specs.declared.Line.{Line}
use Rattle.lines.specs.declared.Line.TheVariants.{Operator, Comment}

-- `(a0 1)` and its line feed.
abbrev pub shortest_line : ℕ
shortest_line = 7

-- What a digit counts.
abbrev pub digit_of : ℕ → Option ℕ
digit_of c = cond (is_digit c) (Some (c - 48)) None

-- One to three digits, no leading zero but 0 itself; and the place after them.
unfoldable pub small_at : List ℕ → ℕ → Option (ℕ × ℕ)
small_at s at =
    cond (is_digit (get_or s at 0))
    (cond (is_digit (get_or s (at + 1) 0))
    (cond (eqb (get_or s at 0) 48) None
    (cond (is_digit (get_or s (at + 2) 0))
    (Some (((get_or s at 0 - 48) * 10 + (get_or s (at + 1) 0 - 48)) * 10 + (get_or s (at + 2) 0 - 48), at + 3))
    (Some ((get_or s at 0 - 48) * 10 + (get_or s (at + 1) 0 - 48), at + 2))))
    (Some (get_or s at 0 - 48, at + 1)))
    None

-- A closing bracket and the line's end.
abbrev pub bracketed : List ℕ → Kind → ℕ → Option (ℕ × ℕ) → Option Line
bracketed s kind number None = None
bracketed s kind number (Some (position, q)) =
    cond (eqb (get_or s q 0) 41)
    (cond (eqb (end_bytes s (q + 1)) 0) None
    (Some (Operator (record { kind = kind; number = number; position = position }) (q + 1 + end_bytes s (q + 1)))))
    None

abbrev pub positioned : List ℕ → Kind → Option (ℕ × ℕ) → Option Line
positioned s kind None = None
positioned s kind (Some (number, p)) = cond (eqb (get_or s p 0) 32) (bracketed s kind number (small_at s (p + 1))) None

-- A letter names a kind, or none.
abbrev pub kind_of : ℕ → Option Kind
kind_of c = cond (eqb c 97) (Some Action) (cond (eqb c 109) (Some Method) None)

abbrev pub named : List ℕ → ℕ → Option Kind → Option Line
named s p None = None
named s p (Some kind) = positioned s kind (small_at s p)

-- What follows the opening bracket at a place.
unfoldable pub operator_at : List ℕ → ℕ → Option Line
operator_at s at = named s (at + 2) (kind_of (get_or s (at + 1) 0))

-- A line that a line feed ends: an operator, or a comment.
unfoldable pub line_at : List ℕ → ℕ → Option Line
line_at s at =
    cond (eqb (get_or s at 0) 40) (operator_at s at) (cond (eqb (get_or s at 0) 59) (Some (Comment (at + feed_at (drop at s) + 1))) None)
