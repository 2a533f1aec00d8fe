-- A variable's section in the pieces in which it is written: each number ends a line.
use Rattle.std.specs.Prelude.{ℕ, ◌*◌, List, [], ◌∷◌, ◌++◌}
use Rattle.basics.specs.Lists.{rows}
use Rattle.basics.specs.Texts.{bytes, digits}
use Rattle.version3.specs.Problems.{Variable}
use Rattle.version3.specs.Spelling.{word_line, number_line}
use Rattle.rules.specs.Limits.{most_tasks}

-- Text, a number, a line feed.
abbrev pub labelled : List ℕ → ℕ → List ℕ
labelled s n = word_line (s ++ digits n)

-- Variable v by the names of its values, and its section as far as their count.
abbrev pub variable : ℕ → List (List ℕ) → Variable
variable v names = record { name = bytes "var" ++ digits v; values = names }

unfoldable pub variable_head : ℕ → ℕ → List ℕ
variable_head v n = bytes "begin_variable\n" ++ labelled (bytes "var") v ++ bytes "-1\n" ++ number_line n

-- The values of a position, of n tasks in all.
abbrev pub position_names : ℕ → List (List ℕ)
position_names n = rows (λ k. bytes "t" ++ digits k) n ++ (bytes "none" ∷ [])

-- Room for a variable's lines as far as its count of values, and for the names of heights or tasks, seven bytes each.
abbrev pub head_bytes : ℕ
head_bytes = 32

abbrev pub names_bytes : ℕ
names_bytes = 7 * most_tasks
