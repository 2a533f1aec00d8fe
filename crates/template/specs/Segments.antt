-- A template's text is cut into segments, each but the last followed by a number that moves with the position.
use Rattle.std.specs.Prelude.{ℕ, ◌+◌, ◌-◌, List, ◌++◌, take, drop, get_or}
use Rattle.basics.specs.Lists.{upto, sum_to}
use Rattle.basics.specs.Texts.{digits}
use Rattle.template.specs.declared.numbers.Number.{Number}

-- What stands for a number past the last.
abbrev pub no_number : Number
no_number = record { bytes = 0; offset = 0 }

abbrev pub number_at : List Number → ℕ → Number
number_at numbers j = get_or numbers j no_number

-- Where segment j begins: the lengths of those before it.
abbrev pub start_of : List Number → ℕ → ℕ
start_of numbers j = sum_to (λ k. (number_at numbers k).bytes) j

-- Segment j and the number after it, at the position p.
unfoldable pub turn : List ℕ → List Number → ℕ → ℕ → List ℕ
turn text numbers p j = take (number_at numbers j).bytes (drop (start_of numbers j) text) ++ digits (p + (number_at numbers j).offset)

-- The first segments, as many as `count`, each with its number, and the open one, which begins at `from` and ends at `at`.
abbrev pub text_of : List ℕ → List Number → ℕ → ℕ → ℕ → ℕ → List ℕ
text_of text numbers at from count p = upto (turn text numbers p) count ++ take (at - from) (drop from text)
