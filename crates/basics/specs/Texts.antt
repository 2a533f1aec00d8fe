-- Text as bytes: a quoted text, a number in decimal, a line of words.
use Rattle.std.specs.Prelude.{ℕ, zero, suc, ◌+◌, ◌/◌, ◌%◌, ◌<◌, cond, List, [], ◌∷◌, ◌++◌, ltb}
use Prim.Native.Char.{code}
use Prim.Native.String as Str
use Prim.Native.String.{String}

-- The bytes of a text of ASCII characters.
abbrev pub bytes : String → List ℕ
bytes Str.[] = []
bytes (Str.◌∷◌ c s) = code c ∷ bytes s

abbrev pub digit : ℕ → List ℕ
digit n = (48 + n % 10) ∷ []

-- n in decimal, looking at no more than f + 1 digits.
unfoldable pub digits_f : ℕ → ℕ → List ℕ
digits_f zero n = digit n
digits_f (suc f) n = cond (ltb n 10) [] (digits_f f (n / 10)) ++ digit n

-- n in decimal, with no leading zero: n has no more than n + 1 digits.
unfoldable pub digits : ℕ → List ℕ
unfolding digits_f
digits n = digits_f n n

-- It has at most three digits.
abbrev pub ThreeDigits : ℕ → Type 0
ThreeDigits n = n < 1000

-- Words with one space between them, and a line feed.
abbrev pub line : List (List ℕ) → List ℕ
line [] = 10 ∷ []
line (x ∷ []) = x ++ (10 ∷ [])
line (x ∷ y ∷ ys) = x ++ (32 ∷ line (y ∷ ys))
