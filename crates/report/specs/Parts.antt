-- What a program writes, in parts. It is made of pieces, f 0, f 1, .. f (n - 1), and a part is some of them in a row.
use Rattle.std.specs.Prelude.{ℕ, ◌≤◌, ◌<◌, ◌≡◌, List, [], ◌∷◌, ◌++◌, length, take}
use Rattle.basics.specs.Lists.{upto}
use Rattle.report.specs.declared.Part.{Part}

-- The piece that comes after a part, and how many bytes the part has.
abbrev pub next_of : Part → ℕ
next_of r = r.next

abbrev pub size_of : Part → ℕ
size_of r = r.size

-- The part that stands at the start of `out` begins with piece `from`, and has one piece or more, of n in all.
pub record Moves (n from : ℕ) (out : List ℕ) (r : Part) : Type 0 where
  pub some : from < next_of r
  pub most : next_of r ≤ n
  pub size : size_of r ≤ length out

-- It says these pieces.
abbrev pub Says : (ℕ → List ℕ) → ℕ → List ℕ → Part → Type 0
Says f from out r = upto f (next_of r) ≡ upto f from ++ take (size_of r) out

-- A part's text, and the piece that comes after it.
pub record Sent : Type 0 where
  pub text : List ℕ
  pub next : ℕ

-- Parts that a program sent: each begins where the one before it ended, the first at piece m, and the last ends at piece n.
unfoldable pub Follow : (ℕ → List ℕ) → ℕ → ℕ → List Sent → Type 0
Follow f n m [] = m ≡ n
Follow f n m (p ∷ ps) = (upto f p.next ≡ upto f m ++ p.text) × Follow f n p.next ps
