-- What a writer does that counts, and writes where there is room; where there is none, nothing is said of the bytes but their number.
use Rattle.std.specs.Prelude.{ℕ, ◌+◌, ◌≤◌, ◌≡◌, List, length}
use Rattle.std.proofs.lemmas.List.Edits.{sets}

-- r is the place after x; where the text reaches that far, x stands in it from the place `at` on, and all else is as it was.
pub record Puts (old : List ℕ) (at : ℕ) (x new : List ℕ) (r : ℕ) : Type 0 where
  pub next : r ≡ at + length x
  pub size : length new ≡ length old
  pub text : r ≤ length old → new ≡ sets old at x

-- No place is counted further.
abbrev pub farthest : ℕ
farthest = 18446744073709551615
