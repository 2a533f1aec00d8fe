-- What a writer leaves: all up to the next place is told, what stands after it is not.
use Rattle.std.specs.Prelude.{ℕ, ◌+◌, ◌≡◌, List, ◌++◌, length, take}

-- x stands in new from the place `at` on, after what old has before it, and r is the place after x.
pub record Appends (old : List ℕ) (at : ℕ) (x new : List ℕ) (r : ℕ) : Type 0 where
  pub next : r ≡ at + length x
  pub size : length new ≡ length old
  pub text : take r new ≡ take at old ++ x
