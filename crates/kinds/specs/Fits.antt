-- A section and the part that is lent for it.
use Rattle.std.specs.Prelude.{ℕ, ◌≡◌, List, length}
use Rattle.std.specs.Borrow.{MutBor}
use Rattle.rules.specs.Refusals.{room_for, written}
use Rattle.text.specs.Puts.{Puts}

-- r is how long x is; the part begins with x where there is room for it, and all else in it is as it was.
pub record Fits (old x new : List ℕ) (r : ℕ) : Type 0 where
  pub long : r ≡ length x
  pub text : new ≡ written old 0 (room_for (length old) 0 x)

-- Whatever it is lent, a writer of which so much is known puts x at its start.
abbrev pub Writes : (MutBor (List ℕ) → ℕ → MutBor (List ℕ) → Type 0) → List ℕ → Type 0
Writes post x = (old new : MutBor (List ℕ)) (r : ℕ) → post old r new → Puts old.now 0 x new.now r
