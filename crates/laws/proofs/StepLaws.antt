-- Laws of the bytes of a step list, and of bytes stored in a row.
use Prim.Native.Nat.{ℕ, suc, ◌+◌, ◌*◌, ◌/◌, ◌%◌}
use mathlib.Core.Path.{◌≡◌, refl, ap}
use mathlib.Core.List.{List, [], ◌∷◌, ◌++◌}
use native.Mathlib.Nat.{add-zero, add-suc, suc-add}
use native.Mathlib.Omega.{arith}
use lib.ListN.{length, set}
use lib.Seq.{sets}
use Rattle.rules.specs.Progression.{Step}
use Rattle.rules.specs.Checks.{word_of, step_bytes}

pub bytes_length : (xs : List Step) → length (step_bytes xs) ≡ 2 * length xs
unfolding step_bytes
bytes_length [] = refl
bytes_length (x ∷ xs) = omega (arith, bytes_length xs)

pub bytes_append : (xs ys : List Step) → step_bytes (xs ++ ys) ≡ step_bytes xs ++ step_bytes ys
unfolding step_bytes
bytes_append [] ys = refl
bytes_append (x ∷ xs) ys = ap (λ (bs : List ℕ). word_of x % 256 ∷ word_of x / 256 ∷ bs) (bytes_append xs ys)

-- Stores in a row, and more from where they end.
pub sets_append : (x y l : List ℕ) (i : ℕ) → sets (sets l i x) (i + length x) y ≡ sets l i (x ++ y)
sets_append [] y l i = rw add-zero
sets_append (a ∷ x) y l i = rw (add-suc, ← suc-add) (sets_append x y (set l i a) (suc i))
