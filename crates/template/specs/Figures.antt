-- The numbers below m in decimal, four bytes each: at most three digits, zeros, and how many digits there are.
use Rattle.std.specs.Prelude.{ℕ, ◌+◌, ◌*◌, ◌/◌, ◌%◌, ◌≡◌, cond, List, [], ◌∷◌, ltb, take}
use Rattle.basics.specs.Lists.{upto}

unfoldable pub figure : ℕ → List ℕ
figure n =
    cond (ltb n 10) ((48 + n) ∷ 0 ∷ 0 ∷ 1 ∷ [])
    (cond (ltb n 100) ((48 + n / 10) ∷ (48 + n % 10) ∷ 0 ∷ 2 ∷ [])
    ((48 + n / 100) ∷ (48 + n / 10 % 10) ∷ (48 + n % 10) ∷ 3 ∷ []))

-- The bytes start with the figures of all numbers below m.
unfoldable pub Figures : List ℕ → ℕ → Type 0
Figures s m = take (4 * m) s ≡ upto figure m
