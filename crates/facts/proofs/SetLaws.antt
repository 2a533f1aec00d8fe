-- The facts of one number that are not in another, by the code's operations.
use mathlib.Core.Path.{◌≡◌}
use Prim.Native.Nat.{ℕ, ◌+◌, ◌-◌, ◌%◌, ◌^◌, ◌<◌, min}
use native.Mathlib.Omega.{arith}
use lib.Bits.{bit_and}
use Rattle.std.specs.Int.{w64, bit_not}
use Rattle.std.proofs.lemmas.Nat.{and_le_l, xor_lt}
use Rattle.std.proofs.lemmas.Nat.Bits.{bit_at-lt, bit_at_and, bit_at_not, bit_at_xor, same_from_bits_below}
use Rattle.rules.specs.Facts.{without}

bit : (p q : ℕ) → p < 2 → q < 2 → min p (1 - q) ≡ (p + min p q) % 2
bit p q hp hq = omega arith

pub and_not : (a b : ℕ) → a < 2 ^ 64 → b < 2 ^ 64 → bit_and a (bit_not w64 b) ≡ without a b
unfolding without
and_not a b ha hb =
    same_from_bits_below 64 _ _ (omega (arith, and_le_l a (bit_not w64 b))) (xor_lt 64 a (bit_and a b) ha (omega (arith, and_le_l a b)))
    (λ i low. rw (bit_at_and a (bit_not w64 b) i, bit_at_not w64 b i hb low, bit_at_xor a (bit_and a b) i, bit_at_and a b i)
    (bit _ _ (bit_at-lt a i) (bit_at-lt b i)))
