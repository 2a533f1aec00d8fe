-- "The table", its first sentence: numbers in groups of seven bits.
use Rattle.std.specs.Prelude.{ℕ, suc, ◌+◌, ◌*◌, ◌%◌, List, [], ◌∷◌, Bool, true, false, cond, length, get_or, drop, ltb, leb, eqb}
use Rattle.std.proofs.Math.Seq.{slice}
use Rattle.basics.specs.Readings.{Reading, got, bad, then}
use Rattle.rules.specs.Reasons.{table_ends, bad_number}

-- "top bit set on all but the last group": how many bytes with the top bit set come first.
unfoldable pub groups_before : List ℕ → ℕ
groups_before [] = 0
groups_before (b ∷ bs) = cond (ltb b 128) 0 (suc (groups_before bs))

-- "groups of seven bits, lowest group first": what they stand for.
unfoldable pub groups_value : List ℕ → ℕ
groups_value [] = 0
groups_value (b ∷ bs) = b % 128 + 128 * groups_value bs

-- "shortest form only, at most 64 bits (so at most ten groups, the tenth at most 1)": may the last group b stand after k others?
unfoldable pub sound : ℕ → ℕ → Bool
sound k b = cond (eqb k 0) true (cond (eqb b 0) false (cond (ltb k 9) true (cond (eqb k 9) (leb b 1) false)))

-- Refusals 5, "table ends before or inside a number", and 6, "number not shortest, or over 64 bits", at "where that number begins".
-- k groups come before its last.
unfoldable pub number_at : List ℕ → ℕ → ℕ → Reading ℕ
number_at s at k =
    cond (ltb (at + k) (length s))
    (cond (sound k (get_or s (at + k) 0)) (got (groups_value (slice at (at + k + 1) s)) (at + k + 1)) (bad bad_number at))
    (bad table_ends at)

abbrev pub read_number : List ℕ → ℕ → Reading ℕ
read_number s at = number_at s at (groups_before (drop at s))

-- Refusals 7 and 8, place "same": a number from lo to hi, and the refusal where it is not.
unfoldable pub in_range : ℕ → ℕ → ℕ → ℕ → ℕ → ℕ → Reading ℕ
in_range lo hi why at v next = cond (leb lo v) (cond (leb v hi) (got v next) (bad why at)) (bad why at)

unfoldable pub ranged : List ℕ → ℕ → ℕ → ℕ → ℕ → Reading ℕ
ranged s lo hi why at = then (read_number s at) (in_range lo hi why at)
