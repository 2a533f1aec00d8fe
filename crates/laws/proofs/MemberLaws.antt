-- How many facts a set has, and the lowest of them.
use mathlib.Core.Path.{◌≡◌, refl, sym, ap, ap₂, ◌∙◌}
use mathlib.Core.Bool.{Bool, true, false, cond}
use mathlib.Core.List.{List, [], ◌∷◌, map}
use Prim.Native.Nat.{ℕ, zero, suc, ◌+◌, ◌-◌, ◌/◌, ◌%◌, ◌^◌, ◌≤◌, ◌<◌}
use native.Mathlib.Nat.{mod-lt, zero-lt-suc}
use native.Mathlib.Numerals.{add-one}
use native.Mathlib.Decide.{dec_lt}
use native.Mathlib.Omega.{arith}
use borrow.Author.Tests.{lt-ltb}
use lib.Bits.{bit_and, and_zero_l, and_zero_r, and_self, and_shr, and_mod}
use lib.Count.{ones, ones_step, count_trailing_zeros, under}
use lib.Dec.{ltb, leb-suc-zero, leb-suc-suc}
use lib.ListN.{length, length-map}
use lib.Pow.{shr_lt}
use Rattle.rules.specs.Facts.{is_set, has, members_from, members_of}

length_first : (b : Bool) (k : ℕ) (l : List ℕ) → length (cond b (k ∷ l) l) ≡ cond b 1 0 + length l
length_first true k l = omega arith
length_first false k l = omega arith

raised : (b : Bool) (k : ℕ) (l : List ℕ) → map suc (cond b (k ∷ l) l) ≡ cond b (suc k ∷ map suc l) (map suc l)
raised true k l = refl
raised false k l = refl

-- The facts of half the set, each raised by one, are those of the set past the first.
members_half : (n k s : ℕ) → members_from n (suc k) s ≡ map suc (members_from n k (s / 2))
unfolding members_from has
members_half zero k s = refl
members_half (suc n) k s =
    ap (λ (l : List ℕ). cond (has (s / 2) k) (suc k ∷ l) l) (members_half n (suc k) s)
    ∙ sym (raised (has (s / 2) k) k (members_from n (suc k) (s / 2)))

one : (x : ℕ) → x < 2 → cond (is_set x) 1 0 ≡ x
one zero h = refl
one (suc zero) h = refl
one (suc (suc x)) h = absurd (omega arith)

-- As many as bits are set.
pub members_ones : (n s : ℕ) → s < 2 ^ n → length (members_of n s) ≡ ones s
unfolding members_of members_from has ones
members_ones zero s h = let e : s ≡ 0 = omega arith in rw e
members_ones (suc n) s h =
    length_first (is_set (s % 2)) 0 (members_from n 1 s)
    ∙ ap (λ (m : ℕ). m + length (members_from n 1 s)) (one (s % 2) (mod-lt s (zero-lt-suc 1)))
    ∙ ap (λ (m : ℕ). s % 2 + m)
    (ap length (members_half n 0 s) ∙ length-map (members_from n 0 (s / 2)) suc ∙ members_ones n (s / 2) (shr_lt n 1 (rw (add-one n) h)))
    ∙ sym (ones_step s)

from_few : (n k s : ℕ) → length (members_from n k s) ≤ n
unfolding members_from
from_few zero k s = omega arith
from_few (suc n) k s = go (has s k) (from_few n (suc k) s)
  where
    go : (b : Bool) → length (members_from n (suc k) s) ≤ n
        → length (cond b (k ∷ members_from n (suc k) s) (members_from n (suc k) s)) ≤ suc n
    go true h = omega arith
    go false h = omega arith

-- No more than are numbered.
pub members_few : (n s : ℕ) → length (members_of n s) ≤ n
unfolding members_of
members_few n s = from_few n 0 s

-- ---- the lowest fact

-- Fact 0 where the digit is set, and the facts of half the set, each raised by one.
abbrev on_digit : ℕ → List ℕ → List ℕ
on_digit d l = cond (is_set d) (0 ∷ map suc l) (map suc l)

members_digit : (n s d h : ℕ) → s % 2 ≡ d → s / 2 ≡ h → members_of (suc n) s ≡ on_digit d (members_of n h)
unfolding members_of members_from has
members_digit n s d h e f =
    ap (λ (l : List ℕ). cond (is_set (s % 2)) (0 ∷ l) l) (members_half n 0 s)
    ∙ ap₂ (λ (x y : ℕ). on_digit x (members_of n y)) e f

-- The set without its lowest fact.
abbrev pub past : ℕ → ℕ
past s = bit_and s (s - 1)

module _ (s : ℕ) where
  past_even : s % 2 ≡ 0 → (past s % 2 ≡ 0) × (past s / 2 ≡ past (s / 2))
  past_even e =
      let h : (s - 1) / 2 ≡ s / 2 - 1 = omega arith in (
        and_mod s (s - 1) 1 ∙ ap (λ (d : ℕ). bit_and d ((s - 1) % 2)) e ∙ and_zero_l ((s - 1) % 2),
        and_shr s (s - 1) 1 ∙ ap (bit_and (s / 2)) h,
      )

  past_odd : s % 2 ≡ 1 → (past s % 2 ≡ 0) × (past s / 2 ≡ s / 2)
  past_odd e =
      let d : (s - 1) % 2 ≡ 0 = omega arith in
      let h : (s - 1) / 2 ≡ s / 2 = omega arith in (
        and_mod s (s - 1) 1 ∙ ap (bit_and (s % 2)) d ∙ and_zero_r (s % 2),
        and_shr s (s - 1) 1 ∙ ap (bit_and (s / 2)) h ∙ and_self (s / 2),
      )

-- Fact t and those of the list, if t is below n; else none.
abbrev pub first : ℕ → ℕ → List ℕ → List ℕ
first n t l = cond (ltb t n) (t ∷ l) []

first_zero : (n : ℕ) (l : List ℕ) → 0 ∷ l ≡ first (suc n) 0 l
first_zero n l = rw (lt-ltb 0 (suc n) (omega arith))

first_raised : (n t : ℕ) (l : List ℕ) → map suc (first n t l) ≡ first (suc n) (suc t) (map suc l)
first_raised n t l = rw (leb-suc-suc (suc t) n) (go (ltb t n))
  where
    go : (b : Bool) → map suc (cond b (t ∷ l) []) ≡ cond b (suc t ∷ map suc l) []
    go true = refl
    go false = refl

-- The facts below n of a set: the one whose number is how many zeros stand below the lowest digit that is set, and those of the set
-- without it; none, if that number is not below n. It is w where none of w digits is set.
pub members_lowest : (n w s : ℕ) → n ≤ w → members_of n s ≡ first n (count_trailing_zeros w s) (members_of n (past s))
unfolding members_of members_from count_trailing_zeros
members_lowest zero w s h = rw (leb-suc-zero (count_trailing_zeros w s))
members_lowest (suc n) zero s h = absurd (omega arith)
members_lowest (suc n) (suc w) s h =
    elim (dec_lt (s % 2) 1) [
      | yes l ↦
          let e : s % 2 ≡ 0 = omega arith in
          members_digit n s 0 (s / 2) e refl
          ∙ ap (map suc) (members_lowest n w (s / 2) (omega arith))
          ∙ first_raised n (count_trailing_zeros w (s / 2)) (members_of n (past (s / 2)))
          ∙ same 0 e (sym (members_digit n (past s) 0 (past (s / 2)) (past_even s e).0 (past_even s e).1))
      | no l ↦
          let e : s % 2 ≡ 1 = omega arith in
          members_digit n s 1 (s / 2) e refl
          ∙ first_zero n (map suc (members_of n (s / 2)))
          ∙ same 1 e (sym (members_digit n (past s) 0 (s / 2) (past_odd s e).0 (past_odd s e).1))
    ]
  where
    same : (d : ℕ) {l : List ℕ} → s % 2 ≡ d → l ≡ members_of (suc n) (past s)
        → first (suc n) (under d (count_trailing_zeros w (s / 2))) l ≡ first (suc n) (under (s % 2) (count_trailing_zeros w (s / 2))) (members_of (suc n) (past s))
    same d e f = ap₂ (λ (x : ℕ) (y : List ℕ). first (suc n) (under x (count_trailing_zeros w (s / 2))) y) (sym e) f
