-- Laws of decimal numbers and of parts written one after the other.
use mathlib.Core.Path.{◌≡◌, refl, sym, ap, ap₂, ◌∙◌}
use mathlib.Core.Bool.{Bool, true, false, cond}
use mathlib.Core.List.{List, [], ◌∷◌, ◌++◌, map, append-nil, append_assoc}
use Prim.Native.Nat.{ℕ, zero, suc, ◌+◌, ◌*◌, ◌/◌, ◌^◌, ◌≤◌, ◌<◌, zero-le}
use native.Mathlib.Nat.{add-zero, div-lt_iff_lt-mul, le_refl, mul-suc, pow-suc, zero-add}
use native.Mathlib.Numerals.{add-one}
use native.Mathlib.Decide.{dec_lt}
use native.Mathlib.Omega.{arith}
use borrow.Author.Tests.{lt-ltb, le-ltb}
use lib.ListN.{length, length-append}
use Rattle.basics.specs.Texts.{digit, digits_f, digits}
use Rattle.basics.specs.Lists.{rows, upto, concat}
use Rattle.rules.specs.Facts.{has, members_from, members_of}

-- ---- digits

enough : (f g n : ℕ) → n ≤ f → n ≤ g → digits_f f n ≡ digits_f g n
unfolding digits_f
enough zero zero n p q = refl
enough zero (suc g) n p q = rw (lt-ltb n 10 (omega arith))
enough (suc f) zero n p q = rw (lt-ltb n 10 (omega arith))
enough (suc f) (suc g) n p q =
    elim (dec_lt n 10) [
      | yes h ↦ rw (lt-ltb n 10 h)
      | no h ↦ rw (le-ltb n 10 (omega arith), enough f g (n / 10) (omega arith) (omega arith))
    ]

one_f : (f n : ℕ) → n < 10 → digits_f f n ≡ digit n
unfolding digits_f
one_f zero n h = refl
one_f (suc f) n h = rw (lt-ltb n 10 h)

more_f : (f n : ℕ) → n ≤ f → 10 ≤ n → digits_f f n ≡ digits_f (n / 10) (n / 10) ++ digit n
unfolding digits_f
more_f zero n p h = absurd (omega arith)
more_f (suc f) n p h = rw (le-ltb n 10 h, enough f (n / 10) (n / 10) (omega arith) (le_refl (n / 10)))

pub digits_one : (n : ℕ) → n < 10 → digits n ≡ digit n
unfolding digits
digits_one n h = one_f n n h

pub digits_more : (n : ℕ) → 10 ≤ n → digits n ≡ digits (n / 10) ++ digit n
unfolding digits
digits_more n h = more_f n n (le_refl n) h

-- How many digits, in each case.
pub length_one : (n : ℕ) → n < 10 → length (digits n) ≡ 1
length_one n h = rw (digits_one n h)

pub length_more : (n : ℕ) → 10 ≤ n → length (digits n) ≡ length (digits (n / 10)) + 1
length_more n h = rw (digits_more n h) (length-append (digits (n / 10)) (digit n))

-- A number below 10 ^ (k + 1) has at most k + 1 digits.
pub digits_le : (k n : ℕ) → n < 10 ^ suc k → length (digits n) ≤ suc k
digits_le zero n h = rw (digits_one n h) (omega arith)
digits_le (suc k) n h =
    elim (dec_lt n 10) [
      | yes p ↦ rw (digits_one n p) (omega arith)
      | no p ↦ rw (digits_more n (omega arith), length-append)
          (omega (arith, digits_le k (n / 10) ((div-lt_iff_lt-mul (omega arith)).1 (rw pow-suc at h))))
    ]

-- ---- parts one after the other

module _ {A : Type 0} (f : ℕ → List A) where
  pub upto_more : (n : ℕ) → upto f (n + 1) ≡ upto f n ++ f n
  unfolding upto
  upto_more n = rw add-one

  -- Each part at most m long.
  pub upto_below : (m n : ℕ) → ((k : ℕ) → k < n → length (f k) ≤ m) → length (upto f n) ≤ m * n
  unfolding upto
  upto_below m zero h = zero-le
  upto_below m (suc n) h =
      rw (length-append, mul-suc) (omega (arith, upto_below m n (λ k l. h k (omega arith)), h n (omega arith)))

  -- The first part before the others.
  pub upto_first : (n : ℕ) → upto f (suc n) ≡ f zero ++ upto (λ k. f (suc k)) n
  unfolding upto
  upto_first zero = sym (append-nil (f zero))
  upto_first (suc n) = ap (λ (l : List A). l ++ f (suc n)) (upto_first n) ∙ append_assoc (f zero) (upto (λ k. f (suc k)) n) (f (suc n))

pub upto_same : {A : Type 0} (f g : ℕ → List A) (n : ℕ) → ((k : ℕ) → k < n → f k ≡ g k) → upto f n ≡ upto g n
unfolding upto
upto_same f g zero h = refl
upto_same {A} f g (suc n) h =
    ap₂ (λ (xs ys : List A). xs ++ ys) (upto_same f g n (λ k l. h k (omega arith))) (h n (omega arith))

pub concat_append : {A : Type 0} (xs ys : List (List A)) → concat (xs ++ ys) ≡ concat xs ++ concat ys
unfolding concat
concat_append [] ys = refl
concat_append {A} (x ∷ xs) ys = ap (λ (l : List A). x ++ l) (concat_append xs ys) ∙ sym (append_assoc x (concat xs) (concat ys))

pub concat_rows : {A : Type 0} (f : ℕ → List A) (n : ℕ) → concat (rows f n) ≡ upto f n
unfolding concat rows upto
concat_rows f zero = refl
concat_rows {A} f (suc n) = concat_append (rows f n) (f n ∷ []) ∙ ap₂ (λ (xs ys : List A). xs ++ ys) (concat_rows f n) (append-nil (f n))

-- ---- the parts of a set's facts

module _ (g : ℕ → List ℕ) (s : ℕ) where
  abbrev part : ℕ → List ℕ
  part k = cond (has s k) (g k) []

  members_from_lem : (n k : ℕ) → concat (map g (members_from n k s)) ≡ upto (λ j. part (k + j)) n
  unfolding concat members_from upto
  members_from_lem zero k = refl
  members_from_lem (suc n) k =
      first (has s k) (members_from n (suc k) s)
      ∙ ap (λ (l : List ℕ). part k ++ l) (members_from_lem n (suc k))
      ∙ ap₂ (λ (x y : List ℕ). x ++ y) (ap part (sym (add-zero k)))
      (upto_same (λ j. part (suc k + j)) (λ j. part (k + suc j)) n (λ j _. ap part (omega arith)))
      ∙ sym (upto_first (λ j. part (k + j)) n)
    where
      first : (b : Bool) (l : List ℕ) → concat (map g (cond b (k ∷ l) l)) ≡ cond b (g k) [] ++ concat (map g l)
      first true l = refl
      first false l = refl

pub concat_members : (g : ℕ → List ℕ) (n s : ℕ)
    → concat (map g (members_of n s)) ≡ upto (λ k. cond (has s k) (g k) []) n
unfolding members_of
concat_members g n s =
    members_from_lem g s n 0
    ∙ upto_same (λ k. part g s (0 + k)) (part g s) n (λ k _. ap (part g s) (zero-add k))
