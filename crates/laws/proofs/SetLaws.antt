-- Any Boolean identity of fact sets, by one test that antt computes.
use mathlib.Core.Path.{◌≡◌, refl, sym, ap, ap₂, ◌∙◌, subst}
use mathlib.Core.Bool.{Bool, true, false, not, ◌&&◌, ◌||◌, beq}
use mathlib.Core.List.{List, [], ◌∷◌, map}
use Prim.Native.Nat.{ℕ, zero, suc, ◌+◌, ◌*◌, ◌/◌, ◌%◌, ◌^◌, ◌<◌}
use native.Mathlib.Nat.{
  div-add-mod',
  div-div-eq-div-mul,
  div-one,
  le_of_suc-le-suc,
  mod-lt,
  mul_comm,
  not-suc-le-zero,
  pow-suc,
  zero-lt-suc,
}
use lib.Arith.{bin_ind}
use lib.Dec.{T, eqb}
use lib.Bits.{bit_and, bit_or, bit_xor, and_shr, or_shr, xor_shr, and_mod, or_mod, xor_mod}
use Rattle.rules.specs.Facts.{is_set, has, without}
use Rattle.laws.proofs.TestLaws.{and_l, and_r}

-- ---- one digit

two_pos : zero < 2
two_pos = zero-lt-suc 1

abbrev odd : Bool → Bool → Bool
odd true b = not b
odd false b = b

-- what holds of the four pairs of digits holds of every pair
digit : (P : ℕ → ℕ → Type 0) → P 0 0 → P 0 1 → P 1 0 → P 1 1 → (x y : ℕ) → x < 2 → y < 2 → P x y
digit P a b c d zero zero hx hy = a
digit P a b c d zero (suc zero) hx hy = b
digit P a b c d zero (suc (suc y)) hx hy = absurd (not-suc-le-zero (le_of_suc-le-suc (le_of_suc-le-suc hy)))
digit P a b c d (suc zero) zero hx hy = c
digit P a b c d (suc zero) (suc zero) hx hy = d
digit P a b c d (suc zero) (suc (suc y)) hx hy = absurd (not-suc-le-zero (le_of_suc-le-suc (le_of_suc-le-suc hy)))
digit P a b c d (suc (suc x)) y hx hy = absurd (not-suc-le-zero (le_of_suc-le-suc (le_of_suc-le-suc hx)))

-- an operation that goes digit by digit, and does o to each pair of digits, does o to membership
module _ (op : ℕ → ℕ → ℕ) (o : Bool → Bool → Bool)
    (half : (a b : ℕ) → op a b / 2 ≡ op (a / 2) (b / 2))
    (low : (a b : ℕ) → op a b % 2 ≡ op (a % 2) (b % 2))
    (small : (x y : ℕ) → x < 2 → y < 2 → is_set (op x y) ≡ o (is_set x) (is_set y)) where
  has_op : (a b k : ℕ) → has (op a b) k ≡ o (has a k) (has b k)
  unfolding has
  has_op a b zero = ap is_set (low a b) ∙ small (a % 2) (b % 2) (mod-lt a two_pos) (mod-lt b two_pos)
  has_op a b (suc k) = ap (λ (n : ℕ). has n k) (half a b) ∙ has_op (a / 2) (b / 2) k

pub has_and : (a b k : ℕ) → has (bit_and a b) k ≡ (has a k && has b k)
has_and = has_op bit_and ◌&&◌ (λ a b. and_shr a b 1) (λ a b. and_mod a b 1)
    (digit (λ x y. is_set (bit_and x y) ≡ (is_set x && is_set y)) refl refl refl refl)

pub has_or : (a b k : ℕ) → has (bit_or a b) k ≡ (has a k || has b k)
has_or = has_op bit_or ◌||◌ (λ a b. or_shr a b 1) (λ a b. or_mod a b 1)
    (digit (λ x y. is_set (bit_or x y) ≡ (is_set x || is_set y)) refl refl refl refl)

pub has_xor : (a b k : ℕ) → has (bit_xor a b) k ≡ odd (has a k) (has b k)
has_xor = has_op bit_xor odd (λ a b. xor_shr a b 1) (λ a b. xor_mod a b 1)
    (digit (λ x y. is_set (bit_xor x y) ≡ odd (is_set x) (is_set y)) refl refl refl refl)

pub has_zero : (k : ℕ) → has zero k ≡ false
unfolding has
has_zero zero = refl
has_zero (suc k) = has_zero k

half : (n i : ℕ) → n / 2 ^ suc i ≡ n / 2 / 2 ^ i
half n i = ap (λ (p : ℕ). n / p) (pow-suc 2 i ∙ mul_comm (2 ^ i) 2) ∙ sym (div-div-eq-div-mul n 2 (2 ^ i))

-- the code's test: the bit k, shifted down
pub has_bit : (s k : ℕ) → has s k ≡ eqb (s / 2 ^ k % 2) 1
unfolding has
has_bit s zero = rw div-one (low (s % 2) (mod-lt s two_pos))
  where
    low : (x : ℕ) → x < 2 → is_set x ≡ eqb x 1
    low x h = digit (λ a b. is_set a ≡ eqb a 1) refl refl refl refl x x h h
has_bit s (suc k) = rw half (has_bit (s / 2) k)

abbrev less : Bool → Bool → Bool
less a b = a && not b

odd_and : (a b : Bool) → odd a (a && b) ≡ less a b
odd_and true b = refl
odd_and false b = refl

pub has_without : (a b k : ℕ) → has (without a b) k ≡ less (has a k) (has b k)
unfolding without
has_without a b k = has_xor a (bit_and a b) k ∙ ap (odd (has a k)) (has_and a b k) ∙ odd_and (has a k) (has b k)

-- ---- two sets with the same facts are equal

same_digit : (x y : ℕ) → x < 2 → y < 2 → is_set x ≡ is_set y → x ≡ y
same_digit = digit (λ x y. is_set x ≡ is_set y → x ≡ y) (λ e. refl) (λ e. absurd (subst T (sym e) tt)) (λ e. absurd (subst T e tt)) (λ e. refl)

pub ext : (a b : ℕ) → ((k : ℕ) → has a k ≡ has b k) → a ≡ b
unfolding has
ext a =
    bin_ind (λ (n : ℕ). (b : ℕ) → ((k : ℕ) → has n k ≡ has b k) → n ≡ b)
    (λ b h. sym (none b (λ k. sym (h k) ∙ has_zero k)))
    (λ n ih b h. whole n b (ih (b / 2) (λ k. h (suc k))) (h zero)) a
  where
    whole : (n b : ℕ) → n / 2 ≡ b / 2 → is_set (n % 2) ≡ is_set (b % 2) → n ≡ b
    whole n b e s =
        sym (div-add-mod' n 2)
        ∙ ap₂ (λ (x y : ℕ). x * 2 + y) e (same_digit (n % 2) (b % 2) (mod-lt n two_pos) (mod-lt b two_pos) s)
        ∙ div-add-mod' b 2

    none : (b : ℕ) → ((k : ℕ) → has b k ≡ false) → b ≡ zero
    none =
        bin_ind (λ (n : ℕ). ((k : ℕ) → has n k ≡ false) → n ≡ zero) (λ h. refl)
        (λ n ih h. whole n zero (ih (λ k. h (suc k))) (h zero))

-- ---- any identity: a term of the two operations over variables, its sets and its truth values

pub data Set : Type 0 where
  var : ℕ → Set
  ∅ : Set
  ◌∩◌ ◌∪◌ ◌∖◌ : Set → Set → Set

infixl 70 ◌∩◌
infixl 60 ◌∪◌
infixl 65 ◌∖◌
abbrev pub pick {ℓ} : {A : Type ℓ} → A → List A → ℕ → A
pick d [] n = d
pick d (x ∷ xs) zero = x
pick d (x ∷ xs) (suc n) = pick d xs n

abbrev pub sets : List ℕ → Set → ℕ
sets ρ (var i) = pick zero ρ i
sets ρ ∅ = zero
sets ρ (s ∩ t) = bit_and (sets ρ s) (sets ρ t)
sets ρ (s ∪ t) = bit_or (sets ρ s) (sets ρ t)
sets ρ (s ∖ t) = without (sets ρ s) (sets ρ t)

abbrev pub truth : List Bool → Set → Bool
truth ρ (var i) = pick false ρ i
truth ρ ∅ = false
truth ρ (s ∩ t) = truth ρ s && truth ρ t
truth ρ (s ∪ t) = truth ρ s || truth ρ t
truth ρ (s ∖ t) = less (truth ρ s) (truth ρ t)

abbrev row : ℕ → List ℕ → List Bool
row k = map (λ m. has m k)

has_pick : (k : ℕ) (ρ : List ℕ) (i : ℕ) → has (pick zero ρ i) k ≡ pick false (row k ρ) i
has_pick k [] i = has_zero k
has_pick k (x ∷ xs) zero = refl
has_pick k (x ∷ xs) (suc i) = has_pick k xs i

pub has_sets : (k : ℕ) (ρ : List ℕ) (s : Set) → has (sets ρ s) k ≡ truth (row k ρ) s
has_sets k ρ (var i) = has_pick k ρ i
has_sets k ρ ∅ = has_zero k
has_sets k ρ (s ∩ t) = has_and (sets ρ s) (sets ρ t) k ∙ ap₂ ◌&&◌ (has_sets k ρ s) (has_sets k ρ t)
has_sets k ρ (s ∪ t) = has_or (sets ρ s) (sets ρ t) k ∙ ap₂ ◌||◌ (has_sets k ρ s) (has_sets k ρ t)
has_sets k ρ (s ∖ t) = has_without (sets ρ s) (sets ρ t) k ∙ ap₂ less (has_sets k ρ s) (has_sets k ρ t)

-- the test passes at every row of as many truth values as the list has
abbrev pub always : List ℕ → (List Bool → Bool) → Bool
always [] p = p []
always (x ∷ xs) p = always xs (λ r. p (true ∷ r)) && always xs (λ r. p (false ∷ r))

always_at : (ρ : List ℕ) (p : List Bool → Bool) → T (always ρ p) → (k : ℕ) → T (p (row k ρ))
always_at [] p t k = t
always_at (x ∷ xs) p t k =
    at (has x k)
    (always_at xs (λ r. p (true ∷ r)) (and_l (always xs (λ r. p (true ∷ r))) (always xs (λ r. p (false ∷ r))) t) k)
    (always_at xs (λ r. p (false ∷ r)) (and_r (always xs (λ r. p (true ∷ r))) (always xs (λ r. p (false ∷ r))) t) k)
  where
    at : (b : Bool) → T (p (true ∷ row k xs)) → T (p (false ∷ row k xs)) → T (p (b ∷ row k xs))
    at true y n = y
    at false y n = n

-- where h has no fact, s and t agree
abbrev pub agree : Set → Set → Set → List Bool → Bool
agree h s t r = truth r h || beq (truth r s) (truth r t)

beq_eq : (h a b : Bool) → T (h || beq a b) → h ≡ false → a ≡ b
beq_eq true a b t e = absurd (subst T e tt)
beq_eq false true true t e = refl
beq_eq false true false t e = absurd t
beq_eq false false true t e = absurd t
beq_eq false false false t e = refl

-- If the table of truth values passes, the sets are equal wherever the set h is empty: `under h s t ρ tt e`
pub under : (h s t : Set) (ρ : List ℕ) → T (always ρ (agree h s t)) → sets ρ h ≡ zero → sets ρ s ≡ sets ρ t
under h s t ρ c e =
    ext (sets ρ s) (sets ρ t)
    (λ k. has_sets k ρ s
    ∙ beq_eq (truth (row k ρ) h) (truth (row k ρ) s) (truth (row k ρ) t) (always_at ρ (agree h s t) c k)
    (sym (has_sets k ρ h) ∙ ap (λ (n : ℕ). has n k) e ∙ has_zero k)
    ∙ sym (has_sets k ρ t))

pub solve : (s t : Set) (ρ : List ℕ) → T (always ρ (agree ∅ s t)) → sets ρ s ≡ sets ρ t
solve s t ρ c = under ∅ s t ρ c refl
