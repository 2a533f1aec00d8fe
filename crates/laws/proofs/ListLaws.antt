-- Laws of lists made from a number, and of what a list has at a place.
use mathlib.Core.Path.{◌≡◌, refl, ap, ap₂, sym, ◌∙◌}
use mathlib.Core.List.{List, [], ◌∷◌, ◌++◌, map, append-nil, append_assoc, map-append}
use mathlib.Core.Bool.{Bool, true, false, cond}
use mathlib.Core.Logic.{⊎_elim}
use Prim.Native.Nat.{ℕ, zero, suc, ◌+◌, ◌*◌, ◌≤◌, ◌<◌}
use native.Mathlib.Nat.{eq-or-lt_of_le, add-zero, add-suc, mul-suc}
use native.Mathlib.Numerals.{add-one}
use native.Mathlib.Omega.{arith}
use lib.ListN.{length, get_or, length-append, get_or-append}
use lib.Seq.{get_or_at, get_or-append-add}
use Rattle.basics.specs.Lists.{rows, upto, sum_to}

-- Where there is something, it does not matter what is told where there is nothing.
pub there : {A : Type 0} (xs : List A) (k : ℕ) (d e : A) → k < length xs → get_or xs k d ≡ get_or xs k e
there [] k d e h = absurd (omega arith)
there (x ∷ xs) zero d e h = refl
there (x ∷ xs) (suc k) d e h = there xs k d e (omega arith)

module _ {A : Type 0} (f : ℕ → A) where
  pub rows_length : (n : ℕ) → length (rows f n) ≡ n
  unfolding rows
  rows_length zero = refl
  rows_length (suc n) = length-append (rows f n) (f n ∷ []) ∙ omega (arith, rows_length n)

  pub rows_at : (d : A) (n k : ℕ) → k < n → get_or (rows f n) k d ≡ f k
  unfolding rows
  rows_at d zero k l = absurd (omega arith)
  rows_at d (suc n) k l =
      ⊎_elim
      (λ z. get_or_at (rows f n) (f n) [] d k (rows_length n ∙ sym z) ∙ ap f (sym z))
      (λ m. get_or-append (rows f n) (f n ∷ []) d k (omega (arith, rows_length n)) ∙ rows_at d n k m)
      (eq-or-lt_of_le {n = k} {m = n} (omega arith))

-- Rows that agree.
pub rows_same : {A : Type 0} (f g : ℕ → A) (n : ℕ) → ((k : ℕ) → k < n → f k ≡ g k) → rows f n ≡ rows g n
unfolding rows
rows_same f g zero h = refl
rows_same {A} f g (suc n) h =
    ap₂ (λ (xs : List A) (x : A). xs ++ (x ∷ [])) (rows_same f g n (λ k l. h k (omega arith))) (h n (omega arith))

-- A map of rows, of a map, of one of two.
pub map_rows : {A B : Type 0} (g : A → B) (f : ℕ → A) (n : ℕ) → map g (rows f n) ≡ rows (λ k. g (f k)) n
unfolding rows
map_rows g f zero = refl
map_rows {B = B} g f (suc n) = map-append g (rows f n) (f n ∷ []) ∙ ap (λ (xs : List B). xs ++ (g (f n) ∷ [])) (map_rows g f n)

pub map_map : {A B C : Type 0} (g : B → C) (f : A → B) (xs : List A) → map g (map f xs) ≡ map (λ x. g (f x)) xs
map_map g f [] = refl
map_map g f (x ∷ xs) = ap (λ l. g (f x) ∷ l) (map_map g f xs)

pub map_cond : {A B : Type 0} (g : A → B) (c : Bool) (xs ys : List A) → map g (cond c xs ys) ≡ cond c (map g xs) (map g ys)
map_cond g true xs ys = refl
map_cond g false xs ys = refl

pub upto_length : {A : Type 0} (f : ℕ → List A) (n : ℕ) → length (upto f n) ≡ sum_to (λ k. length (f k)) n
unfolding upto sum_to
upto_length f zero = refl
upto_length f (suc n) = length-append (upto f n) (f n) ∙ ap (λ (m : ℕ). m + length (f n)) (upto_length f n)

-- One row of lists after another.
pub upto_split : {A : Type 0} (f : ℕ → List A) (m n : ℕ) → upto f (m + n) ≡ upto f m ++ upto (λ k. f (m + k)) n
unfolding upto
upto_split f m zero = rw add-zero (sym (append-nil (upto f m)))
upto_split {A} f m (suc n) =
    rw add-suc
    (ap (λ (xs : List A). xs ++ f (m + n)) (upto_split f m n) ∙ append_assoc (upto f m) (upto (λ k. f (m + k)) n) (f (m + n)))

-- Sums that agree, a sum with one more part, and one of equal parts.
pub sum_same : (f g : ℕ → ℕ) (n : ℕ) → ((k : ℕ) → k < n → f k ≡ g k) → sum_to f n ≡ sum_to g n
unfolding sum_to
sum_same f g zero h = refl
sum_same f g (suc n) h = ap₂ ◌+◌ (sum_same f g n (λ k l. h k (omega arith))) (h n (omega arith))

pub sum_more : (f : ℕ → ℕ) (n : ℕ) → sum_to f (n + 1) ≡ sum_to f n + f n
unfolding sum_to
sum_more f n = rw add-one

pub sum_even : (b n : ℕ) → sum_to (λ _. b) n ≡ b * n
unfolding sum_to
sum_even b zero = omega arith
sum_even b (suc n) = ap (λ (m : ℕ). m + b) (sum_even b n) ∙ sym (mul-suc b n)

pub sum_most : (f : ℕ → ℕ) (b : ℕ) → ((k : ℕ) → f k ≤ b) → (n : ℕ) → sum_to f n ≤ b * n
unfolding sum_to
sum_most f b h zero = omega arith
sum_most f b h (suc n) = rw mul-suc (omega (arith, sum_most f b h n, h n))

pub sum_split : (f : ℕ → ℕ) (m n : ℕ) → sum_to f (m + n) ≡ sum_to f m + sum_to (λ k. f (m + k)) n
unfolding sum_to
sum_split f m zero = rw add-zero (omega arith)
sum_split f m (suc n) = rw add-suc (omega (arith, sum_split f m n))

-- A part, and all before it, is within the sum.
pub sum_part : (f : ℕ → ℕ) (n i : ℕ) → i < n → sum_to f i + f i ≤ sum_to f n
unfolding sum_to
sum_part f zero i l = absurd (omega arith)
sum_part f (suc n) i l =
    ⊎_elim
    (λ z. rw z (omega arith))
    (λ m. omega (arith, sum_part f n i m))
    (eq-or-lt_of_le {n = i} {m = n} (omega arith))

-- What stands at place p of the list i, behind all lists before it.
pub upto_at : {A : Type 0} (f : ℕ → List A) (d : A) (n i p : ℕ) → i < n → p < length (f i)
    → get_or (upto f n) (sum_to (λ k. length (f k)) i + p) d ≡ get_or (f i) p d
unfolding upto
upto_at f d zero i p l h = absurd (omega arith)
upto_at f d (suc n) i p l h =
    ⊎_elim
    (λ z. rw z
    (ap (λ (m : ℕ). get_or (upto f n ++ f n) (m + p) d) (sym (upto_length f n)) ∙ get_or-append-add (upto f n) (f n) p d))
    (λ m. get_or-append (upto f n) (f n) d _ (omega (arith, upto_length f n, sum_part (λ k. length (f k)) n i m))
    ∙ upto_at f d n i p m h)
    (eq-or-lt_of_le {n = i} {m = n} (omega arith))
