-- Laws of lists whose members all are as they should be, of numbers that are not in a list, and of numbers that rise.
use Prim.Native.Nat.{ℕ, zero, suc, ◌+◌, ◌≤◌, ◌<◌}
use mathlib.Core.Path.{◌≡◌, refl}
use mathlib.Core.Bool.{Bool, true, false, not, cond}
use mathlib.Core.List.{List, [], ◌∷◌, ◌++◌, map, Memᴰ}
use native.Mathlib.Omega.{arith}
use borrow.Author.Tests.{ne_eqb}
use lib.Dec.{T}
use lib.ListN.{get_or}
use Rattle.basics.specs.Lists.{rows}
use Rattle.version3.specs.Order.{Each, Rising, member, Fresh}

-- ---- each of a list

pub each_append : {A : Type 0} (P : A → Type 0) (xs ys : List A) → Each P xs → Each P ys → Each P (xs ++ ys)
each_append P [] ys h k = k
each_append P (x ∷ xs) ys h k = (h.0, each_append P xs ys h.1 k)

pub each_rows : {A : Type 0} (P : A → Type 0) (f : ℕ → A) (n : ℕ) → ((k : ℕ) → k < n → P (f k)) → Each P (rows f n)
unfolding rows
each_rows P f zero h = tt
each_rows P f (suc n) h = each_append P (rows f n) (f n ∷ []) (each_rows P f n (λ k l. h k (omega arith))) (h n (omega arith), tt)

pub each_map : {A B : Type 0} (P : B → Type 0) (g : A → B) (xs : List A) → Each (λ x. P (g x)) xs → Each P (map g xs)
each_map P g [] h = tt
each_map P g (x ∷ xs) h = (h.0, each_map P g xs h.1)

pub each_cond : {A : Type 0} (P : A → Type 0) (c : Bool) (xs ys : List A) → (c ≡ true → Each P xs) → (c ≡ false → Each P ys) → Each P (cond c xs ys)
each_cond P true xs ys h k = h refl
each_cond P false xs ys h k = k refl

pub each_as : {A : Type 0} (P Q : A → Type 0) → ((x : A) → P x → Q x) → (xs : List A) → Each P xs → Each Q xs
each_as P Q f [] h = tt
each_as P Q f (x ∷ xs) h = (f x h.0, each_as P Q f xs h.1)

pub each_of : {A : Type 0} (P : A → Type 0) (xs : List A) → ((x : A) → Memᴰ x xs → P x) → Each P xs
each_of P [] h = tt
each_of P (x ∷ xs) h = (h x (Memᴰ.head refl), each_of P xs (λ y m. h y (Memᴰ.tail m)))

pub each_at : {A : Type 0} (P : A → Type 0) (xs : List A) (d : A) → Each P xs → P d → (k : ℕ) → P (get_or xs k d)
each_at P [] d h p k = p
each_at P (x ∷ xs) d h p zero = h.0
each_at P (x ∷ xs) d h p (suc k) = each_at P xs d h.1 p k

-- ---- a number that is not there

abbrev pub Out : List ℕ → ℕ → Type 0
Out ws v = T (not (member v ws))

out_cons : (v w : ℕ) (ws : List ℕ) → (v ≡ w → ⊥) → Out ws v → Out (w ∷ ws) v
out_cons v w ws h k = rw (ne_eqb v w h) k

pub out_each : (v : ℕ) (ws : List ℕ) → Each (λ w. v ≡ w → ⊥) ws → Out ws v
out_each v [] h = tt
out_each v (w ∷ ws) h = out_cons v w ws h.0 (out_each v ws h.1)

-- ---- numbers that rise

-- What rises is not there twice.
pub rising_fresh : (used ws : List ℕ) → Rising ws → Each (Out used) ws → Fresh used ws
rising_fresh used [] r h = tt
rising_fresh used (w ∷ ws) r h = (h.0, rising_fresh (w ∷ used) ws r.1 (above ws r.0 h.1))
  where
    above : (vs : List ℕ) → Each (λ v. w < v) vs → Each (Out used) vs → Each (Out (w ∷ used)) vs
    above [] l h = tt
    above (v ∷ vs) l h = (out_cons v w used (λ e. omega (arith, l.0)) h.0, above vs l.1 h.1)

pub rising_once : (ws : List ℕ) → Rising ws → Fresh [] ws
rising_once ws r = rising_fresh [] ws r (each_of (Out []) ws (λ w m. tt))

-- Things with a number each: from lo on, each above the one before, all below hi.
abbrev pub Climb : {A : Type 0} → (A → ℕ) → ℕ → ℕ → List A → Type 0
Climb g lo hi [] = lo ≤ hi
Climb g lo hi (x ∷ xs) = (lo ≤ g x) × Climb g (suc (g x)) hi xs

module _ {A : Type 0} (g : A → ℕ) where
  pub climb_low : (k lo hi : ℕ) (xs : List A) → k ≤ lo → Climb g lo hi xs → Climb g k hi xs
  climb_low k lo hi [] l h = omega arith
  climb_low k lo hi (x ∷ xs) l h = (omega (arith, h.0), h.1)

  pub climb_append : (lo m hi : ℕ) (xs ys : List A) → Climb g lo m xs → Climb g m hi ys → Climb g lo hi (xs ++ ys)
  climb_append lo m hi [] ys h k = climb_low lo m hi ys h k
  climb_append lo m hi (x ∷ xs) ys h k = (h.0, climb_append (suc (g x)) m hi xs ys h.1 k)

  pub climb_cond : (lo hi : ℕ) (c : Bool) (xs ys : List A) → Climb g lo hi xs → Climb g lo hi ys → Climb g lo hi (cond c xs ys)
  climb_cond lo hi true xs ys h k = h
  climb_cond lo hi false xs ys h k = k

  pub climb_rows : (f : ℕ → A) (lo : ℕ) → ((k : ℕ) → g (f k) ≡ lo + k) → (n : ℕ) → Climb g lo (lo + n) (rows f n)
  unfolding rows
  climb_rows f lo e zero = omega arith
  climb_rows f lo e (suc n) =
      climb_append lo (lo + n) (lo + suc n) (rows f n) (f n ∷ []) (climb_rows f lo e n) (omega (arith, e n), omega (arith, e n))

  climb_above : (lo hi : ℕ) (xs : List A) → Climb g lo hi xs → Each (λ w. lo ≤ w) (map g xs)
  climb_above lo hi [] h = tt
  climb_above lo hi (x ∷ xs) h =
      (h.0, each_as (λ w. suc (g x) ≤ w) (λ w. lo ≤ w) (λ w l. omega (arith, h.0)) (map g xs) (climb_above (suc (g x)) hi xs h.1))

  pub climb_rising : (lo hi : ℕ) (xs : List A) → Climb g lo hi xs → Rising (map g xs)
  climb_rising lo hi [] h = tt
  climb_rising lo hi (x ∷ xs) h = (climb_above (suc (g x)) hi xs h.1, climb_rising (suc (g x)) hi xs h.1)
