-- Laws of membership: lists without duplicates and with the same members are equally long; lists that rise.
use Prim.Native.Nat.{suc, ◌≤◌}
use mathlib.Core.Path.{◌≡◌, refl, sym, ap, subst, ◌∙◌}
use mathlib.Core.Logic.{◌⊎◌, inl, inr}
use mathlib.Core.List.{List, [], ◌∷◌, ◌++◌, map}
use native.Mathlib.Omega.{arith}
use lib.ListN.{length}
use Rattle.basics.specs.Lists.{Among, Distinct}

module _ {A : Type 0} where
  pub same_among : {x y : A} (zs : List A) → x ≡ y → Among y zs → Among x zs
  same_among zs e m = subst (λ (a : A). Among a zs) (sym e) m

  -- A member taken out.
  abbrev cut : (x : A) (ys : List A) → Among x ys → List A
  cut x [] m = []
  cut x (y ∷ ys) (inl e) = ys
  cut x (y ∷ ys) (inr m) = y ∷ cut x ys m

  cut_length : (x : A) (ys : List A) (m : Among x ys) → suc (length (cut x ys m)) ≡ length ys
  cut_length x [] m = absurd m
  cut_length x (y ∷ ys) (inl e) = refl
  cut_length x (y ∷ ys) (inr m) = ap suc (cut_length x ys m)

  cut_among : (x z : A) (ys : List A) (m : Among x ys) → (z ≡ x → ⊥) → Among z ys → Among z (cut x ys m)
  cut_among x z [] m other k = k
  cut_among x z (y ∷ ys) (inl e) other (inl d) = absurd (other (d ∙ sym e))
  cut_among x z (y ∷ ys) (inl e) other (inr k) = k
  cut_among x z (y ∷ ys) (inr m) other (inl d) = inl d
  cut_among x z (y ∷ ys) (inr m) other (inr k) = inr (cut_among x z ys m other k)

  -- What has no member twice is no longer than what has them all.
  pub no_longer : (xs ys : List A) → Distinct xs → ((x : A) → Among x xs → Among x ys) → length xs ≤ length ys
  no_longer [] ys d h = omega arith
  no_longer (x ∷ xs) ys d h =
      let m = h x (inl refl) in
      let q = no_longer xs (cut x ys m) d.1 (λ z k. cut_among x z ys m (λ e. d.0 (same_among xs (sym e) k)) (h z (inr k))) in
      omega (arith, cut_length x ys m, q)

  pub among_left : (x : A) (xs ys : List A) → Among x xs → Among x (xs ++ ys)
  among_left x [] ys m = absurd m
  among_left x (y ∷ xs) ys (inl e) = inl e
  among_left x (y ∷ xs) ys (inr m) = inr (among_left x xs ys m)

  pub among_right : (x : A) (xs ys : List A) → Among x ys → Among x (xs ++ ys)
  among_right x [] ys m = m
  among_right x (y ∷ xs) ys m = inr (among_right x xs ys m)

  pub among_append : (x : A) (xs ys : List A) → Among x (xs ++ ys) → Among x xs ⊎ Among x ys
  among_append x [] ys m = inr m
  among_append x (y ∷ xs) ys (inl e) = inl (inl e)
  among_append x (y ∷ xs) ys (inr m) = go (among_append x xs ys m)
    where
      go : Among x xs ⊎ Among x ys → Among x (y ∷ xs) ⊎ Among x ys
      go (inl k) = inl (inr k)
      go (inr k) = inr k

  -- Each member stands in a relation to all that come after it.
  abbrev pub Rising : (A → A → Type 0) → List A → Type 0
  Rising R [] = Unit {0}
  Rising R (x ∷ xs) = ((y : A) → Among y xs → R x y) × Rising R xs

  pub rising_append : (R : A → A → Type 0) (xs ys : List A) → Rising R xs → Rising R ys
      → ((x y : A) → Among x xs → Among y ys → R x y)
      → Rising R (xs ++ ys)
  rising_append R [] ys r q h = q
  rising_append R (x ∷ xs) ys r q h = (
    (λ y m. go y (among_append y xs ys m)),
    rising_append R xs ys r.1 q (λ a b m n. h a b (inr m) n),
  )
    where
      go : (y : A) → Among y xs ⊎ Among y ys → R x y
      go y (inl m) = r.0 y m
      go y (inr m) = h x y (inl refl) m

module _ {A B : Type 0} (g : A → B) where
  pub among_map : (x : A) (xs : List A) → Among x xs → Among (g x) (map g xs)
  among_map x [] m = m
  among_map x (y ∷ xs) (inl e) = inl (ap g e)
  among_map x (y ∷ xs) (inr m) = inr (among_map x xs m)

  pub map_among : (y : B) (xs : List A) → Among y (map g xs) → (x : A) × (y ≡ g x) × Among x xs
  map_among y [] m = absurd m
  map_among y (x ∷ xs) (inl e) = (x, e, inl refl)
  map_among y (x ∷ xs) (inr m) = let q = map_among y xs m in (q.0, q.1, inr q.2)

  pub rising_map : (R : B → B → Type 0) (Q : A → A → Type 0) → ((x y : A) → Q x y → R (g x) (g y)) → (xs : List A)
      → Rising Q xs
      → Rising R (map g xs)
  rising_map R Q h [] r = tt
  rising_map R Q h (x ∷ xs) r = (
    (λ y m. let q = map_among y xs m in subst (λ (b : B). R (g x) b) (sym q.1) (h x q.0 (r.0 q.0 q.2))),
    rising_map R Q h xs r.1,
  )
