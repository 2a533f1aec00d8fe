-- Lists after stores: what is held, and what is kept.
use mathlib.Core.Path.{◌≡◌, ap, sym, ◌∙◌}
use mathlib.Core.List.{List, ◌++◌, append_assoc}
use Prim.Native.Nat.{ℕ, ◌+◌, ◌≤◌, ◌<◌}
use native.Mathlib.Omega.{arith}
use lib.ListN.{length, get_or, take, drop, get_or-append}
use lib.Seq.{take-take, sets, sets-eq, length-take-le, take_at, get_or-append-add, get_or-take}

-- A run of stores from b on: all of it, what is held there, and what is kept before.
module _ (w vs : List ℕ) (b : ℕ) (h : b + length vs ≤ length w) where
  pub stored : sets w b vs ≡ take b w ++ (vs ++ drop (b + length vs) w)
  stored = sets-eq vs w b h ∙ append_assoc (take b w) vs (drop (b + length vs) w)

  pub held : (i : ℕ) → i < length vs → get_or (sets w b vs) (b + i) 0 ≡ get_or vs i 0
  held i k =
      let t : length (take b w) ≡ b = length-take-le b w (omega arith) in
      ap (λ (l : List ℕ). get_or l (b + i) 0) stored
      ∙ ap (λ (n : ℕ). get_or (take b w ++ (vs ++ drop (b + length vs) w)) (n + i) 0) (sym t)
      ∙ get_or-append-add (take b w) (vs ++ drop (b + length vs) w) i 0
      ∙ get_or-append vs (drop (b + length vs) w) 0 i k

  pub kept : take b (sets w b vs) ≡ take b w
  kept =
      ap (take b) stored
      ∙ take_at (take b w) (vs ++ drop (b + length vs) w) b (length-take-le b w (omega arith))

-- What stands below b is kept.
pub below : (w w' : List ℕ) (b : ℕ) → take b w' ≡ take b w → (i : ℕ) → i < b → get_or w' i 0 ≡ get_or w i 0
below w w' b q i l = sym (get_or-take b w' i 0 l) ∙ ap (λ (x : List ℕ). get_or x i 0) q ∙ get_or-take b w i 0 l

-- Less is kept where more is.
pub kept_less : (w w' : List ℕ) (a b : ℕ) → a ≤ b → take b w' ≡ take b w → take a w' ≡ take a w
kept_less w w' a b l q = sym (take-take a b w' l) ∙ ap (take a) q ∙ take-take a b w l
