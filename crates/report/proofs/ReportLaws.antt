-- A line of words is its first word, a space and a word again and again, and the line feed.
use Prim.Native.Nat.{ℕ}
use mathlib.Core.Path.{◌≡◌}
use mathlib.Core.List.{List, [], ◌∷◌, ◌++◌, append_assoc}
use Rattle.basics.specs.Texts.{line}

spaced : (s a x y n : List ℕ) → a ++ (s ++ (x ++ (s ++ (y ++ n)))) ≡ a ++ (s ++ x) ++ (s ++ y) ++ n
spaced s a x y n = simp append_assoc

pub three_words : (a x y : List ℕ) → line (a ∷ x ∷ y ∷ []) ≡ a ++ (32 ∷ x) ++ (32 ∷ y) ++ (10 ∷ [])
three_words a x y = spaced (32 ∷ []) a x y (10 ∷ [])

spaced_more : (s a x y z n : List ℕ) → a ++ (s ++ (x ++ (s ++ (y ++ (s ++ (z ++ n)))))) ≡ a ++ (s ++ x) ++ (s ++ y) ++ (s ++ z) ++ n
spaced_more s a x y z n = simp append_assoc

pub four_words : (a x y z : List ℕ) → line (a ∷ x ∷ y ∷ z ∷ []) ≡ a ++ (32 ∷ x) ++ (32 ∷ y) ++ (32 ∷ z) ++ (10 ∷ [])
four_words a x y z = spaced_more (32 ∷ []) a x y z (10 ∷ [])
