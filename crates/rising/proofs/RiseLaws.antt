-- A turn of the loop over a method's subtasks.
use Prim.Native.Nat.{ℕ, suc, ◌+◌, ◌-◌, ◌≤◌, ◌<◌, max}
use mathlib.Core.Path.{◌≡◌, ap, ap₂, ◌∙◌}
use mathlib.Core.List.{List}
use native.Mathlib.Omega.{arith}
use native.Mathlib.Numerals.{add-one}
use lib.ListN.{length, get_or, drop, drop_of_length-le, length-drop}
use lib.Seq.{drop-cons}
use Rattle.rules.specs.LeastBounds.{unknown, bound_of, rise}
use Rattle.laws.proofs.ListLaws.{there}

max_first : (a b r m x : ℕ) → m ≡ max b r → max a m ≡ x → max (max a b) r ≡ x
max_first a b r m x d e = omega arith

-- The subtask at j rises above those after it.
rise_more : (v ts : List ℕ) (j best x : ℕ) → j < length ts → max best (rise v (drop j ts)) ≡ x
    → max (max best (bound_of v (get_or ts j 0) + (length ts - 1 - j))) (rise v (drop (j + 1) ts)) ≡ x
rise_more v ts j best x h e =
    let l : length ts - 1 - j ≡ length (drop (suc j) ts) = omega (arith, length-drop (suc j) ts) in
    rw (l, add-one) (max_first best _ _ _ x (ap (rise v) (drop-cons ts j 0 h)) e)

pub bound_turn : (v ts : List ℕ) (j best n task r x : ℕ) → n ≡ length ts → j < n → task ≡ get_or ts j 0 → task < length v
    → r ≡ max best (get_or v task 0 + (n - 1 - j))
    → max best (rise v (drop j ts)) ≡ x
    → max r (rise v (drop (j + 1) ts)) ≡ x
bound_turn v ts j best n task r x d h e l a i =
    let s : r ≡ max best (bound_of v (get_or ts j 0) + (length ts - 1 - j)) =
    a ∙ ap₂ (λ (y z : ℕ). max best (y + (z - 1 - j))) (there v task 0 unknown l ∙ ap (bound_of v) e) d
    in
    rw s (rise_more v ts j best x (omega arith) i)

pub bound_end : (v ts : List ℕ) (j best x : ℕ) → length ts ≤ j → max best (rise v (drop j ts)) ≡ x → best ≡ x
bound_end v ts j best x h e = let d : max best 0 ≡ x = rw (drop_of_length-le ts h) at e in omega arith
