-- A turn of a round, and the bounds that the rounds begin with.
use Prim.Native.Nat.{ℕ, zero, suc, ◌+◌, ◌-◌, ◌≤◌, ◌<◌}
use mathlib.Core.Path.{◌≡◌, refl, sym, ap, ap₂, ◌∙◌}
use mathlib.Core.Bool.{Bool, not, ◌||◌}
use mathlib.Core.List.{List, [], ◌∷◌, ◌++◌}
use native.Mathlib.Omega.{arith}
use native.Mathlib.Numerals.{add-one}
use lib.ListN.{length, drop, replicate, length-append, length-drop, length-replicate}
use Rattle.rules.specs.Tables.{Table, action_count, task_count}
use Rattle.rules.specs.LeastBounds.{unknown, bound_of, lowers, improve, round, settled}
use Rattle.laws.specs.Bounds.{Kept}
use Rattle.laws.proofs.RoundLaws.{settled_more, begins}

-- One more method of a round.
module _ (f : ℕ) (t : Table) (v w : List ℕ) (k : ℕ) (e : w ≡ round f t v k) where
  pub round_more : (x : List ℕ) → x ≡ improve f t w k → x ≡ round f t v (k + 1)
  round_more x i = i ∙ ap (λ (u : List ℕ). improve f t u k) e ∙ ap (round f t v) (sym (add-one k))

  pub lowered_more : (b r : Bool) → b ≡ not (settled f t v k) → r ≡ lowers f t w k → (b || r) ≡ not (settled f t v (k + 1))
  lowered_more b r d i =
      ap₂ ◌||◌ d (i ∙ ap (λ (u : List ℕ). lowers f t u k) e) ∙ settled_more f t v k
      ∙ ap (λ (n : ℕ). not (settled f t v n)) (sym (add-one k))

-- The bounds that the rounds begin with: the first a are 1, of the others none is known.
ones_low : (a c : ℕ) (r : List ℕ) → c < a → bound_of (replicate a 1 ++ r) c ≡ 1
ones_low zero c r h = absurd (omega arith)
ones_low (suc a) zero r h = refl
ones_low (suc a) (suc c) r h = ones_low a c r (omega arith)

ones_high : (a c : ℕ) (v : List ℕ) → a ≤ c → a ≤ length v → bound_of (replicate a 1 ++ drop a v) c ≡ bound_of v c
ones_high zero c v h l = refl
ones_high (suc a) zero v h l = absurd (omega arith)
ones_high (suc a) (suc c) [] h l = absurd (omega arith)
ones_high (suc a) (suc c) (x ∷ v) h l = ones_high a c v (omega arith) (omega arith)

none_known : (n c : ℕ) → bound_of (replicate n unknown) c ≡ unknown
none_known zero c = refl
none_known (suc n) zero = refl
none_known (suc n) (suc c) = none_known n c

pub ones_kept : (f : ℕ) (t : Table) (n a : ℕ) (v : List ℕ) → a ≡ action_count t → a ≤ n → task_count t ≤ n
    → v ≡ replicate a 1 ++ drop a (replicate n unknown) → Kept f t v
ones_kept f t n a v e h l q =
    let s : length (replicate n unknown) ≡ n = length-replicate {A = ℕ} n unknown in
    let w = replicate a 1 ++ drop a (replicate n unknown) in
    let size : length w ≡ a + (n - a) =
    length-append (replicate a 1) (drop a (replicate n unknown)) ∙ ap₂ ◌+◌ (length-replicate {A = ℕ} a 1) (length-drop a (replicate n unknown) ∙ ap (λ (m : ℕ). m - a) s) in
    rw q (begins f t w (omega (arith, size)) (λ c k. ones_low a c _ (omega arith))
    (λ c k. ones_high a c (replicate n unknown) (omega arith) (omega (arith, s)) ∙ none_known n c))
