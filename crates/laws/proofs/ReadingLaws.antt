-- A row of readings, one after the other, as a loop makes them.
use Prim.Native.Nat.{ℕ, zero, suc, ◌+◌, ◌≤◌, ◌<◌}
use mathlib.Core.Path.{◌≡◌, subst, ◌∙◌}
use mathlib.Core.Logic.{⊎_elim}
use mathlib.Core.List.{List, [], ◌∷◌, ◌++◌}
use native.Mathlib.Nat.{eq-or-lt_of_le, le_of_suc-le-suc}
use native.Mathlib.Numerals.{add-one}
use native.Mathlib.Omega.{arith}
use Rattle.basics.specs.Readings.{Reading, got, bad, many}
use Rattle.basics.specs.Lists.{rows}
use Rattle.laws.proofs.ListLaws.{rows_same}

-- One more, and one that fails.
module _ {A : Type 0} (p : ℕ → Reading A) (from : ℕ) where
  pub many_more : (k : ℕ) {xs : List A} {at : ℕ} {x : A} {next : ℕ} → many p k from ≡ got xs at → p at ≡ got x next → many p (k + 1) from ≡ got (xs ++ (x ∷ [])) next
  unfolding many
  many_more k e f = rw (add-one k, e, f)

  stays : (n k : ℕ) {why at : ℕ} → k ≤ n → many p k from ≡ bad why at → many p n from ≡ bad why at
  unfolding many
  stays zero k {why} {at} l e = let z : k ≡ 0 = omega arith in subst (λ (m : ℕ). many p m from ≡ bad why at) z e
  stays (suc n) k {why} {at} l e =
      ⊎_elim
      (λ z. subst (λ (m : ℕ). many p m from ≡ bad why at) z e)
      (λ m. let r : many p n from ≡ bad why at = stays n k (le_of_suc-le-suc m) e in rw r)
      (eq-or-lt_of_le l)

  pub many_bad : (n k : ℕ) {xs : List A} {at why q : ℕ} → k < n → many p k from ≡ got xs at → p at ≡ bad why q → many p n from ≡ bad why q
  unfolding many
  many_bad n k l e f = stays n (suc k) l (rw (e, f))

-- One more, read into words by a step that leaves the rows before it.
module _ {A : Type 0} (view : List ℕ → ℕ → A) (p : ℕ → Reading A) (from : ℕ) where
  pub turn : (w w' : List ℕ) (k : ℕ) {at next : ℕ} → many p k from ≡ got (rows (view w) k) at → p at ≡ got (view w' k) next → ((j : ℕ) → j < k → view w' j ≡ view w j) → many p (k + 1) from ≡ got (rows (view w') (k + 1)) next
  unfolding rows
  turn w w' k {at} {next} e f h =
      many_more p from k e f ∙ rw (add-one k, rows_same (view w') (view w) k h)
