-- The problem lists exactly the operators that are emitted.
use Prim.Native.Nat.{ℕ, zero, suc, ◌-◌, ◌<◌}
use mathlib.Core.Logic.{◌↔◌, ⊎_elim}
use mathlib.Core.Path.{◌≡◌, sym, subst}
use mathlib.Core.List.Memᴰ
use mathlib.Core.List.{List, [], ◌∷◌, Memᴰ}
use native.Mathlib.Omega.{arith}
use native.Mathlib.Nat.{eq-or-lt_of_le}
use lib.Dec.{T, leb, leb→le, le→leb}
use Rattle.basics.specs.Lists.{rows, upto}
use Rattle.rules.specs.Tables.{Table, action_count, method_count}
use Rattle.rules.specs.Progression.{Step, act, mth}
use Rattle.rules.specs.Operators.{Operator, positions, emitted, rising_from1, operators_of}
use Rattle.laws.proofs.TestLaws.{and_l, and_r, and_i}
use Rattle.theorems.proofs.Emission.{action_emitted, method_emitted}

-- What is in lists made from a number.
module _ {A : Type 0} {x : A} (f : ℕ → A) where
  of_rows : (n : ℕ) → Memᴰ x (rows f n) → (k : ℕ) × (k < n) × (x ≡ f k)
  unfolding rows
  of_rows zero m = absurd (Memᴰ.not-nil m)
  of_rows (suc n) m =
      ⊎_elim (λ l. let q = of_rows n l in (q.0, omega (arith, q.1), q.2)) (λ r. (n, omega arith, Memᴰ.eq_of_singleton r))
      (Memᴰ.append_cases (rows f n) m)

  in_rows : (n k : ℕ) → k < n → x ≡ f k → Memᴰ x (rows f n)
  unfolding rows
  in_rows zero k l e = absurd (omega arith)
  in_rows (suc n) k l e =
      ⊎_elim
      (λ z. Memᴰ.append_right (rows f n) (Memᴰ.head (subst (λ (j : ℕ). x ≡ f j) z e)))
      (λ m. Memᴰ.append_left (f n ∷ []) (in_rows n k m e))
      (eq-or-lt_of_le {n = k} {m = n} (omega arith))

module _ {A : Type 0} {x : A} (f : ℕ → List A) where
  of_upto : (n : ℕ) → Memᴰ x (upto f n) → (k : ℕ) × (k < n) × Memᴰ x (f k)
  unfolding upto
  of_upto zero m = absurd (Memᴰ.not-nil m)
  of_upto (suc n) m =
      ⊎_elim (λ l. let q = of_upto n l in (q.0, omega (arith, q.1), q.2)) (λ r. (n, omega arith, r)) (Memᴰ.append_cases (upto f n) m)

  in_upto : (n k : ℕ) → k < n → Memᴰ x (f k) → Memᴰ x (upto f n)
  unfolding upto
  in_upto zero k l e = absurd (omega arith)
  in_upto (suc n) k l e =
      ⊎_elim
      (λ z. Memᴰ.append_right (upto f n) (subst (λ (j : ℕ). Memᴰ x (f j)) z e))
      (λ m. Memᴰ.append_left (f n) (in_upto n k m e))
      (eq-or-lt_of_le {n = k} {m = n} (omega arith))

module _ (b f : ℕ) (t : Table) where
  -- The operators of one step, and those that are emitted of it.
  of_step : (x : Step) (o : Operator) → Memᴰ o (rising_from1 x (positions b f t x)) → T (emitted b f t o)
  of_step x o m =
      let q = of_rows (λ i. record { what = x; at = suc i }) (positions b f t x) m in
      subst (λ (p : Operator). T (emitted b f t p)) (sym q.2)
      (and_i (leb 1 (suc q.0)) (leb (suc q.0) (positions b f t x)) (le→leb 1 (suc q.0) (omega arith)) (le→leb (suc q.0) (positions b f t x) (omega (arith, q.1))))

  in_step : (x : Step) (i : ℕ) → T (emitted b f t (record { what = x; at = i })) → Memᴰ (record { what = x; at = i }) (rising_from1 x (positions b f t x))
  in_step x i h =
      let l = leb→le 1 i (and_l (leb 1 i) (leb i (positions b f t x)) h) in
      let u = leb→le i (positions b f t x) (and_r (leb 1 i) (leb i (positions b f t x)) h) in
      let e : i ≡ suc (i - 1) = omega arith in
      in_rows (λ i. record { what = x; at = suc i }) (positions b f t x) (i - 1) (omega arith) (λ j. record { what = x; at = e j })

  pub listed : (o : Operator) → Memᴰ o (operators_of b f t) ↔ T (emitted b f t o)
  unfolding operators_of
  listed o = (
    (λ m. ⊎_elim
        (λ l. let q = of_upto (λ k. rising_from1 (act k) (positions b f t (act k))) (action_count t) l in of_step (act q.0) o q.2)
        (λ r. let q = of_upto (λ k. rising_from1 (mth k) (positions b f t (mth k))) (method_count t) r in of_step (mth q.0) o q.2)
        (Memᴰ.append_cases (upto (λ k. rising_from1 (act k) (positions b f t (act k))) (action_count t)) m)),
    (λ h. go o.what o.at h),
  )
    where
      go : (x : Step) (i : ℕ) → T (emitted b f t (record { what = x; at = i })) → Memᴰ (record { what = x; at = i }) (operators_of b f t)
      go (act k) i h =
          Memᴰ.append_left (upto (λ k. rising_from1 (mth k) (positions b f t (mth k))) (method_count t))
          (in_upto (λ k. rising_from1 (act k) (positions b f t (act k))) (action_count t) k ((action_emitted b f t k i).0 h).0 (in_step (act k) i h))
      go (mth k) i h =
          Memᴰ.append_right (upto (λ k. rising_from1 (act k) (positions b f t (act k))) (action_count t))
          (in_upto (λ k. rising_from1 (mth k) (positions b f t (mth k))) (method_count t) k ((method_emitted b f t k i).0 h).0 (in_step (mth k) i h))
