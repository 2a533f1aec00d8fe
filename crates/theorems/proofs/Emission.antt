-- Where an operator exists, as laws on numbers.
use Prim.Native.Nat.{ℕ, zero, suc, ◌+◌, ◌-◌, ◌≤◌, ◌<◌}
use mathlib.Core.Logic.{◌↔◌}
use mathlib.Core.Path.{◌≡◌, refl}
use mathlib.Core.List.{[]}
use mathlib.Core.Bool.{Bool, true, false, not, cond}
use native.Mathlib.Omega.{arith}
use lib.Dec.{T, leb, ltb, eqb, leb→le, le→leb, ltb→lt, T_not}
use borrow.Author.Tests.{lt-ltb, le-ltb, eq-eqb, eqb-true, eqb-false}
use Rattle.theorems.specs.Emitted.{UpTo, UpToLess, Alone}
use Rattle.basics.specs.Lists.{rows}
use Rattle.rules.specs.Tables.{Table, fact_count, action_count, method_count, method}
use Rattle.rules.specs.Facts.{without, join_from, join_of, members_from, members_of}
use Rattle.rules.specs.Progression.{act, mth, prefix, remain}
use Rattle.rules.specs.Operators.{joined, highest, positions, emitted}
use Rattle.rules.specs.Problems.{oper_at, oper_of}
use Rattle.laws.specs.Valid.{Valid}
use Rattle.laws.proofs.SetLaws.{has_zero}
use Rattle.laws.proofs.TestLaws.{and_l, and_r, and_i, cond_false}

module _ (b r i : ℕ) where
  within_highest : (c : Bool) → eqb r 0 ≡ c → 1 ≤ i → i ≤ cond c b (b + 1 - r) → (i ≤ b) × (i + r ≤ b + 1)
  within_highest true e l h = let z = eqb-true r 0 e in (omega arith, omega arith)
  within_highest false e l h = let z = eqb-false r 0 e in (omega arith, omega arith)

  highest_within : (c : Bool) → eqb r 0 ≡ c → i ≤ b → i + r ≤ b + 1 → i ≤ cond c b (b + 1 - r)
  highest_within true e l h = l
  highest_within false e l h = omega arith

-- A number from 1 to one that is there only under a condition.
guarded : (c : Bool) (n i : ℕ) → 1 ≤ i → i ≤ cond c n 0 → T c × (i ≤ n)
guarded true n i l h = (tt, h)
guarded false n i l h = absurd (omega arith)

unguarded : (c : Bool) (n i : ℕ) → 1 ≤ i → i ≤ cond c 0 n → T (not c) × (i ≤ n)
unguarded true n i l h = absurd (omega arith)
unguarded false n i l h = (tt, h)

module _ (b f : ℕ) (t : Table) (k i : ℕ) where
  -- "Action operators exist at every position."
  pub action_emitted : T (emitted b f t (record { what = act k; at = i })) ↔ ((k < action_count t) × (1 ≤ i) × (i ≤ b))
  unfolding positions
  action_emitted = (
    (λ h.
        let l = leb→le 1 i (and_l (leb 1 i) (leb i (positions b f t (act k))) h) in
        let q = guarded (ltb k (action_count t)) b i l (leb→le i (positions b f t (act k)) (and_r (leb 1 i) (leb i (positions b f t (act k))) h)) in
        (ltb→lt _ _ q.0, l, q.1)),
    (λ h. and_i (leb 1 i) (leb i (positions b f t (act k))) (le→leb 1 i h.1) (rw (lt-ltb k (action_count t) h.0) (le→leb i b h.2))),
  )

  -- "Method operators exist at 1 to b if r = 0, otherwise at 1 to b − r + 1 (none if that is below 1). A dead method has none."
  pub method_emitted : T (emitted b f t (record { what = mth k; at = i }))
      ↔ ((k < method_count t) × T (not (joined f t (mth k)).dead) × (1 ≤ i) × (i ≤ b) × (i + remain f t k ≤ b + 1))
  unfolding positions
  method_emitted = (
    (λ h.
        let l = leb→le 1 i (and_l (leb 1 i) (leb i (positions b f t (mth k))) h) in
        let u = leb→le i (positions b f t (mth k)) (and_r (leb 1 i) (leb i (positions b f t (mth k))) h) in
        let q = guarded (ltb k (method_count t)) (cond (joined f t (mth k)).dead 0 (highest b (remain f t k))) i l u in
        let r = unguarded (joined f t (mth k)).dead (highest b (remain f t k)) i l q.1 in
        let w = within_highest b (remain f t k) i (eqb (remain f t k) 0) refl l r.1 in
        (ltb→lt _ _ q.0, r.0, l, w.0, w.1)),
    (λ h.
        let w = highest_within b (remain f t k) i (eqb (remain f t k) 0) refl h.3 h.4 in
        and_i (leb 1 i) (leb i (positions b f t (mth k))) (le→leb 1 i h.2)
        (rw (lt-ltb k (method_count t) h.0, cond_false (joined f t (mth k)).dead 0 (highest b (remain f t k)) h.1) (le→leb i (highest b (remain f t k)) w))),
  )

  -- The same, case by case: r = 0, r > 0, r > b, dead.
  pub none_stays : k < method_count t → T (not (joined f t (mth k)).dead) → remain f t k ≡ 0
      → T (emitted b f t (record { what = mth k; at = i })) ↔ UpTo b i
  none_stays m d z = (
    (λ h. let q = method_emitted.0 h in (q.2, omega (arith, q.3))),
    (λ h. method_emitted.1 (m, d, h.0, omega (arith, h.1), omega (arith, h.1))),
  )

  pub some_stay : k < method_count t → T (not (joined f t (mth k)).dead) → 0 < remain f t k
      → T (emitted b f t (record { what = mth k; at = i })) ↔ UpToLess b (remain f t k) i
  some_stay m d p = (
    (λ h. let q = method_emitted.0 h in (q.2, q.4)),
    (λ h. method_emitted.1 (m, d, h.0, omega (arith, h.1), h.1)),
  )

  pub too_many_stay : b < remain f t k → T (emitted b f t (record { what = mth k; at = i })) → ⊥
  too_many_stay p h = let q = method_emitted.0 h in omega (arith, q.2, q.4)

  pub dead_nowhere : T (joined f t (mth k)).dead → T (emitted b f t (record { what = mth k; at = i })) → ⊥
  dead_nowhere d h = T_not (joined f t (mth k)).dead (method_emitted.0 h).1 d

-- In the plain form no method is dead.
pub plain_living : (t : Table) (k : ℕ) → (joined 0 t (mth k)).dead ≡ false
unfolding joined join_of join_from
plain_living t k = refl

-- "A method c to c alone has no effects in any form and is written so."
no_members : (n k : ℕ) → members_from n k 0 ≡ []
unfolding members_from
no_members zero k = refl
no_members (suc n) k = rw (has_zero k) (no_members n (suc k))

alone : (f : ℕ) (t : Table) (k : ℕ) → Valid t → k < method_count t → Alone t k → prefix f t k ≡ []
alone zero t k v l e = refl
alone (suc f) t k v l e = rw (e, le-ltb (method t k).head (action_count t) (v.method k l).low)

pub idle : (f : ℕ) (t : Table) (k i : ℕ) → Valid t → k < method_count t → Alone t k
    → (oper_of f t (record { what = mth k; at = i })).effects ≡ []
unfolding oper_of oper_at joined join_of join_from rows members_of without
idle f t k i v l e =
    let same : i + 1 - 1 ≡ i = omega arith in
    rw (alone f t k v l e, e, no_members (fact_count t) 0, eq-eqb (i + 1 - 1) i same, eq-eqb (method t k).head (method t k).head refl)
