-- What an operator's steps do to the height, and that an operator is emitted exactly where its end is within the bound.
use Prim.Native.Nat.{ℕ, suc, ◌+◌, ◌<◌}
use mathlib.Core.Path.{◌≡◌, refl}
use mathlib.Core.List.{List, [], ◌∷◌, map, tail}
use native.Mathlib.Omega.{arith}
use lib.ListN.{length, length-append}
use lib.Dec.{T, leb, ltb, leb→le, le→leb, ltb→lt}
use Rattle.rules.specs.Tables.{Table, action_count, method_count, method}
use Rattle.rules.specs.Progression.{State, Step, act, mth, on_top, fits, enabled, allowed, next, all_allowed, after_all, height, prefix, remain}
use Rattle.rules.specs.Operators.{company, emitted}
use Rattle.laws.proofs.JoinedPrefix.{living}
use Rattle.laws.proofs.CountLaws.{prefix_short}
use Rattle.laws.proofs.TestLaws.{and_l, and_r}
use Rattle.theorems.proofs.Emission.{action_emitted, method_emitted}

on_top_lem : (k : ℕ) (st : List ℕ) → T (on_top k st) → length st ≡ suc (length (tail st))
on_top_lem k [] h = absurd h
on_top_lem k (x ∷ st) h = refl

module _ (t : Table) where
  fits_of : (s : State) (x : Step) → T (allowed t s x) → T (fits t s.stack x)
  fits_of s x h = and_l (fits t s.stack x) (enabled t s.facts x) h

  act_pops : (k : ℕ) (s : State) → T (allowed t s (act k)) → height s ≡ suc (height (next t s (act k)))
  act_pops k s h = on_top_lem k s.stack (and_r (ltb k (action_count t)) (on_top k s.stack) (fits_of s (act k) h))

  mth_pops : (k : ℕ) (s : State) → T (allowed t s (mth k)) → height s + length (method t k).subs ≡ suc (height (next t s (mth k)))
  mth_pops k s h =
      omega (
        arith,
        on_top_lem (method t k).head s.stack (and_r (ltb k (method_count t)) (on_top (method t k).head s.stack) (fits_of s (mth k) h)),
        length-append (method t k).subs (tail s.stack),
      )

  acts_pop : (ks : List ℕ) (s : State) → T (all_allowed t s (map act ks)) → height s ≡ length ks + height (after_all t s (map act ks))
  acts_pop [] s h = omega arith
  acts_pop (k ∷ ks) s h =
      let s' = next t s (act k) in
      omega (
        arith,
        act_pops k s (and_l (allowed t s (act k)) (all_allowed t s' (map act ks)) h),
        acts_pop ks s' (and_r (allowed t s (act k)) (all_allowed t s' (map act ks)) h),
      )

-- The number of a step is one of the table's.
abbrev pub Known : Table → Step → Type 0
Known t (act k) = k < action_count t
Known t (mth k) = k < method_count t

pub known : (t : Table) (s : State) (x : Step) → T (allowed t s x) → Known t x
known t s (act k) h = ltb→lt k (action_count t) (and_l (ltb k (action_count t)) (on_top k s.stack) (fits_of t s (act k) h))
known t s (mth k) h = ltb→lt k (method_count t) (and_l (ltb k (method_count t)) (on_top (method t k).head s.stack) (fits_of t s (mth k) h))

module _ (b f : ℕ) (t : Table) where
  -- A method's steps, from a height to their end: one task is popped and r stay.
  ends : (k : ℕ) (s : State) → T (all_allowed t s (mth k ∷ map act (prefix f t k)))
      → suc (height (after_all t s (mth k ∷ map act (prefix f t k)))) ≡ height s + remain f t k
  ends k s h =
      let s' = next t s (mth k) in
      let ks = prefix f t k in
      omega (
        arith,
        mth_pops t k s (and_l (allowed t s (mth k)) (all_allowed t s' (map act ks)) h),
        acts_pop t ks s' (and_r (allowed t s (mth k)) (all_allowed t s' (map act ks)) h),
        prefix_short f t k,
      )

  -- An emitted operator at its true height, if it is allowed, ends within the bound.
  pub emitted_low : (x : Step) (s : State) → T (all_allowed t s (x ∷ map act (company f t x)))
      → T (emitted b f t (record { what = x; at = height s }))
      → T (leb (height (after_all t s (x ∷ map act (company f t x)))) b)
  emitted_low (act k) s h e =
      let q = (action_emitted b f t k (height s)).0 e in
      le→leb _ b (omega (arith, act_pops t k s (and_l (allowed t s (act k)) _ h), q.2))
  emitted_low (mth k) s h e =
      let q = (method_emitted b f t k (height s)).0 e in
      le→leb _ b (omega (arith, ends k s h, q.3, q.4))

  -- An allowed operator that starts and ends within the bound is emitted: a dead one is never allowed.
  pub low_emitted : (x : Step) (s : State) → T (leb (height s) b) → T (all_allowed t s (x ∷ map act (company f t x)))
      → T (leb (height (after_all t s (x ∷ map act (company f t x)))) b)
      → T (emitted b f t (record { what = x; at = height s }))
  low_emitted (act k) s l h e =
      let a : T (allowed t s (act k)) = and_l (allowed t s (act k)) _ h in
      (action_emitted b f t k (height s)).1 (known t s (act k) a, omega (arith, act_pops t k s a), leb→le _ _ l)
  low_emitted (mth k) s l h e =
      let s' = next t s (mth k) in
      let ks = prefix f t k in
      let a : T (allowed t s (mth k)) = and_l (allowed t s (mth k)) (all_allowed t s' (map act ks)) h in
      let o = on_top_lem (method t k).head s.stack (and_r (ltb k (method_count t)) (on_top (method t k).head s.stack) (fits_of t s (mth k) a)) in
      (method_emitted b f t k (height s)).1 (
        known t s (mth k) a,
        living f t k s' (and_r (allowed t s (mth k)) (all_allowed t s' (map act ks)) h),
        omega (arith, o),
        leb→le _ _ l,
        omega (arith, ends k s h, leb→le (height (after_all t s (mth k ∷ map act ks))) b e),
      )
