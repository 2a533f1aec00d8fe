-- The least bound of a form: bounds that are sound and closed under the methods give it.
use Prim.Native.Nat.{ℕ, zero, suc, ◌+◌, ◌≤◌, max}
use mathlib.Core.Path.{◌≡◌, refl, subst}
use mathlib.Core.Bool.{Bool, true, false, cond}
use mathlib.Core.List.{List, [], ◌∷◌, ◌++◌, map, append_assoc}
use native.Mathlib.Omega.{arith}
use lib.ListN.{length, length-append, drop}
use lib.Dec.{T, leb, ltb, eqb, leb→le, le→leb, ltb→lt, eqb→eq, eqb_refl}
use Rattle.rules.specs.Limits.{most_bound}
use Rattle.rules.specs.Tables.{Table, action_count, method_count, start_task, method}
use Rattle.rules.specs.Progression.{Step, act, mth, prefix, stays, resting}
use Rattle.rules.specs.LeastBounds.{Clears, Least, bound_of, rise, up_to_most}
use Rattle.laws.specs.Valid.{Valid}
use Rattle.laws.specs.Bounds.{Owed, Sound, Closed}
use Rattle.laws.proofs.TestLaws.{and_l, and_r, and_i}
use Rattle.laws.proofs.JoinedPrefix.{Below}
use Rattle.laws.proofs.RestLaws.{rests_above, rests_below, prefix_owed, drop_prefix, none_due}

rise_right : (v xs ys : List ℕ) → rise v ys ≤ rise v (xs ++ ys)
rise_right v [] ys = omega arith
rise_right v (c ∷ xs) ys = omega (arith, rise_right v xs ys)

rise_left : (v xs ys : List ℕ) → rise v xs + length ys ≤ max (length ys) (rise v (xs ++ ys))
rise_left v [] ys = omega arith
rise_left v (c ∷ xs) ys = omega (arith, rise_left v xs ys, length-append xs ys)

module _ (f : ℕ) (t : Table) (valid : Valid t) (v : List ℕ) (closed : Closed f t v) (b : ℕ) where
  -- What can be cleared with b does not rise above b, once the actions that are due are gone.
  clears_rise : (xs : List Step) (o : ℕ) (st : List ℕ) → Owed (action_count t) o st → T (resting b o st) → Clears b f t o st xs → rise v (drop o st) ≤ b
  clears_rise [] zero [] w l r = omega arith
  clears_rise [] (suc o) [] w l r = absurd w
  clears_rise [] o (c ∷ st) w l r = absurd r
  clears_rise (act k ∷ xs) o [] w l r = absurd (search (and_l, and_r, r.0))
  clears_rise (mth k ∷ xs) o [] w l r = absurd (search (and_l, and_r, r.0))
  clears_rise (act k ∷ xs) (suc o) (c ∷ st) w l r = clears_rise xs o st w.1 r.1 r.2
  clears_rise (act k ∷ xs) zero (c ∷ st) w l r =
      let m : T (ltb k (action_count t)) = search (and_l, and_r, r.0) in
      let a : T (eqb c k) = search (and_l, and_r, r.0) in
      let n : length st ≤ b = leb→le _ _ r.1 in
      let q : rise v st ≤ b = clears_rise xs zero st tt r.1 r.2 in
      let i : suc (length st) ≤ b = leb→le _ _ l in
      rw (eqb→eq c k a) (omega (arith, closed.acts k (ltb→lt _ _ m), q))
  clears_rise (mth k ∷ xs) (suc o) (c ∷ st) w l r =
      let m : T (ltb k (method_count t)) = search (and_l, and_r, r.0) in
      let a : T (eqb c (method t k).head) = search (and_l, and_r, r.0) in
      none_due t valid o k c st w m a
  clears_rise (mth k ∷ xs) zero (c ∷ st) w l r =
      let m : T (ltb k (method_count t)) = search (and_l, and_r, r.0) in
      let a : T (eqb c (method t k).head) = search (and_l, and_r, r.0) in
      let i : suc (length st) ≤ b = leb→le _ _ l in
      let q : rise v (drop (length (prefix f t k)) ((method t k).subs ++ st)) ≤ b =
      clears_rise xs (length (prefix f t k)) ((method t k).subs ++ st) (prefix_owed f t k st) r.1 r.2 in
      let g : rise v (stays f t k ++ st) ≤ b = subst (λ (l : List ℕ). rise v l ≤ b) (drop_prefix f t k st) q in
      rw (eqb→eq c (method t k).head a)
      (omega (arith, closed.mths k (ltb→lt _ _ m), g, rise_left v (stays f t k) st, rise_right v (stays f t k) st))

module _ (f : ℕ) (t : Table) where
  -- A stack is cleared above another.
  above : (a b : ℕ) (ts : List ℕ) (zs : List Step) → a + length ts ≤ b → Clears b f t 0 ts zs
      → (ys : List Step) (o : ℕ) (st : List ℕ) → Owed (action_count t) o st → Clears a f t o st ys → Clears b f t o (st ++ ts) (ys ++ zs)
  above a b ts zs l z [] zero [] w r = z
  above a b ts zs l z [] (suc o) [] w r = absurd w
  above a b ts zs l z [] o (c ∷ st) w r = absurd r
  above a b ts zs l z (act k ∷ ys) o [] w r = absurd (search (and_l, and_r, r.0))
  above a b ts zs l z (mth k ∷ ys) o [] w r = absurd (search (and_l, and_r, r.0))
  above a b ts zs l z (act k ∷ ys) zero (c ∷ st) w r =
      (r.0, rests_above a b zero st ts l r.1, above a b ts zs l z ys zero st tt r.2)
  above a b ts zs l z (act k ∷ ys) (suc o) (c ∷ st) w r =
      (r.0, rests_above a b o st ts l r.1, above a b ts zs l z ys o st w.1 r.2)
  above a b ts zs l z (mth k ∷ ys) o (c ∷ st) w r =
      let n = length (prefix f t k) in
      let q = above a b ts zs l z ys n ((method t k).subs ++ st) (prefix_owed f t k st) r.2 in
      let e = append_assoc (method t k).subs st ts in (
        r.0,
        subst (λ (xs : List ℕ). T (resting b n xs)) e (rests_above a b n ((method t k).subs ++ st) ts l r.1),
        subst (λ (xs : List ℕ). Clears b f t n xs (ys ++ zs)) e q,
      )

  pub clear_all : (v : List ℕ) → Sound f t v → (b : ℕ) → b ≤ most_bound → (ts : List ℕ) → rise v ts ≤ b → (xs : List Step) × Clears b f t 0 ts xs
  unfolding Sound
  clear_all v s b h [] l = ([], tt)
  clear_all v s b h (c ∷ ts) l =
      let p = s c (omega arith) in
      let q = clear_all v s b h ts (omega arith) in
      (p.0 ++ q.0, above (bound_of v c) b ts q.0 (omega arith) q.1 p.0 0 (c ∷ []) tt p.1)

  -- The actions that are due come first, whatever the height.
  pub led : (b : ℕ) (ks st : List ℕ) (xs : List Step) → Below (action_count t) ks → length st ≤ b → Clears b f t 0 st xs
      → Clears b f t (length ks) (ks ++ st) (map act ks ++ xs)
  led b [] st xs h l r = r
  led b (k ∷ ks) st xs h l r =
      (and_i (ltb k (action_count t)) (eqb k k) h.0 (eqb_refl k), rests_below b ks st l, led b ks st xs h.1 l r)

up_to_most_low : (n : ℕ) → n ≤ most_bound → up_to_most n ≡ n
up_to_most_low n h = go (leb n most_bound) (le→leb n most_bound h)
  where
    go : (c : Bool) → T c → cond c n 0 ≡ n
    go true x = refl
    go false x = absurd x

up_to_most_some : (n : ℕ) → 1 ≤ up_to_most n → n ≤ most_bound
up_to_most_some n h = go (leb n most_bound) refl h
  where
    go : (c : Bool) → leb n most_bound ≡ c → 1 ≤ cond c n 0 → n ≤ most_bound
    go true e x = leb→le n most_bound (rw e tt)
    go false e x = absurd (omega arith)

-- Sound and closed bounds give the least bound.
pub least : (f : ℕ) (t : Table) → Valid t → (v : List ℕ) → Sound f t v → Closed f t v → Least f t (up_to_most (bound_of v (start_task t)))
unfolding Sound
least f t valid v s closed =
    record {
      clears = λ h.
          let n : bound_of v (start_task t) ≤ most_bound = up_to_most_some (bound_of v (start_task t)) h in
          rw (up_to_most_low (bound_of v (start_task t)) n) (n, (le→leb _ _ (closed.some (start_task t)), s (start_task t) n));
      smallest = λ b h c.
          let q = clears_rise f t valid v closed b c.1.0 0 (start_task t ∷ []) tt c.0 c.1.1 in
          let n : bound_of v (start_task t) ≤ most_bound = omega (arith, q) in
          rw (up_to_most_low (bound_of v (start_task t)) n) (closed.some (start_task t), omega (arith, q));
    }
