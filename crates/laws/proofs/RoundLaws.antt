-- The rounds end in sound and closed bounds: the computed bound of a form is its least.
use Prim.Native.Nat.{ℕ, zero, suc, ◌+◌, ◌≤◌, ◌<◌}
use mathlib.Core.Path.{◌≡◌, refl, sym, subst, ◌∙◌}
use mathlib.Core.Bool.{Bool, true, false, ◌&&◌, ◌||◌, not, cond}
use mathlib.Core.List.{List, [], ◌∷◌, ◌++◌, map, append-nil}
use native.Mathlib.Omega.{arith}
use native.Mathlib.Decide.{ℕ_discrete, dec_lt}
use lib.ListN.{length, set, replicate, length-append, length-replicate, length-set}
use lib.Seq.{get_or-set_same, get_or-set_other}
use lib.Dec.{T, ltb, eqb, ltb→lt, lt→ltb, nltb→le, eqb_refl}
use Rattle.rules.specs.Limits.{most_bound}
use Rattle.rules.specs.Tables.{Table, action_count, task_count, method_count, start_task, method}
use Rattle.rules.specs.Progression.{Step, act, mth, prefix, stays, resting}
use Rattle.rules.specs.LeastBounds.{Clears, Least, unknown, bound_of, rise, method_bound, lowers, improve, round, settled, rounds, total, first, up_to_most, least_bound}
use Rattle.laws.specs.Valid.{Valid}
use Rattle.laws.specs.Bounds.{Sound, Kept}
use Rattle.laws.proofs.TestLaws.{and_l, and_r, and_i, not_and_not}
use Rattle.laws.proofs.TableLaws.{head_low}
use Rattle.laws.proofs.JoinedPrefix.{prefix_whole, prefix_below}
use Rattle.laws.proofs.RestLaws.{rests_below}
use Rattle.laws.proofs.LeastLaws.{clear_all, led, least}

-- A property of tasks and their bounds, after one bound is set.
at_set : (P : ℕ → ℕ → Type 0) (v : List ℕ) (h n : ℕ) → h < length v → P h n → ((c : ℕ) → P c (bound_of v c)) → (c : ℕ) → P c (bound_of (set v h n) c)
at_set P v h n l p q c = go (ℕ_discrete c h)
  where
    go : Dec (c ≡ h) → P c (bound_of (set v h n) c)
    go (yes e) = rw (e, get_or-set_same v h n unknown l) p
    go (no e) = rw (get_or-set_other v h c n unknown e) (q c)

rise_length : (v ts : List ℕ) → ((c : ℕ) → 1 ≤ bound_of v c) → length ts ≤ rise v ts
rise_length v [] h = omega arith
rise_length v (c ∷ ts) h = omega (arith, h c)

module _ (f : ℕ) (t : Table) (valid : Valid t) where
  lowered : (v : List ℕ) (k : ℕ) → k < method_count t → Kept f t v → Kept f t (set v (method t k).head (method_bound f t v k))
  unfolding Sound
  lowered v k l q =
      let m = method t k in
      let n = method_bound f t v k in
      let i : m.head < length v = omega (arith, q.size, head_low t valid k l) in
      record {
        size = rw (length-set v m.head n) q.size;
        some = at_set (λ c x. 1 ≤ x) v m.head n i (omega arith) q.some;
        acts = at_set (λ c x. c < action_count t → x ≤ 1) v m.head n i (λ h. absurd (omega (arith, (valid.method k l).low))) q.acts;
        sound = at_set (λ c x. x ≤ most_bound → (xs : List Step) × Clears x f t 0 (c ∷ []) xs) v m.head n i
            (λ h.
            let ss = stays f t k in
            let r = clear_all f t v q.sound n h ss (omega arith) in
            let d : length ss ≤ n = omega (arith, rise_length v ss q.some) in
            let e : prefix f t k ++ ss ≡ m.subs ++ [] = prefix_whole f t k ∙ sym (append-nil m.subs) in (
              mth k ∷ map act (prefix f t k) ++ r.0,
              (
                and_i (ltb k (method_count t)) (eqb m.head m.head) (lt→ltb _ _ l) (eqb_refl m.head),
                subst (λ (xs : List ℕ). T (resting n (length (prefix f t k)) xs)) e (rests_below n (prefix f t k) ss d),
                subst (λ (xs : List ℕ). Clears n f t (length (prefix f t k)) xs (map act (prefix f t k) ++ r.0)) e
                    (led f t n (prefix f t k) ss r.0 (prefix_below f t k) d r.1),
              ),
            ))
            q.sound;
      }

  pub improved : (v : List ℕ) (k : ℕ) → k < method_count t → Kept f t v → Kept f t (improve f t v k)
  improved v k l q = go (lowers f t v k)
    where
      go : (c : Bool) → Kept f t (cond c (set v (method t k).head (method_bound f t v k)) v)
      go true = lowered v k l q
      go false = q

  pub rounded : (v : List ℕ) (k : ℕ) → k ≤ method_count t → Kept f t v → Kept f t (round f t v k)
  rounded v zero l q = q
  rounded v (suc k) l q = improved (round f t v k) k l (rounded v k (omega arith) q)

module _ (f : ℕ) (t : Table) where
  -- Where no method lowers a bound the bounds are closed, and a round changes nothing.
  pub settled_closed : (v : List ℕ) (k : ℕ) → T (settled f t v k) → (j : ℕ) → j < k → bound_of v (method t j).head ≤ method_bound f t v j
  settled_closed v zero h j l = absurd (omega arith)
  settled_closed v (suc k) h j l = go (dec_lt j k) (settled_closed v k (and_l (settled f t v k) (not (lowers f t v k)) h) j)
    where
      go : Dec (j < k) → (j < k → bound_of v (method t j).head ≤ method_bound f t v j) → bound_of v (method t j).head ≤ method_bound f t v j
      go (yes i) g = g i
      go (no i) g =
          let e : j ≡ k = omega arith in
          rw e (nltb→le (method_bound f t v k) (bound_of v (method t k).head) (and_r (settled f t v k) (not (lowers f t v k)) h))

  pub still : (v : List ℕ) (k : ℕ) → T (settled f t v k) → round f t v k ≡ v
  still v zero h = refl
  still v (suc k) h =
      rw (still v k (and_l (settled f t v k) (not (lowers f t v k)) h))
      (go (lowers f t v k) (and_r (settled f t v k) (not (lowers f t v k)) h))
    where
      go : (c : Bool) → T (not c) → cond c (set v (method t k).head (method_bound f t v k)) v ≡ v
      go true x = absurd x
      go false x = refl

pub total_set : (v : List ℕ) (i n : ℕ) → i < length v → total (set v i n) + bound_of v i ≡ total v + n
total_set [] i n h = absurd (omega arith)
total_set (x ∷ v) zero n h = omega arith
total_set (x ∷ v) (suc i) n h = omega (arith, total_set v i n (omega arith))

pub improve_le : (f : ℕ) (t : Table) (v : List ℕ) (k : ℕ) → (method t k).head < length v → total (improve f t v k) ≤ total v
improve_le f t v k h = go (lowers f t v k) refl
  where
    go : (c : Bool) → lowers f t v k ≡ c → total (cond c (set v (method t k).head (method_bound f t v k)) v) ≤ total v
    go true e = omega (arith, ltb→lt (method_bound f t v k) (bound_of v (method t k).head) (rw e tt), total_set v (method t k).head (method_bound f t v k) h)
    go false e = omega arith

pub improve_lt : (f : ℕ) (t : Table) (v : List ℕ) (k : ℕ) → (method t k).head < length v → T (lowers f t v k) → total (improve f t v k) < total v
improve_lt f t v k h l = go (lowers f t v k) refl
  where
    go : (c : Bool) → lowers f t v k ≡ c → total (cond c (set v (method t k).head (method_bound f t v k)) v) < total v
    go true e = omega (arith, ltb→lt (method_bound f t v k) (bound_of v (method t k).head) l, total_set v (method t k).head (method_bound f t v k) h)
    go false e = absurd (rw e at l)

record Settled (f : ℕ) (t : Table) (v : List ℕ) : Type 0 where
  kept : Kept f t v
  done : T (settled f t v (method_count t))

settled_is_least : (f : ℕ) (t : Table) → Valid t → (v : List ℕ) → Kept f t v → T (settled f t v (method_count t)) → Least f t (up_to_most (bound_of v (start_task t)))
settled_is_least f t valid v q h =
    least f t valid v q.sound (record { some = q.some; acts = q.acts; mths = settled_closed f t v (method_count t) h })

module _ (f : ℕ) (t : Table) (valid : Valid t) where
  -- A round that is not settled lowers the total.
  pub falls : (v : List ℕ) → Kept f t v → (k : ℕ) → k ≤ method_count t → T (not (settled f t v k)) → total (round f t v k) < total v
  falls v q zero l h = absurd h
  falls v q (suc k) l h = go (settled f t v k) refl (falls v q k (omega arith))
    where
      w : List ℕ
      w = round f t v k

      i : (method t k).head < length w
      i = omega (arith, (rounded f t valid v k (omega arith) q).size, head_low t valid k l)

      go : (c : Bool) → settled f t v k ≡ c → (T (not (settled f t v k)) → total w < total v) → total (improve f t w k) < total v
      go false e g = omega (arith, g (rw e tt), improve_le f t w k i)
      go true e g =
          let s : round f t v k ≡ v = still f t v k (rw e tt) in
          rw s
          (improve_lt f t v k (omega (arith, q.size, head_low t valid k l)) (not_and_not (settled f t v k) (lowers f t v k) h (rw e tt)))

  ended : (n : ℕ) (v : List ℕ) → Kept f t v → total v < n → Settled f t (rounds f t n v)
  ended zero v q l = absurd (omega arith)
  ended (suc n) v q l =
      go (settled f t v (method_count t)) refl
      (λ h. ended n (round f t v (method_count t)) (rounded f t valid v (method_count t) (omega arith) q)
      (omega (arith, falls v q (method_count t) (omega arith) h)))
    where
      w : List ℕ
      w = rounds f t n (round f t v (method_count t))

      go : (c : Bool) → settled f t v (method_count t) ≡ c → (T (not (settled f t v (method_count t))) → Settled f t w) → Settled f t (cond c v w)
      go true e g = record { kept = q; done = rw e tt }
      go false e g = g (rw e tt)

-- The first bounds: 1 for an action, none known for any other.
pub begins : (f : ℕ) (t : Table) (v : List ℕ) → task_count t ≤ length v → ((c : ℕ) → c < action_count t → bound_of v c ≡ 1)
    → ((c : ℕ) → action_count t ≤ c → bound_of v c ≡ unknown)
    → Kept f t v
unfolding Sound
begins f t v l low high =
    record {
      size = l;
      some = cases (λ c x. 1 ≤ x) (λ c h. omega arith) (λ c h. omega arith);
      acts = cases (λ c x. c < action_count t → x ≤ 1) (λ c h k. omega arith) (λ c h k. absurd (omega arith));
      sound = cases (λ c x. x ≤ most_bound → (xs : List Step) × Clears x f t 0 (c ∷ []) xs)
          (λ c h k. (act c ∷ [], (and_i (ltb c (action_count t)) (eqb c c) (lt→ltb _ _ h) (eqb_refl c), tt, tt)))
          (λ c h k. absurd (omega arith));
    }
  where
    cases : (P : ℕ → ℕ → Type 0) → ((c : ℕ) → c < action_count t → P c 1) → ((c : ℕ) → action_count t ≤ c → P c unknown) → (c : ℕ) → P c (bound_of v c)
    cases P p q c = go (dec_lt c (action_count t))
      where
        go : Dec (c < action_count t) → P c (bound_of v c)
        go (yes h) = rw (low c h) (p c h)
        go (no h) = let g : action_count t ≤ c = omega arith in rw (high c g) (q c g)

first_low : (a n c : ℕ) → c < a → bound_of (replicate a 1 ++ replicate n unknown) c ≡ 1
first_low zero n c h = absurd (omega arith)
first_low (suc a) n zero h = refl
first_low (suc a) n (suc c) h = first_low a n c (omega arith)

first_high : (a n c : ℕ) → a ≤ c → bound_of (replicate a 1 ++ replicate n unknown) c ≡ unknown
first_high zero zero c h = refl
first_high zero (suc n) zero h = refl
first_high zero (suc n) (suc c) h = first_high zero n c (omega arith)
first_high (suc a) n zero h = absurd (omega arith)
first_high (suc a) n (suc c) h = first_high a n c (omega arith)

module _ (f : ℕ) (t : Table) (valid : Valid t) where
  settles : Settled f t (rounds f t (suc (total (first t))) (first t))
  settles =
      ended f t valid (suc (total (first t))) (first t)
      (begins f t (first t) (simp (length-append, length-replicate) (omega arith)) (first_low (action_count t) t.head.abstracts)
      (first_high (action_count t) t.head.abstracts))
      (omega arith)

  pub computed : Least f t (least_bound f t)
  unfolding least_bound
  computed = settled_is_least f t valid _ settles.kept settles.done

-- The least bound is one number.
half : (f : ℕ) (t : Table) (r r' : ℕ) → Least f t r → Least f t r' → 1 ≤ r → (1 ≤ r') × (r' ≤ r)
half f t r r' p q h = q.smallest r (p.clears h).0 (p.clears h).1

pub least_one : (f : ℕ) (t : Table) (r r' : ℕ) → Least f t r → Least f t r' → r ≡ r'
least_one f t zero zero p q = refl
least_one f t zero (suc r') p q = absurd (omega (arith, half f t (suc r') zero q p (omega arith)))
least_one f t (suc r) zero p q = absurd (omega (arith, half f t (suc r) zero p q (omega arith)))
least_one f t (suc r) (suc r') p q = omega (arith, half f t (suc r) (suc r') p q (omega arith), half f t (suc r') (suc r) q p (omega arith))

-- What a loop of rounds sees: the bounds' length stays, and the answer of a round says whether one more is due.
pub improve_length : (f : ℕ) (t : Table) (v : List ℕ) (k : ℕ) → length (improve f t v k) ≡ length v
improve_length f t v k = go (lowers f t v k)
  where
    go : (c : Bool) → length (cond c (set v (method t k).head (method_bound f t v k)) v) ≡ length v
    go true = length-set v (method t k).head (method_bound f t v k)
    go false = refl

pub round_length : (f : ℕ) (t : Table) (v : List ℕ) (k : ℕ) → length (round f t v k) ≡ length v
round_length f t v zero = refl
round_length f t v (suc k) = improve_length f t (round f t v k) k ∙ round_length f t v k

pub settled_more : (f : ℕ) (t : Table) (v : List ℕ) (k : ℕ) → (not (settled f t v k) || lowers f t (round f t v k) k) ≡ not (settled f t v (suc k))
settled_more f t v k = go (settled f t v k) refl
  where
    both : (b : Bool) → b ≡ not (not b)
    both true = refl
    both false = refl

    go : (c : Bool) → settled f t v k ≡ c → (not c || lowers f t (round f t v k) k) ≡ not (c && not (lowers f t v k))
    go true e = rw (still f t v k (rw e tt)) (both (lowers f t v k))
    go false e = refl

settles_by : (c : Bool) → false ≡ not c → T c
settles_by true e = tt
settles_by false e = subst T (sym e) tt

pub round_settles : (f : ℕ) (t : Table) (v : List ℕ) → false ≡ not (settled f t v (method_count t))
    → T (settled f t (round f t v (method_count t)) (method_count t))
round_settles f t v e =
    let h = settles_by (settled f t v (method_count t)) e in
    rw (still f t v (method_count t) h) h

pub round_falls : (f : ℕ) (t : Table) (v : List ℕ) → Valid t → Kept f t v → (r : Bool) → r ≡ not (settled f t v (method_count t))
    → total (round f t v (method_count t)) + cond r 1 0 < total v + 1
round_falls f t v valid q true e = omega (arith, falls f t valid v q (method_count t) (omega arith) (rw (← e) tt))
round_falls f t v valid q false e = rw (still f t v (method_count t) (settles_by (settled f t v (method_count t)) e)) (omega arith)

pub settled_least : (f : ℕ) (t : Table) (v : List ℕ) → Valid t → Kept f t v → T (settled f t v (method_count t)) → least_bound f t ≡ up_to_most (bound_of v (start_task t))
settled_least f t v valid q h = least_one f t _ _ (computed f t valid) (settled_is_least f t valid v q h)
