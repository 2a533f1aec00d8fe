-- The choices in a state by row number, and rows that are passed over because their task is not on top.
use Prim.Native.Nat.{ℕ, zero, suc, ◌+◌, ◌-◌, ◌≤◌, ◌<◌}
use mathlib.Core.Path.{◌≡◌, refl, sym, ap, subst, ◌∙◌}
use mathlib.Core.Bool.{Bool, true, false, cond}
use mathlib.Core.List.{List, [], ◌∷◌, ◌++◌}
use native.Mathlib.Omega.{arith}
use native.Mathlib.Decide.{dec_lt, ℕ_discrete}
use lib.Dec.{T, ltb, leb, eqb, eqb→eq, leb→le}
use Rattle.rules.specs.Limits.{most_tasks}
use Rattle.rules.specs.Tables.{Table, action_count, method_count, method}
use Rattle.rules.specs.Progression.{State, Step, act, mth, height, on_top, fits, enabled, allowed, all_allowed}
use Rattle.rules.specs.Operators.{Operator, expand, task_of, positions, emitted, applies}
use Rattle.laws.specs.Valid.{Valid}
use Rattle.laws.specs.Steps.{step_at}
use Rattle.laws.proofs.TestLaws.{and_l, and_r}
use Rattle.laws.proofs.StepNumbers.{step_action, step_method}
use Rattle.rules.specs.Searches.{may}
use Rattle.rules.specs.Walks.{here, picks, choices}
use Rattle.links.specs.Links.{row_count, Leads}
use Rattle.links.proofs.LinkLaws.{task_low}
use Rattle.walks.specs.Levels.{from}

module _ (b f : ℕ) (t : Table) (s : State) where
  -- What may be applied has its task on top.
  pub may_top : (o : Operator) → T (may b f t s o) → T (on_top (task_of t o.what) s.stack)
  may_top o h =
      let a : T (all_allowed t s (expand f t o)) =
      and_r (eqb o.at (height s)) (all_allowed t s (expand f t o)) (and_r (emitted b f t o) (applies f t s o) h)
      in
      go o.what (and_l (fits t s.stack o.what) (enabled t s.facts o.what) (and_l (allowed t s o.what) _ a))
    where
      go : (x : Step) → T (fits t s.stack x) → T (on_top (task_of t x) s.stack)
      go (act k) q = and_r (ltb k (action_count t)) (on_top k s.stack) q
      go (mth k) q = and_r (ltb k (method_count t)) (on_top (method t k).head s.stack) q

  untrue : (x : Bool) → (T x → ⊥) → x ≡ false
  untrue true h = absurd (h tt)
  untrue false h = refl

  may_other : (x : Step) (c : ℕ) (st : List ℕ) → s.stack ≡ c ∷ st → (task_of t x ≡ c → ⊥) → may b f t s (here s x) ≡ false
  may_other x c st e h =
      untrue (may b f t s (here s x))
      (λ m. h (sym (eqb→eq c (task_of t x) (subst (λ (l : List ℕ). T (on_top (task_of t x) l)) e (may_top (here s x) m)))))

  -- Nor may what exists at no position.
  may_nowhere : (x : Step) → positions b f t x ≡ 0 → may b f t s (here s x) ≡ false
  may_nowhere x e =
      untrue (may b f t s (here s x))
      (λ m.
      let q = and_l (emitted b f t (here s x)) (applies f t s (here s x)) m in
      let low = leb→le 1 (height s) (and_l (leb 1 (height s)) (leb (height s) (positions b f t x)) q) in
      let high = leb→le (height s) (positions b f t x) (and_r (leb 1 (height s)) (leb (height s) (positions b f t x)) q) in
      omega (arith, e, low, high))

  may_empty : (x : Step) → s.stack ≡ [] → may b f t s (here s x) ≡ false
  may_empty x e = untrue (may b f t s (here s x)) (λ m. subst (λ (l : List ℕ). T (on_top (task_of t x) l)) e (may_top (here s x) m))

  -- ---- picks

  pick_on : (step : ℕ → Step) (n k : ℕ) → may b f t s (here s (step k)) ≡ true → picks b f t s step (suc n) k ≡ here s (step k) ∷ picks b f t s step n (suc k)
  unfolding picks
  pick_on step n k e = rw e

  pick_off : (step : ℕ → Step) (n k : ℕ) → may b f t s (here s (step k)) ≡ false → picks b f t s step (suc n) k ≡ picks b f t s step n (suc k)
  unfolding picks
  pick_off step n k e = rw e

  picks_none : (step : ℕ → Step) (n k : ℕ) → n ≡ 0 → picks b f t s step n k ≡ []
  unfolding picks
  picks_none step n k e = ap (λ (m : ℕ). picks b f t s step m k) e

  same_picks : (x y : ℕ → Step) (n j k : ℕ) → ((i : ℕ) → i < n → x (j + i) ≡ y (k + i)) → picks b f t s x n j ≡ picks b f t s y n k
  unfolding picks
  same_picks x y zero j k h = refl
  same_picks x y (suc n) j k h =
      let e0 : x j ≡ y k = (let a : j + 0 ≡ j = omega arith in let c : k + 0 ≡ k = omega arith in sym (ap x a) ∙ h 0 (omega arith) ∙ ap y c) in
      let r = same_picks x y n (suc j) (suc k) (λ i l. let a : j + suc i ≡ suc j + i = omega arith in let c : k + suc i ≡ suc k + i = omega arith in sym (ap x a) ∙ h (suc i) (omega arith) ∙ ap y c) in
      λ i. cond (may b f t s (here s (e0 i))) (here s (e0 i) ∷ r i) (r i)

  picks_append : (step : ℕ → Step) (m n k : ℕ) → picks b f t s step (m + n) k ≡ picks b f t s step m k ++ picks b f t s step n (k + m)
  unfolding picks
  picks_append step zero n k = let a : 0 + n ≡ n = omega arith in let c : k ≡ k + 0 = omega arith in λ i. picks b f t s step (a i) (c i)
  picks_append step (suc m) n k =
      let a : suc m + n ≡ suc (m + n) = omega arith in
      let c : suc k + m ≡ k + suc m = omega arith in
      ap (λ (z : ℕ). picks b f t s step z k) a ∙ go (may b f t s (here s (step k))) (picks_append step m n (suc k) ∙ ap (λ (z : ℕ). picks b f t s step m (suc k) ++ picks b f t s step n z) c)
    where
      go : (x : Bool) → picks b f t s step (m + n) (suc k) ≡ picks b f t s step m (suc k) ++ picks b f t s step n (k + suc m)
          → cond x (here s (step k) ∷ picks b f t s step (m + n) (suc k)) (picks b f t s step (m + n) (suc k))
          ≡ cond x (here s (step k) ∷ picks b f t s step m (suc k)) (picks b f t s step m (suc k)) ++ picks b f t s step n (k + suc m)
      go true e = ap (λ (l : List Operator). here s (step k) ∷ l) e
      go false e = e

  -- All rows from the first on.
  pub choices_rows : choices b f t s ≡ picks b f t s (step_at t) (row_count t) 0
  unfolding choices
  choices_rows =
      sym
      (picks_append (step_at t) (action_count t) (method_count t) 0
      ∙ (λ i. same_picks (step_at t) act (action_count t) 0 0 (λ j l. let a : 0 + j ≡ j = omega arith in rw a (step_action t j l)) i ++ same_picks (step_at t) mth (method_count t) (0 + action_count t) 0 (λ j l. let a : 0 + action_count t + j ≡ action_count t + j = omega arith in let c : 0 + j ≡ j = omega arith in ap (step_at t) a ∙ step_method t j ∙ ap mth (sym c)) i))

  -- Rows that may not be applied are passed over.
  pass : (n k v : ℕ) → k ≤ v → ((j : ℕ) → k ≤ j → j < k + n → j < v → may b f t s (here s (step_at t j)) ≡ false)
      → picks b f t s (step_at t) n k ≡ picks b f t s (step_at t) (k + n - v) v
  unfolding picks
  pass zero k v l h = sym (picks_none (step_at t) (k + 0 - v) v (omega arith))
  pass (suc n) k v l h = go (dec_lt k v) (λ g. pass n (suc k) v g (λ j a c d. h j (omega arith) (omega arith) d))
    where
      go : Dec (k < v) → (k < v → picks b f t s (step_at t) n (suc k) ≡ picks b f t s (step_at t) (suc k + n - v) v)
          → picks b f t s (step_at t) (suc n) k ≡ picks b f t s (step_at t) (k + suc n - v) v
      go (yes g) r =
          let e : suc k + n - v ≡ k + suc n - v = omega arith in
          pick_off (step_at t) n k (h k (omega arith) (omega arith) g) ∙ r g ∙ ap (λ (m : ℕ). picks b f t s (step_at t) m v) e
      go (no g) r =
          let a : suc n ≡ k + suc n - v = omega arith in
          let c : k ≡ v = omega arith in
          λ i. picks b f t s (step_at t) (a i) (c i)

  none_may : ((j : ℕ) → j < row_count t → may b f t s (here s (step_at t j)) ≡ false) → (k : ℕ) → from b f t s k ≡ []
  none_may h k =
      let v = k + (row_count t - k) in
      pass (row_count t - k) k v (omega arith) (λ j a d g. h j (omega arith))
      ∙ picks_none (step_at t) (k + (row_count t - k) - v) v (omega arith)

  module _ (c : ℕ) (st : List ℕ) (top : s.stack ≡ c ∷ st) where
    -- From a row on to the next of the task on top.
    pub on_to : (k v : ℕ) → k ≤ row_count t → Leads b f t c k v → from b f t s k ≡ from b f t s v
    on_to k v l q =
        let e : k + (row_count t - k) ≡ row_count t = omega arith in
        pass (row_count t - k) k v q.low (λ j a d g. skipped j (ℕ_discrete (task_of t (step_at t j)) c) (q.skips j a (omega arith) g))
        ∙ ap (λ (n : ℕ). picks b f t s (step_at t) (n - v) v) e
      where
        skipped : (j : ℕ) → Dec (task_of t (step_at t j) ≡ c) → (task_of t (step_at t j) ≡ c → positions b f t (step_at t j) ≡ 0)
            → may b f t s (here s (step_at t j)) ≡ false
        skipped j (yes same) h = may_nowhere (step_at t j) (h same)
        skipped j (no other) h = may_other (step_at t j) c st top other

    -- No row has a task that the table has not.
    pub none_on_top : Valid t → most_tasks ≤ c → (k : ℕ) → from b f t s k ≡ []
    none_on_top v l = none_may (λ j g. may_other (step_at t j) c st top (λ same. omega (arith, task_low t v j g)))

  pub none_empty : s.stack ≡ [] → (k : ℕ) → from b f t s k ≡ []
  none_empty e = none_may (λ j g. may_empty (step_at t j) e)

  pub from_none : (k : ℕ) → row_count t ≤ k → from b f t s k ≡ []
  from_none k l = picks_none (step_at t) (row_count t - k) k (omega arith)

  module _ (k : ℕ) (l : k < row_count t) where
    some_left : row_count t - k ≡ suc (row_count t - suc k)
    some_left = omega arith

    pub from_on : may b f t s (here s (step_at t k)) ≡ true → from b f t s k ≡ here s (step_at t k) ∷ from b f t s (suc k)
    from_on e = ap (λ (n : ℕ). picks b f t s (step_at t) n k) some_left ∙ pick_on (step_at t) (row_count t - suc k) k e

    pub from_off : may b f t s (here s (step_at t k)) ≡ false → from b f t s k ≡ from b f t s (suc k)
    from_off e = ap (λ (n : ℕ). picks b f t s (step_at t) n k) some_left ∙ pick_off (step_at t) (row_count t - suc k) k e
