-- The lines of an operator's numbers: what holds of each, that they rise, that no variable stands twice, how many they are.
use Prim.Native.Nat.{ℕ, zero, suc, ◌+◌, ◌-◌, ◌^◌, ◌≤◌, ◌<◌}
use mathlib.Core.Path.{◌≡◌, refl, sym, ap, subst, ◌∙◌}
use mathlib.Core.Bool.{Bool, true, false, ◌&&◌, ◌||◌, not, cond}
use mathlib.Core.List.{List, [], ◌∷◌, ◌++◌, map}
use native.Mathlib.Omega.{arith}
use borrow.Author.Tests.{eq-eqb, ne_eqb}
use lib.Bits.{or_lt}
use lib.Count.{ones}
use lib.ListN.{length, length-append, length-map}
use lib.Dec.{T, eqb}
use Rattle.basics.specs.Lists.{rows}
use Rattle.rules.specs.Facts.{Join, has, without, members_from, members_of}
use Rattle.rules.specs.Problems.{set, holding, top_next, bottom_next, kept, altered, fact_effect, change, push, prevails, effects}
use Rattle.version3.specs.Problems.{Setting, Effect, fixing, changing}
use Rattle.version3.specs.Order.{Each, Rising, Fresh}
use Rattle.version3.proofs.OrderLaws.{each_append, each_rows, each_map, each_cond, each_as, Out, out_each, rising_fresh, Climb, climb_low, climb_append, climb_cond, climb_rows, climb_rising}
use Rattle.laws.specs.Joins.{Within}
use Rattle.laws.proofs.ListLaws.{rows_length}
use Rattle.laws.proofs.SetLaws.{has_or, has_without}
use Rattle.laws.proofs.MemberLaws.{members_ones}
use Rattle.laws.proofs.JoinSizes.{without_lt}

-- ---- the lines of a set's facts

module _ {A : Type 0} (P : A → Type 0) (g : ℕ → A) (s : ℕ) where
  each_from : (n k : ℕ) → ((v : ℕ) → v < k + n → T (has s v) → P (g v)) → Each P (map g (members_from n k s))
  unfolding members_from
  each_from zero k h = tt
  each_from (suc n) k h = go (has s k) (h k (omega arith)) (each_from n (suc k) (λ v l. h v (omega arith)))
    where
      go : (c : Bool) → (T c → P (g k)) → Each P (map g (members_from n (suc k) s))
          → Each P (map g (cond c (k ∷ members_from n (suc k) s) (members_from n (suc k) s)))
      go true f r = (f tt, r)
      go false f r = r

  pub each_member : (n : ℕ) → ((v : ℕ) → v < n → T (has s v) → P (g v)) → Each P (map g (members_of n s))
  unfolding members_of
  each_member n h = each_from n 0 (λ v l. h v (omega arith))

module _ {A : Type 0} (num : A → ℕ) (g : ℕ → A) (s : ℕ) (same : (k : ℕ) → num (g k) ≡ k) where
  climb_from : (n k : ℕ) → Climb num k (k + n) (map g (members_from n k s))
  unfolding members_from
  climb_from zero k = omega arith
  climb_from (suc n) k =
      let e : suc k + n ≡ k + suc n = omega arith in
      go (has s k) (subst (λ (hi : ℕ). Climb num (suc k) hi (map g (members_from n (suc k) s))) e (climb_from n (suc k)))
    where
      go : (c : Bool) → Climb num (suc k) (k + suc n) (map g (members_from n (suc k) s))
          → Climb num k (k + suc n) (map g (cond c (k ∷ members_from n (suc k) s) (members_from n (suc k) s)))
      go true h = (omega (arith, same k), rw (same k) h)
      go false h = climb_low num k (suc k) (k + suc n) (map g (members_from n (suc k) s)) (omega arith) h

  pub climb_members : (n : ℕ) → Climb num 0 n (map g (members_of n s))
  unfolding members_of
  climb_members n = let e : 0 + n ≡ n = omega arith in subst (λ (hi : ℕ). Climb num 0 hi (map g (members_from n 0 s))) e (climb_from n 0)

-- ---- the lines of an operator

module _ (top free : ℕ) (j : Join) (task i : ℕ) (rest : List ℕ) where
  -- Whether top and position i keep their values.
  abbrev top_kept : Bool
  top_kept = eqb (top_next i rest) i

  abbrev task_kept : Bool
  task_kept = eqb (bottom_next free rest) task

  abbrev kept_facts : List Setting
  kept_facts = holding (members_of top (kept j))

  abbrev top_setting : List Setting
  top_setting = cond top_kept (set top i ∷ []) []

  abbrev task_setting : List Setting
  task_setting = cond task_kept (set (top + i) task ∷ []) []

  abbrev fact_effects : List Effect
  fact_effects = map (fact_effect j.needs j.dels) (members_of top (altered j))

  abbrev top_effect : List Effect
  top_effect = cond top_kept [] (change top i (top_next i rest) ∷ [])

  abbrev task_effect : List Effect
  task_effect = cond task_kept [] (change (top + i) task (bottom_next free rest) ∷ [])

  abbrev pushes : List Effect
  pushes = rows (push top i rest) (length rest - 1)

  pub each_prevail : (P : Setting → Type 0) → ((k : ℕ) → k < top → T (has (kept j) k) → P (set k 0))
      → (top_kept ≡ true → P (set top i)) → (task_kept ≡ true → P (set (top + i) task)) → Each P (prevails top free j task i rest)
  each_prevail P a b c =
      each_append P (kept_facts ++ top_setting) task_setting
      (each_append P kept_facts top_setting (each_member P (λ k. set k 0) (kept j) top a)
      (each_cond P top_kept (set top i ∷ []) [] (λ e. (b e, tt)) (λ e. tt)))
      (each_cond P task_kept (set (top + i) task ∷ []) [] (λ e. (c e, tt)) (λ e. tt))

  pub each_effect : (P : Effect → Type 0) → ((k : ℕ) → k < top → T (has (altered j) k) → P (fact_effect j.needs j.dels k))
      → (top_kept ≡ false → P (change top i (top_next i rest)))
      → (task_kept ≡ false → P (change (top + i) task (bottom_next free rest)))
      → ((k : ℕ) → k < length rest - 1 → P (push top i rest k)) → Each P (effects top free j task i rest)
  each_effect P a b c d =
      each_append P (fact_effects ++ top_effect ++ task_effect) pushes
      (each_append P (fact_effects ++ top_effect) task_effect
      (each_append P fact_effects top_effect (each_member P (fact_effect j.needs j.dels) (altered j) top a)
      (each_cond P top_kept [] (change top i (top_next i rest) ∷ []) (λ e. tt) (λ e. (b e, tt))))
      (each_cond P task_kept [] (change (top + i) task (bottom_next free rest) ∷ []) (λ e. tt) (λ e. (c e, tt))))
      (each_rows P (push top i rest) (length rest - 1) d)

  module _ (low : 1 ≤ i) where
    -- They rise.
    pub prevail_rises : Rising (fixing (prevails top free j task i rest))
    prevail_rises =
        let num : Setting → ℕ = λ s. s.variable in
        climb_rising num 0 (top + i + 1) (prevails top free j task i rest)
        (climb_append num 0 (top + 1) (top + i + 1) (kept_facts ++ top_setting) task_setting
        (climb_append num 0 top (top + 1) kept_facts top_setting (climb_members num (λ k. set k 0) (kept j) (λ k. refl) top)
        (climb_cond num top (top + 1) top_kept (set top i ∷ []) [] (omega arith, omega arith) (omega arith)))
        (climb_cond num (top + 1) (top + i + 1) task_kept (set (top + i) task ∷ []) [] (omega arith, omega arith) (omega arith)))

    pub effects_rise : Rising (changing (effects top free j task i rest))
    effects_rise =
        let num : Effect → ℕ = λ e. e.variable in
        let n = length rest - 1 in
        climb_rising num 0 (top + i + 1 + n) (effects top free j task i rest)
        (climb_append num 0 (top + i + 1) (top + i + 1 + n) (fact_effects ++ top_effect ++ task_effect) pushes
        (climb_append num 0 (top + 1) (top + i + 1) (fact_effects ++ top_effect) task_effect
        (climb_append num 0 top (top + 1) fact_effects top_effect (climb_members num (fact_effect j.needs j.dels) (altered j) (λ k. refl) top)
        (climb_cond num top (top + 1) top_kept [] (change top i (top_next i rest) ∷ []) (omega arith) (omega arith, omega arith)))
        (climb_cond num (top + 1) (top + i + 1) task_kept [] (change (top + i) task (bottom_next free rest) ∷ []) (omega arith) (omega arith, omega arith)))
        (climb_rows num (push top i rest) (top + i + 1) (λ k. omega arith) n))

    -- What stands on a prevail line is not changed: no fact is kept and altered,
    kept_altered : (k : ℕ) → T (has (altered j) k) → T (has (kept j) k) → ⊥
    kept_altered k p q =
        go (has j.needs k) (has j.adds k) (has j.dels k)
        (subst T (has_or j.dels (without j.adds j.needs) k ∙ ap (λ (x : Bool). has j.dels k || x) (has_without j.adds j.needs k)) p)
        (subst T (has_without j.needs j.dels k) q)
      where
        go : (needed added deleted : Bool) → T (deleted || (added && not needed)) → T (needed && not deleted) → ⊥
        go true true true p q = q
        go true true false p q = p
        go true false true p q = q
        go true false false p q = p
        go false a d p q = q

    never_both : (c : Bool) → c ≡ false → c ≡ true → ⊥
    never_both c p q = subst T (sym q ∙ p) tt

    -- and neither is anything else.
    abbrev Unasked : ℕ → Type 0
    Unasked w = Each (λ s. w ≡ s.variable → ⊥) (prevails top free j task i rest)

    unasked : Each (λ e. Unasked e.variable) (effects top free j task i rest)
    unasked =
        each_effect (λ e. Unasked e.variable)
        (λ k l h.
        each_prevail (λ s. k ≡ s.variable → ⊥)
        (λ m _ p e. kept_altered k h (subst (λ (n : ℕ). T (has (kept j) n)) (sym e) p)) (λ _ e. omega arith) (λ _ e. omega arith))
        (λ c. each_prevail (λ s. top ≡ s.variable → ⊥) (λ m l _ e. omega arith) (λ d e. never_both top_kept c d) (λ _ e. omega arith))
        (λ c. each_prevail (λ s. top + i ≡ s.variable → ⊥) (λ m l _ e. omega arith) (λ _ e. omega arith) (λ d e. never_both task_kept c d))
        (λ k l. each_prevail (λ s. top + i + suc k ≡ s.variable → ⊥) (λ m l _ e. omega arith) (λ _ e. omega arith) (λ _ e. omega arith))

    pub lines_once : Fresh (fixing (prevails top free j task i rest)) (changing (effects top free j task i rest))
    lines_once =
        let ss = prevails top free j task i rest in
        let es = effects top free j task i rest in
        rising_fresh (fixing ss) (changing es) effects_rise
        (each_map (Out (fixing ss)) (λ e. e.variable) es
        (each_as (λ e. Unasked e.variable) (λ e. Out (fixing ss) e.variable)
        (λ e h. out_each e.variable (fixing ss) (each_map (λ w. e.variable ≡ w → ⊥) (λ s. s.variable) ss h)) es unasked))

-- ---- how many they are

cond_length : {A : Type 0} (c : Bool) (x : A) → length (cond c (x ∷ []) []) ≡ cond c 1 0
cond_length true x = refl
cond_length false x = refl

uncond_length : {A : Type 0} (c : Bool) (x : A) → length (cond c [] (x ∷ [])) ≡ cond c 0 1
uncond_length true x = refl
uncond_length false x = refl

-- Top keeps its value where one task is left.
top_kept_lem : (i : ℕ) (rest : List ℕ) → 1 ≤ i → eqb (top_next i rest) i ≡ eqb (length rest) 1
top_kept_lem i [] l = ne_eqb (i + 0 - 1) i (λ e. omega arith)
top_kept_lem i (x ∷ []) l = eq-eqb (i + 1 - 1) i (omega arith)
top_kept_lem i (x ∷ y ∷ rest) l =
    let r = length (x ∷ y ∷ rest) in
    ne_eqb (i + r - 1) i (λ e. omega arith) ∙ sym (ne_eqb r 1 (λ e. omega arith))

-- The two lines of top and position i are on one side or the other.
either : (c d : Bool) → cond c 0 1 + cond d 0 1 ≡ 2 - (cond c 1 0 + cond d 1 0)
either true true = refl
either true false = refl
either false true = refl
either false false = refl

module _ (top : ℕ) (j : Join) (within : Within top j) where
  pub kept_low : kept j < 2 ^ top
  kept_low = without_lt top j.needs j.dels within.needs within.dels

  pub altered_low : altered j < 2 ^ top
  altered_low = or_lt top j.dels (without j.adds j.needs) within.dels (without_lt top j.adds j.needs within.adds within.needs)

module _ (top free : ℕ) (j : Join) (task i : ℕ) (rest : List ℕ) (low : 1 ≤ i) (within : Within top j) where
  pub prevail_count_lem : length (prevails top free j task i rest)
      ≡ ones (kept j) + (cond (eqb (length rest) 1) 1 0 + cond (eqb (bottom_next free rest) task) 1 0)
  prevail_count_lem =
      let facts : length (holding (members_of top (kept j))) ≡ ones (kept j) =
      length-map (members_of top (kept j)) (λ k. set k 0) ∙ members_ones top (kept j) (kept_low top j within)
      in
      let one : length (cond (eqb (top_next i rest) i) (set top i ∷ []) []) ≡ cond (eqb (length rest) 1) 1 0 =
      cond_length (eqb (top_next i rest) i) (set top i) ∙ ap (λ (c : Bool). cond c 1 0) (top_kept_lem i rest low)
      in
      simp length-append (omega (arith, cond_length (eqb (bottom_next free rest) task) (set (top + i) task)))

  pub effect_count_lem : length (effects top free j task i rest)
      ≡ ones (altered j) + ((2 - (cond (eqb (length rest) 1) 1 0 + cond (eqb (bottom_next free rest) task) 1 0)) + (length rest - 1))
  effect_count_lem =
      let facts : length (map (fact_effect j.needs j.dels) (members_of top (altered j))) ≡ ones (altered j) =
      length-map (members_of top (altered j)) (fact_effect j.needs j.dels) ∙ members_ones top (altered j) (altered_low top j within)
      in
      let one : length (cond (eqb (top_next i rest) i) [] (change top i (top_next i rest) ∷ [])) ≡ cond (eqb (length rest) 1) 0 1 =
      uncond_length (eqb (top_next i rest) i) (change top i (top_next i rest)) ∙ ap (λ (c : Bool). cond c 0 1) (top_kept_lem i rest low)
      in
      simp length-append
      (omega (
        arith,
        uncond_length (eqb (bottom_next free rest) task) (change (top + i) task (bottom_next free rest)),
        rows_length (push top i rest) (length rest - 1),
        either (eqb (length rest) 1) (eqb (bottom_next free rest) task),
      ))
