-- The joined sets of an operator say when its steps can run one after the other, and what they leave.
use Prim.Native.Nat.{ℕ, zero, suc}
use mathlib.Core.Path.{◌≡◌, refl, sym, ap, ◌∙◌}
use mathlib.Core.Bool.{Bool, true, false, ◌&&◌, not, cond}
use mathlib.Core.List.{List, [], ◌∷◌, ◌++◌, map, tail, append_assoc}
use mathlib.Core.Option.{none, some}
use native.Mathlib.Omega.{arith}
use lib.ListN.{length, drop}
use lib.Bits.{bit_and, bit_or}
use lib.Dec.{T, ltb, eqb, eqb_refl}
use Rattle.rules.specs.Tables.{Table, action_count, action, method}
use Rattle.rules.specs.Facts.{Join, without, empty, holds, changed, no_join, join_one, join_from, join_of}
use Rattle.rules.specs.Progression.{State, Step, act, mth, fits, allowed, all_allowed, next, after_all, leading, prefix, stays}
use Rattle.rules.specs.Operators.{joined, company, leaves}
use Rattle.laws.specs.Joins.{act_on, and_then, run_all}
use Rattle.laws.proofs.TestLaws.{and_l, and_r, and_i}
use Rattle.laws.proofs.SetLaws.{var, ∅, ◌∩◌, ◌∪◌, ◌∖◌, solve}
use Rattle.laws.proofs.JoinLaws.{facts_step, unchanged, join_runs, join_ran, join_can}

-- Every task is an action.
abbrev pub Below : ℕ → List ℕ → Type 0
Below a [] = Unit {0}
Below a (k ∷ ks) = T (ltb k a) × Below a ks

below_leading : (a : ℕ) (xs : List ℕ) → Below a (leading a xs)
below_leading a [] = tt
below_leading a (x ∷ xs) = go (ltb x a) refl (below_leading a xs)
  where
    go : (c : Bool) → ltb x a ≡ c → Below a (leading a xs) → Below a (cond c (x ∷ leading a xs) [])
    go true e h = (rw e tt, h)
    go false e h = tt

leading_drop : (a : ℕ) (xs : List ℕ) → leading a xs ++ drop (length (leading a xs)) xs ≡ xs
leading_drop a [] = refl
leading_drop a (x ∷ xs) = go (ltb x a) (leading_drop a xs)
  where
    go : (c : Bool) → leading a xs ++ drop (length (leading a xs)) xs ≡ xs
        → cond c (x ∷ leading a xs) [] ++ drop (length (cond c (x ∷ leading a xs) [])) (x ∷ xs) ≡ x ∷ xs
    go true h = ap (λ (l : List ℕ). x ∷ l) h
    go false h = refl

module _ (t : Table) where
  -- Actions that may run one by one do so,
  ran : (ks : List ℕ) (s : State) → T (all_allowed t s (map act ks))
      → run_all (map (action t) ks) s.facts ≡ some (after_all t s (map act ks)).facts
  unfolding run_all act_on
  ran [] s h = refl
  ran (k ∷ ks) s h =
      go (holds (action t k).needs s.facts) (and_r (fits t s.stack (act k)) _ (and_l (allowed t s (act k)) _ h))
      (ran ks (next t s (act k)) (and_r (allowed t s (act k)) _ h))
    where
      go : (c : Bool) → T c
          → run_all (map (action t) ks) (next t s (act k)).facts ≡ some (after_all t (next t s (act k)) (map act ks)).facts
          → and_then (cond c (some (next t s (act k)).facts) none) (run_all (map (action t) ks))
          ≡ some (after_all t (next t s (act k)) (map act ks)).facts
      go true u r = r
      go false u r = absurd u

  -- and those that lie on top of the stack and do so were allowed to.
  can : (ks : List ℕ) (fa : ℕ) (rest : List ℕ) {x : ℕ} → Below (action_count t) ks → run_all (map (action t) ks) fa ≡ some x
      → T (all_allowed t (record { facts = fa; stack = ks ++ rest }) (map act ks))
  unfolding run_all act_on
  can [] fa rest b e = tt
  can (k ∷ ks) fa rest {x} b e = go (holds (action t k).needs fa) e (can ks new rest b.1)
    where
      new : ℕ
      new = changed (action t k).dels (action t k).adds fa

      go : (c : Bool) → and_then (cond c (some new) none) (run_all (map (action t) ks)) ≡ some x
          → (run_all (map (action t) ks) new ≡ some x → T (all_allowed t (record { facts = new; stack = ks ++ rest }) (map act ks)))
          → T (((ltb k (action_count t) && eqb k k) && c) && all_allowed t (record { facts = new; stack = ks ++ rest }) (map act ks))
      go true e f = and_i ((ltb k (action_count t) && eqb k k) && true) _ (and_i (ltb k (action_count t) && eqb k k) true (and_i (ltb k (action_count t)) (eqb k k) b.0 (eqb_refl k)) tt) (f e)
      go false e f = let z : ◌≡◌ {A = ℕ} 0 1 = cc in absurd (omega arith)

  -- The facts and the stack after them.
  facts_after : (ks : List ℕ) (old : ℕ) (s : State) (j : Join) → s.facts ≡ changed j.dels j.adds old
      → (after_all t s (map act ks)).facts ≡ changed (join_from j (map (action t) ks)).dels (join_from j (map (action t) ks)).adds old
  unfolding join_from join_one
  facts_after [] old s j e = e
  facts_after (k ∷ ks) old s j e =
      facts_after ks old (next t s (act k)) (join_one j (action t k))
      (ap (changed (action t k).dels (action t k).adds) e
      ∙ sym (facts_step 0 j.adds j.dels 0 (action t k).adds (action t k).dels old))

  stack_after : (ks : List ℕ) (fa : ℕ) (rest : List ℕ) → (after_all t (record { facts = fa; stack = ks ++ rest }) (map act ks)).stack ≡ rest
  stack_after [] fa rest = refl
  stack_after (k ∷ ks) fa rest = stack_after ks _ rest

-- A dead method's actions cannot run.
pub living : (f : ℕ) (t : Table) (k : ℕ) (s : State) → T (all_allowed t s (map act (prefix f t k))) → T (not (joined f t (mth k)).dead)
unfolding joined
living f t k s h =
    (join_ran (join_of (map (action t) (prefix f t k))) s.facts (join_runs (map (action t) (prefix f t k)) s.facts ∙ ran t (prefix f t k) s h)).0

-- A method's prefix and the subtasks that stay are its subtasks; every task of the prefix is an action.
pub prefix_whole : (f : ℕ) (t : Table) (k : ℕ) → prefix f t k ++ stays f t k ≡ (method t k).subs
prefix_whole zero t k = refl
prefix_whole (suc f) t k = leading_drop (action_count t) (method t k).subs

pub prefix_below : (f : ℕ) (t : Table) (k : ℕ) → Below (action_count t) (prefix f t k)
prefix_below zero t k = tt
prefix_below (suc f) t k = below_leading (action_count t) (method t k).subs

-- A method operator: when it can run, and what it leaves.
module _ (f : ℕ) (t : Table) (k : ℕ) where
  -- The stack as the method leaves it: its prefix on top, then its other subtasks, then what was below.
  pub pushed : (ys : List ℕ) → (method t k).subs ++ ys ≡ prefix f t k ++ (stays f t k ++ ys)
  pushed ys = ap (λ (l : List ℕ). l ++ ys) (sym (prefix_whole f t k)) ∙ append_assoc (prefix f t k) (stays f t k) ys

  pub prefix_needs : (s : State) → T (all_allowed t s (mth k ∷ map act (prefix f t k)))
      → T (not (joined f t (mth k)).dead) × T (holds (joined f t (mth k)).needs s.facts)
  unfolding joined
  prefix_needs s h =
      join_ran (join_of (map (action t) (prefix f t k))) s.facts
      (join_runs (map (action t) (prefix f t k)) s.facts
      ∙ ran t (prefix f t k) (next t s (mth k)) (and_r (allowed t s (mth k)) _ h))

  pub prefix_runs : (s : State) → T (fits t s.stack (mth k)) → T (not (joined f t (mth k)).dead)
      → T (holds (joined f t (mth k)).needs s.facts)
      → T (all_allowed t s (mth k ∷ map act (prefix f t k)))
  unfolding joined
  prefix_runs s h d n =
      and_i (allowed t s (mth k)) (all_allowed t (next t s (mth k)) (map act (prefix f t k))) (and_i (fits t s.stack (mth k)) true h tt)
      (rw (pushed (tail s.stack))
      (can t (prefix f t k) s.facts (stays f t k ++ tail s.stack) (prefix_below f t k)
      (sym (join_runs (map (action t) (prefix f t k)) s.facts) ∙ join_can (join_of (map (action t) (prefix f t k))) s.facts d n)))

  pub prefix_after : (s : State) → after_all t s (mth k ∷ map act (prefix f t k))
      ≡ record {
        facts = changed (joined f t (mth k)).dels (joined f t (mth k)).adds s.facts;
        stack = stays f t k ++ tail s.stack;
      }
  unfolding joined join_of
  prefix_after s =
      let e = facts_after t (prefix f t k) s.facts (next t s (mth k)) no_join (sym (unchanged s.facts)) in
      let d : (after_all t (next t s (mth k)) (map act (prefix f t k))).stack ≡ stays f t k ++ tail s.stack =
      ap (λ (l : List ℕ). (after_all t (record { facts = s.facts; stack = l }) (map act (prefix f t k))).stack) (pushed (tail s.stack))
      ∙ stack_after t (prefix f t k) s.facts (stays f t k ++ tail s.stack)
      in
      λ i. record { facts = e i; stack = d i }

-- An action alone: its needs and adds are its own, its deletes lose its adds, and it is never dead.
pub action_joined : (f : ℕ) (t : Table) (k : ℕ) → joined f t (act k)
    ≡ record {
      needs = (action t k).needs;
      adds = (action t k).adds;
      dels = without (action t k).dels (action t k).adds;
      dead = false;
    }
unfolding joined join_of join_from join_one
action_joined f t k =
    let a = action t k in
    let n : bit_or 0 (without a.needs 0) ≡ a.needs = solve (∅ ∪ (var 0 ∖ ∅)) (var 0) (a.needs ∷ []) tt in
    let p : changed a.dels a.adds 0 ≡ a.adds = solve ((∅ ∖ var 0) ∪ var 1) (var 1) (a.dels ∷ a.adds ∷ []) tt in
    let d : without (bit_or 0 a.dels) a.adds ≡ without a.dels a.adds =
    solve ((∅ ∪ var 0) ∖ var 1) (var 0 ∖ var 1) (a.dels ∷ a.adds ∷ []) tt
    in
    let z : not (empty (bit_and a.needs 0)) ≡ false = ap (λ (x : ℕ). not (empty x)) (solve (var 0 ∩ ∅) ∅ (a.needs ∷ []) tt) in
    λ i. record { needs = n i; adds = p i; dels = d i; dead = z i }

-- Any operator, by its joined sets.
module _ (f : ℕ) (t : Table) where
  pub step_needs : (x : Step) (s : State) → T (all_allowed t s (x ∷ map act (company f t x)))
      → T (not (joined f t x).dead) × T (holds (joined f t x).needs s.facts)
  step_needs (mth k) s h = prefix_needs f t k s h
  step_needs (act k) s h = rw (action_joined f t k) (tt, and_r (fits t s.stack (act k)) _ (and_l (allowed t s (act k)) true h))

  pub step_runs : (x : Step) (s : State) → T (fits t s.stack x) → T (not (joined f t x).dead) → T (holds (joined f t x).needs s.facts)
      → T (all_allowed t s (x ∷ map act (company f t x)))
  step_runs (mth k) s h d n = prefix_runs f t k s h d n
  step_runs (act k) s h d n =
      and_i (allowed t s (act k)) true (and_i (fits t s.stack (act k)) _ h (rw (action_joined f t k) at n)) tt

  pub step_after : (x : Step) (s : State) → after_all t s (x ∷ map act (company f t x))
      ≡ record {
        facts = changed (joined f t x).dels (joined f t x).adds s.facts;
        stack = leaves f t x ++ tail s.stack;
      }
  step_after (mth k) s = prefix_after f t k s
  step_after (act k) s =
      let a = action t k in
      let e : changed a.dels a.adds s.facts ≡ changed (without a.dels a.adds) a.adds s.facts =
      solve (var 2 ∖ var 0 ∪ var 1) (var 2 ∖ (var 0 ∖ var 1) ∪ var 1) (a.dels ∷ a.adds ∷ s.facts ∷ []) tt
      in
      rw (action_joined f t k) (ap (λ (x : ℕ). record { facts = x; stack = tail s.stack }) e)
