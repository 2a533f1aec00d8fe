-- Each complete run has exactly one list of operators, each at its true height, that expands to it.
use Prim.Native.Nat.{ℕ, zero, suc}
use mathlib.Core.Path.{◌≡◌, refl, sym, ap, subst, ◌∙◌}
use mathlib.Core.Bool.{Bool, true, false, cond}
use mathlib.Core.List.{List, [], ◌∷◌, ◌++◌, map, append_assoc}
use native.Mathlib.Omega.{arith}
use lib.ListN.{length, take, drop, take-append-drop}
use lib.Seq.{take_at}
use lib.Dec.{T, ltb, eqb, eqb→eq, ltb→lt}
use Rattle.rules.specs.Tables.{Table, action_count, method_count, method}
use Rattle.rules.specs.Progression.{State, Step, act, mth, next, after_all, height, leading, prefix, stays, due}
use Rattle.rules.specs.Operators.{Operator, company, expand, expand_all}
use Rattle.laws.specs.Valid.{Valid}
use Rattle.theorems.specs.Runs.{Run, TrueHeights}
use Rattle.laws.proofs.JoinedPrefix.{prefix_whole}
use Rattle.laws.proofs.TestLaws.{and_l, and_r}

-- The operators of some steps: one begins wherever no prefix action is due.
abbrev pub operators : ℕ → Table → ℕ → State → List Step → List Operator
operators f t o s [] = []
operators f t zero s (x ∷ xs) = record { what = x; at = height s } ∷ operators f t (due f t zero x) (next t s x) xs
operators f t (suc o) s (x ∷ xs) = operators f t (due f t (suc o) x) (next t s x) xs

module _ (f : ℕ) (t : Table) where
  passed_over : (ks : List ℕ) (s : State) (ys : List Step)
      → operators f t (length ks) s (map act ks ++ ys) ≡ operators f t 0 (after_all t s (map act ks)) ys
  passed_over [] s ys = refl
  passed_over (k ∷ ks) s ys = passed_over ks (next t s (act k)) ys

  one_op : (x : Step) (s : State) (ys : List Step)
      → operators f t 0 s (x ∷ map act (company f t x) ++ ys) ≡ record { what = x; at = height s } ∷ operators f t 0 (after_all t s (x ∷ map act (company f t x))) ys
  one_op (act k) s ys = refl
  one_op (mth k) s ys = rw (passed_over (prefix f t k) (next t s (mth k)) ys)

  -- At most one: a list of operators at their true heights is that of its steps.
  pub unique : (os : List Operator) (s : State) → TrueHeights f t s os → operators f t 0 s (expand_all f t os) ≡ os
  unique [] s h = refl
  unique (o ∷ os) s h =
      let e : o.at ≡ height s = h.0 in
      let d = unique os (after_all t s (expand f t o)) h.1 in
      one_op o.what s (expand_all f t os) ∙ (λ i. record { what = o.what; at = sym e i } ∷ d i)

-- The first `o` tasks of the stack are actions.
abbrev Owed : ℕ → ℕ → List ℕ → Type 0
Owed a zero st = Unit {0}
Owed a (suc o) [] = ⊥
Owed a (suc o) (x ∷ st) = T (ltb x a) × Owed a o st

leading_owed : (a : ℕ) (xs ys : List ℕ) → Owed a (length (leading a xs)) (xs ++ ys)
leading_owed a [] ys = tt
leading_owed a (x ∷ xs) ys = go (ltb x a) refl (leading_owed a xs ys)
  where
    go : (c : Bool) → ltb x a ≡ c → Owed a (length (leading a xs)) (xs ++ ys) → Owed a (length (cond c (x ∷ leading a xs) [])) (x ∷ xs ++ ys)
    go true e h = (rw e tt, h)
    go false e h = tt

prefix_owed : (f : ℕ) (t : Table) (k : ℕ) (ys : List ℕ) → Owed (action_count t) (length (prefix f t k)) ((method t k).subs ++ ys)
prefix_owed zero t k ys = tt
prefix_owed (suc f) t k ys = leading_owed (action_count t) (method t k).subs ys

prefix_take : (f : ℕ) (t : Table) (k : ℕ) (ys : List ℕ) → take (length (prefix f t k)) ((method t k).subs ++ ys) ≡ prefix f t k
prefix_take f t k ys =
    ap (λ (l : List ℕ). take (length (prefix f t k)) (l ++ ys)) (sym (prefix_whole f t k))
    ∙ ap (take (length (prefix f t k))) (append_assoc (prefix f t k) (stays f t k) ys)
    ∙ take_at (prefix f t k) (stays f t k ++ ys) (length (prefix f t k)) refl

record Parsed (f : ℕ) (t : Table) (o : ℕ) (s : State) (xs : List Step) : Type 0 where
  first : take o xs ≡ map act (take o s.stack)
  rest : expand_all f t (operators f t o s xs) ≡ drop o xs
  heights : TrueHeights f t (after_all t s (take o xs)) (operators f t o s xs)

module _ (f : ℕ) (t : Table) (valid : Valid t) (b : ℕ) where
  parse : (xs : List Step) (o fa : ℕ) (st : List ℕ) → Owed (action_count t) o st → Run b f t o (record { facts = fa; stack = st }) xs
      → Parsed f t o (record { facts = fa; stack = st }) xs
  parse [] zero fa st w r = record { first = refl; rest = refl; heights = tt }
  parse [] (suc o) fa [] w r = absurd w
  parse [] (suc o) fa (y ∷ st) w r = absurd r.0
  parse (x ∷ xs) (suc o) fa [] w r = absurd w
  parse (act k ∷ xs) (suc o) fa (y ∷ st) w r =
      let q = parse xs o _ st w.1 r.2 in
      let a : T (eqb y k) = search (and_l, and_r, r.0) in
      let e : y ≡ k = eqb→eq y k a in
      record { first = cc q.first; rest = q.rest; heights = q.heights }
  parse (mth k ∷ xs) (suc o) fa (y ∷ st) w r =
      let a : T (ltb k (method_count t)) = search (and_l, and_r, r.0) in
      let c : T (eqb y (method t k).head) = search (and_l, and_r, r.0) in
      absurd (omega (arith, ltb→lt, eqb→eq, w.0, (valid.method k (ltb→lt _ _ a)).low))
  parse (act k ∷ xs) zero fa st w r =
      let q = parse xs zero _ _ tt r.2 in
      record { first = refl; rest = ap (λ (l : List Step). act k ∷ l) q.rest; heights = (refl, q.heights) }
  parse (mth k ∷ xs) zero fa st w r =
      let n = length (prefix f t k) in
      let s' = next t (record { facts = fa; stack = st }) (mth k) in
      let q = parse xs n fa _ (prefix_owed f t k _) r.2 in
      let c : take n xs ≡ map act (prefix f t k) = q.first ∙ ap (λ (l : List ℕ). map act l) (prefix_take f t k _) in
      record {
        first = refl;
        rest = rw (← c, q.rest, take-append-drop n xs);
        heights = (refl, subst (λ (ys : List Step). TrueHeights f t (after_all t s' ys) (operators f t n s' xs)) c q.heights);
      }

  -- At least one: the operators of a run's steps expand to the run, each at its true height.
  pub exists : (xs : List Step) (s : State) → Run b f t 0 s xs
      → (expand_all f t (operators f t 0 s xs) ≡ xs) × TrueHeights f t s (operators f t 0 s xs)
  exists xs s r = let q = parse xs 0 s.facts s.stack tt r in (q.rest, q.heights)
