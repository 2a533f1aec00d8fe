-- A step by a known operator's row is the document's step; an operator that the table does not have is emitted nowhere;
-- and a check goes on from step to step.
use Prim.Native.Nat.{ℕ, zero, suc}
use mathlib.Core.Path.{◌≡◌, refl, sym, ap, ap₂, subst, ◌∙◌}
use mathlib.Core.Bool.{Bool, true, false, ◌&&◌, not, cond}
use mathlib.Core.List.{List, ◌∷◌, ◌++◌, map, tail}
use native.Mathlib.Omega.{arith}
use borrow.Author.Tests.{le-ltb, lt-ltb, le-leb, lt-leb}
use lib.Dec.{T, eqb, leb}
use lib.ListN.{length, length-map}
use Rattle.rules.specs.Reasons.{not_emitted, not_applicable}
use Rattle.rules.specs.Tables.{Table, action_count, method_count}
use Rattle.rules.specs.Facts.{holds, changed}
use Rattle.rules.specs.Progression.{State, Step, act, mth, on_top, fits, allowed, all_allowed, after_all, total_cost}
use Rattle.rules.specs.Operators.{Operator, company, joined, task_of, expand, leaves, positions, emitted, applies}
use Rattle.basics.specs.Answers.{refusal}
use Rattle.rules.specs.Plans.{Line, oper}
use Rattle.rules.specs.Checks.{check_from}
use Rattle.laws.proofs.TestLaws.{and_l, and_r, and_i}
use Rattle.laws.proofs.CountLaws.{method_positions}
use Rattle.laws.proofs.JoinedPrefix.{action_joined, step_needs, step_runs, step_after}
use Rattle.rows.specs.Rows.{row_of}
use Rattle.run.specs.Steps.{Point, Moved, state_of, check_at, refused, reached, document_step, step_row, Known}

-- Two tests that pass together are one.
same_test : (a b : Bool) → (T a → T b) → (T b → T a) → a ≡ b
same_test true true h k = refl
same_test true false h k = absurd (h tt)
same_test false true h k = absurd (k tt)
same_test false false h k = refl

-- No position is from 1 to 0.
nowhere : (n : ℕ) → (leb 1 n && leb n 0) ≡ false
nowhere zero = refl
nowhere (suc n) = rw (le-leb 1 (suc n) (omega arith), lt-leb (suc n) 0 (omega arith))

module _ (f : ℕ) (t : Table) where
  -- A step fits where its task is on top.
  known_fits : (x : Step) → Known t x → (st : List ℕ) → fits t st x ≡ on_top (task_of t x) st
  known_fits (act k) l st = rw (lt-ltb k (action_count t) l)
  known_fits (mth k) l st = rw (lt-ltb k (method_count t) l)

  -- What is emitted somewhere is not dead.
  emitted_lives : (b : ℕ) (x : Step) → Known t x → (pos : ℕ) → T (leb 1 pos && leb pos (positions b f t x)) → T (not (joined f t x).dead)
  emitted_lives b (act k) l pos h = rw (action_joined f t k) tt
  emitted_lives b (mth k) l pos h = go (joined f t (mth k)).dead refl
    where
      go : (d : Bool) → (joined f t (mth k)).dead ≡ d → T (not d)
      go false e = tt
      go true e =
          let z : positions b f t (mth k) ≡ 0 = method_positions b f t k l ∙ rw e in
          subst T (ap (λ (n : ℕ). leb 1 pos && leb pos n) z ∙ nowhere pos) h

  -- The steps of an operator that is not dead run one after the other where its task is on top and its joined needs hold.
  step_allowed : (x : Step) → Known t x → T (not (joined f t x).dead) → (s : State)
      → (on_top (task_of t x) s.stack && holds (joined f t x).needs s.facts) ≡ all_allowed t s (x ∷ map act (company f t x))
  step_allowed x l d s =
      same_test (on_top (task_of t x) s.stack && holds (joined f t x).needs s.facts) (all_allowed t s (x ∷ map act (company f t x)))
      (λ h. step_runs f t x s (rw (known_fits x l s.stack) (and_l (on_top (task_of t x) s.stack) _ h)) d (and_r (on_top (task_of t x) s.stack) _ h))
      (λ h. and_i (on_top (task_of t x) s.stack) _
      (rw (known_fits x l s.stack) at (and_l (fits t s.stack x) _ (and_l (allowed t s x) _ h)))
      (step_needs f t x s h).1)

  unknown_positions : (b : ℕ) (x : Step) → (Known t x → ⊥) → positions b f t x ≡ 0
  unfolding positions
  unknown_positions b (act k) n = rw (le-ltb k (action_count t) (omega (arith, n)))
  unknown_positions b (mth k) n = rw (le-ltb k (method_count t) (omega (arith, n)))

  pub unknown_emitted : (b : ℕ) (x : Step) (pos : ℕ) → (Known t x → ⊥) → emitted b f t (record { what = x; at = pos }) ≡ false
  unknown_emitted b x pos n = ap (λ (last : ℕ). leb 1 pos && leb pos last) (unknown_positions b x n) ∙ nowhere pos

  module _ (b : ℕ) (x : Step) (pos : ℕ) (p : Point) where
    pub step_document : Known t x → step_row (row_of b f t x) pos p ≡ document_step b f t (record { what = x; at = pos }) p
    unfolding step_row document_step
    step_document l = go (leb 1 pos && leb pos (positions b f t x)) (emitted_lives b x l pos)
      where
        s : State
        s = state_of p

        done : Moved
        done =
            reached p (record { facts = changed (joined f t x).dels (joined f t x).adds p.facts; stack = leaves f t x ++ tail p.stack })
            (suc (length (company f t x))) (total_cost t (x ∷ map act (company f t x)))

        done_document : done
            ≡ reached p (after_all t s (x ∷ map act (company f t x))) (length (x ∷ map act (company f t x))) (total_cost t (x ∷ map act (company f t x)))
        done_document =
            ap₂ (λ (u : State) (n : ℕ). reached p u (suc n) (total_cost t (x ∷ map act (company f t x))))
            (sym (step_after f t x s)) (sym (length-map (company f t x) act))

        go : (c : Bool) → (T c → T (not (joined f t x).dead))
            → cond c (cond (eqb pos (length p.stack) && (on_top (task_of t x) p.stack && holds (joined f t x).needs p.facts)) done (refused not_applicable p)) (refused not_emitted p)
            ≡ cond c (cond (eqb pos (length p.stack) && all_allowed t s (x ∷ map act (company f t x)))
            (reached p (after_all t s (x ∷ map act (company f t x))) (length (x ∷ map act (company f t x))) (total_cost t (x ∷ map act (company f t x))))
            (refused not_applicable p)) (refused not_emitted p)
        go false d = refl
        go true d =
            ap₂ (λ (runs : Bool) (m : Moved). cond (eqb pos (length p.stack) && runs) m (refused not_applicable p))
            (step_allowed x l (d tt) s) done_document

    pub step_unknown : (Known t x → ⊥) → document_step b f t (record { what = x; at = pos }) p ≡ refused not_emitted p
    unfolding document_step
    step_unknown n = rw (unknown_emitted b x pos n)

-- A line of a check is one step: refused with its number, or on from the point after it.
pub check_step : (b f : ℕ) (t : Table) (n : ℕ) (p : Point) (o : Operator) (ls : List Line) → check_from b f t (check_at n p) (oper o ∷ ls)
    ≡ cond (eqb (document_step b f t o p).number 0)
    (check_from b f t (check_at (suc n) (document_step b f t o p).point) ls)
    (refusal (document_step b f t o p).number (suc n))
unfolding document_step
check_step b f t n p o ls = go (emitted b f t o) (applies f t (state_of p) o)
  where
    after : Moved
    after = reached p (after_all t (state_of p) (expand f t o)) (length (expand f t o)) (total_cost t (expand f t o))

    go : (c d : Bool) → cond c (cond d (check_from b f t (check_at (suc n) after.point) ls) (refusal not_applicable (suc n))) (refusal not_emitted (suc n))
        ≡ cond (eqb (cond c (cond d after (refused not_applicable p)) (refused not_emitted p)).number 0)
        (check_from b f t (check_at (suc n) (cond c (cond d after (refused not_applicable p)) (refused not_emitted p)).point) ls)
        (refusal (cond c (cond d after (refused not_applicable p)) (refused not_emitted p)).number (suc n))
    go true true = refl
    go true false = refl
    go false d = refl
