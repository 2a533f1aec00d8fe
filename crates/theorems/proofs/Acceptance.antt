-- The check accepts exactly the plans whose operators, each at its true height, expand to a complete run.
use Prim.Native.Nat.{ℕ, suc, ◌+◌}
use mathlib.Core.Path.{◌≡◌, sym, ap, subst, ◌∙◌}
use mathlib.Core.List.{List, [], ◌∷◌, ◌++◌}
use native.Mathlib.Omega.{arith}
use lib.ListN.{length, length-append}
use lib.Dec.{T, leb, eqb, eqb→eq, eqb_refl}
use Rattle.basics.specs.Answers.{value_of}
use Rattle.rules.specs.Reasons.{not_emitted, not_applicable, stack_not_empty, goal_missing}
use Rattle.rules.specs.Tables.{Table, goal_facts}
use Rattle.rules.specs.Facts.{holds}
use Rattle.rules.specs.Progression.{Step, is_empty, all_allowed, height, total_cost}
use Rattle.rules.specs.Operators.{expand, expand_all, emitted, applies}
use Rattle.rules.specs.Plans.{Line, note, oper, other, opers_of, shaped}
use Rattle.rules.specs.Checks.{Tally, Place, accepted, skip, apply, check_from}
use Rattle.theorems.specs.Runs.{Run, TrueHeights}
use Rattle.laws.proofs.TestLaws.{and_l, and_r, and_i, cond_true}
use Rattle.laws.proofs.AnswerLaws.{check_passed}
use Rattle.theorems.proofs.RunLaws.{run_over, run_back}
use Rattle.theorems.proofs.Heights.{emitted_low, low_emitted}

pub total_append : (t : Table) (xs ys : List Step) → total_cost t (xs ++ ys) ≡ total_cost t xs + total_cost t ys
total_append t [] ys = omega arith
total_append t (x ∷ xs) ys = omega (arith, total_append t xs ys)

-- What the check of the lines `ls` from the place `p` is to find, if it accepts with these numbers.
pub record Fulfils (b f : ℕ) (t : Table) (p : Place) (ls : List Line) (c o k : ℕ) : Type 0 where
  pub shape : T (shaped ls)
  pub heights : TrueHeights f t p.state (opers_of ls)
  pub run : Run b f t 0 p.state (expand_all f t (opers_of ls))
  pub cost : c ≡ p.cost + total_cost t (expand_all f t (opers_of ls))
  pub operators : o ≡ p.operators + length (opers_of ls)
  pub steps : k ≡ p.steps + length (expand_all f t (opers_of ls))

module _ (b f : ℕ) (t : Table) where
  pub complete : (ls : List Line) (p : Place) (c o k : ℕ) → T (leb (height p.state) b) → Fulfils b f t p ls c o k → check_from b f t p ls ≡ accepted c o k
  complete [] p c o k l q =
      let c' : p.cost ≡ c = omega (arith, q.cost) in
      let o' : p.operators ≡ o = omega (arith, q.operators) in
      let k' : p.steps ≡ k = omega (arith, q.steps) in
      cond_true (is_empty p.state.stack) _ _ q.run.0 ∙ cond_true (holds (goal_facts t) p.state.facts) _ _ q.run.1
      ∙ (λ i. accepted (c' i) (o' i) (k' i))
  complete (note ∷ ls) p c o k l q =
      complete ls (skip p) c o k l
      (record { shape = q.shape; heights = q.heights; run = q.run; cost = q.cost; operators = q.operators; steps = q.steps })
  complete (other ∷ ls) p c o k l q = absurd q.shape
  complete (oper x ∷ ls) p c o k l q =
      let s = p.state in
      let r = run_back b f t x.what s (expand_all f t (opers_of ls)) q.run in
      let true-height : x.at ≡ height s = q.heights.0 in
      let m : T (emitted b f t x) =
      subst (λ (i : ℕ). T (emitted b f t (record { what = x.what; at = i }))) (sym true-height)
      (low_emitted b f t x.what s l r.each r.low)
      in
      let a : T (applies f t s x) =
      and_i (eqb x.at (height s)) (all_allowed t s (expand f t x)) (rw true-height (eqb_refl (height s))) r.each
      in
      cond_true (emitted b f t x) _ _ m
      ∙ cond_true (applies f t s x) _ _ a
      ∙ complete ls (apply f t p x) c o k r.low
      (record {
        shape = q.shape;
        heights = q.heights.1;
        run = r.rest;
        cost = omega (arith, q.cost, total_append t (expand f t x) (expand_all f t (opers_of ls)));
        operators = omega (arith, q.operators);
        steps = omega (arith, q.steps, length-append (expand f t x) (expand_all f t (opers_of ls)));
      })

  pub sound : (ls : List Line) (p : Place) (c o k : ℕ) → T (leb (height p.state) b) → check_from b f t p ls ≡ accepted c o k → Fulfils b f t p ls c o k
  sound [] p c o k l e =
      let q = check_passed (is_empty p.state.stack) stack_not_empty p.lines _ e in
      let r = check_passed (holds (goal_facts t) p.state.facts) goal_missing p.lines _ q.1 in
      let z : accepted p.cost p.operators p.steps ≡ accepted c o k = r.1 in
      let c' : p.cost ≡ c = ap (value_of (λ (y : Tally). y.cost)) z in
      let o' : p.operators ≡ o = ap (value_of (λ (y : Tally). y.operators)) z in
      let k' : p.steps ≡ k = ap (value_of (λ (y : Tally). y.steps)) z in
      record { shape = tt; heights = tt; run = (q.0, r.0); cost = omega arith; operators = omega arith; steps = omega arith }
  sound (note ∷ ls) p c o k l e =
      let q = sound ls (skip p) c o k l e in
      record { shape = q.shape; heights = q.heights; run = q.run; cost = q.cost; operators = q.operators; steps = q.steps }
  sound (other ∷ ls) p c o k l e = let z : ◌≡◌ {A = ℕ} 0 1 = cc in absurd (omega arith)
  sound (oper x ∷ ls) p c o k l e =
      let s = p.state in
      let q = check_passed (emitted b f t x) not_emitted (suc p.lines) _ e in
      let r = check_passed (applies f t s x) not_applicable (suc p.lines) _ q.1 in
      let true-height : x.at ≡ height s = eqb→eq _ _ (and_l (eqb x.at (height s)) (all_allowed t s (expand f t x)) r.0) in
      let each : T (all_allowed t s (expand f t x)) = and_r (eqb x.at (height s)) (all_allowed t s (expand f t x)) r.0 in
      let low = emitted_low b f t x.what s each (subst (λ (i : ℕ). T (emitted b f t (record { what = x.what; at = i }))) true-height q.0) in
      let d = sound ls (apply f t p x) c o k low r.1 in
      record {
        shape = d.shape;
        heights = (true-height, d.heights);
        run = run_over b f t x.what s (expand_all f t (opers_of ls)) (record { each = each; low = low; rest = d.run });
        cost = omega (arith, d.cost, total_append t (expand f t x) (expand_all f t (opers_of ls)));
        operators = omega (arith, d.operators);
        steps = omega (arith, d.steps, length-append (expand f t x) (expand_all f t (opers_of ls)));
      }
