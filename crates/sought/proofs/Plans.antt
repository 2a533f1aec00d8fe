-- Accepted lists are the lists of complete runs, and their texts are the plans that the check accepts.
use Prim.Native.Nat.{ℕ, ◌+◌, ◌*◌, ◌≤◌, ◌<◌}
use mathlib.Core.Path.{◌≡◌, refl, sym, subst}
use mathlib.Core.Logic.{◌⊎◌, inl, inr, ◌↔◌}
use mathlib.Core.List.{List, [], ◌∷◌, ◌++◌}
use native.Mathlib.Omega.{arith}
use native.Mathlib.Decide.{dec_lt}
use lib.ListN.{length, length-append}
use lib.Dec.{T, leb, eqb, le→leb, eqb_refl}
use Rattle.basics.specs.Texts.{bytes, digits, ThreeDigits}
use Rattle.rules.specs.Limits.{most_bound, most_limit}
use Rattle.rules.specs.Tables.{Table, goal_facts}
use Rattle.rules.specs.Facts.{holds}
use Rattle.rules.specs.Progression.{State, Step, act, mth, is_empty, height, all_allowed, begin, total_cost}
use Rattle.rules.specs.Operators.{Operator, expand, expand_all, emitted, applies}
use Rattle.rules.specs.Problems.{name_of}
use Rattle.rules.specs.Plans.{opers_of, text_of, texts_of, lines_of}
use Rattle.rules.specs.Checks.{accepted}
use Rattle.rules.specs.Refusals.{check_plan}
use Rattle.rules.specs.Searches.{led, Applicable, Accepting, Earlier, PlanWithin, Found, NoneWithin}
use Rattle.laws.specs.Valid.{Valid}
use Rattle.laws.proofs.RefusalLaws.{read_valid}
use Rattle.laws.proofs.TestLaws.{and_l, and_r, and_i}
use Rattle.laws.proofs.TextLaws.{digits_le}
use Rattle.theorems.specs.Runs.{Run, TrueHeights}
use Rattle.theorems.specs.Shapes.{step_number, AllSmall}
use Rattle.theorems.specs.Demand.{Given}
use Rattle.theorems.proofs.Heights.{emitted_low, low_emitted}
use Rattle.theorems.proofs.RunLaws.{run_over, run_back}
use Rattle.theorems.proofs.Demand3.{known_small, accepted_given, accepts, run_accepted}
use Rattle.sought.specs.Findings.{most_line_bytes, most_found_bytes, RunWithin, NoRunWithin}
use Rattle.sought.proofs.OrderLaws.{may_be, one_order}
use Rattle.sought.proofs.ChoiceLaws.{emitted_known}

module _ (b f : ℕ) (t : Table) where
  -- ---- runs

  -- An accepted list's operators stand at their true heights and expand to a run to its end.
  accepting_run : (os : List Operator) (s : State) → Accepting b f t s os → TrueHeights f t s os × Run b f t 0 s (expand_all f t os)
  accepting_run [] s a =
      let e = is_empty s.stack in
      let g = holds (goal_facts t) s.facts in
      (tt, (and_l e g a.complete, and_r e g a.complete))
  accepting_run (o ∷ os) s a =
      let m = may_be b f t s o a.applicable.0 in
      let low = emitted_low b f t o.what s m.2 (subst (λ (i : ℕ). T (emitted b f t (record { what = o.what; at = i }))) m.1 m.0) in
      let q = accepting_run os (led f t s o) (record { applicable = a.applicable.1; complete = a.complete }) in
      ((m.1, q.0), run_over b f t o.what s (expand_all f t os) (record { each = m.2; low = low; rest = q.1 }))

  -- And such a list is accepted, from a state within the bound.
  run_accepting : (os : List Operator) (s : State) → T (leb (height s) b) → TrueHeights f t s os → Run b f t 0 s (expand_all f t os)
      → Accepting b f t s os
  run_accepting [] s l h r = record { applicable = tt; complete = and_i (is_empty s.stack) (holds (goal_facts t) s.facts) r.0 r.1 }
  run_accepting (o ∷ os) s l h r =
      let p = run_back b f t o.what s (expand_all f t os) r in
      let e : T (emitted b f t o) =
      subst (λ (i : ℕ). T (emitted b f t (record { what = o.what; at = i }))) (sym h.0) (low_emitted b f t o.what s l p.each p.low)
      in
      let same : T (eqb o.at (height s)) = rw h.0 (eqb_refl (height s)) in
      let a = and_i (eqb o.at (height s)) (all_allowed t s (expand f t o)) same p.each in
      let q = run_accepting os (led f t s o) p.low h.1 p.rest in
      record { applicable = (and_i (emitted b f t o) (applies f t s o) e a, q.applicable); complete = q.complete }

  module _ (some : 1 ≤ b) (l : ℕ) where
    -- The accepted plans of at most l operators are the operator lists of complete runs that have no more.
    pub plan_run : (os : List Operator) → PlanWithin b f t l os ↔ RunWithin b f t l os
    plan_run os = (
      (λ q.
          let r = accepting_run os (begin t) q.accepted in
          record {
            steps = expand_all f t os;
            run = (le→leb 1 b some, r.1);
            list = record { heights = r.0; expands = refl };
            short = q.short;
          }),
      (λ q.
          let r : Run b f t 0 (begin t) (expand_all f t os) = rw q.list.expands q.run.1 in
          record { accepted = run_accepting os (begin t) q.run.0 q.list.heights r; short = q.short }),
    )

    pub none_run : NoneWithin b f t l ↔ NoRunWithin b f t l
    none_run = (
      (λ h xs r os q k. h os ((plan_run os).1 (record { steps = xs; run = r; list = q; short = k }))),
      (λ h os q. let r = (plan_run os).0 q in h r.steps r.run os r.list r.short),
    )

  -- ---- the size of the text

  module _ (v : Valid t) (most : b ≤ most_bound) where
    -- The numbers of an applicable list have at most three digits.
    pub applicable_small : (os : List Operator) (s : State) → Applicable b f t s os → AllSmall os
    applicable_small [] s a = tt
    applicable_small (o ∷ os) s a =
        let q = emitted_known b f t o.what o.at (may_be b f t s o a.0).0 in
        (record { number = known_small t v o.what q.0; position = omega (arith, q.1) }, applicable_small os (led f t s o) a.1)

    name_short : (x : Step) → ThreeDigits (step_number x) → length (name_of x) ≤ 4
    name_short (act k) h = omega (arith, digits_le 2 k h)
    name_short (mth k) h = omega (arith, digits_le 2 k h)

    glued : (x y : List ℕ) → length (bytes "(" ++ (x ++ (32 ∷ y)) ++ bytes ")") ≡ length x + length y + 3
    glued x y = simp length-append (omega arith)

    text_short : (os : List Operator) (s : State) → Applicable b f t s os → length (texts_of os) ≤ most_line_bytes * length os
    unfolding texts_of
    text_short [] s a = omega arith
    text_short (o ∷ os) s a =
        let q = emitted_known b f t o.what o.at (may_be b f t s o a.0).0 in
        omega (
          arith,
          name_short o.what (known_small t v o.what q.0),
          digits_le 1 o.at (omega (arith, q.1)),
          glued (name_of o.what) (digits o.at),
          length-append (text_of o) (10 ∷ texts_of os),
          text_short os (led f t s o) a.1,
        )

module _ {b f : ℕ} {s : List ℕ} {t : Table} (g : Given b f s t) where
  pub found_short : (os : List Operator) → PlanWithin b f t most_limit os → length (texts_of os) ≤ most_found_bytes
  found_short os q =
      omega (arith, q.short, text_short b f t (read_valid s t g.reads) g.high os (begin t) q.accepted.applicable)

  -- The text of an accepted list of at most 256 operators is an accepted plan, with the same bound and form.
  pub text_accepted : (os : List Operator) → PlanWithin b f t most_limit os
      → check_plan b f s (texts_of os) ≡ accepted (total_cost t (expand_all f t os)) (length os) (length (expand_all f t os))
  text_accepted os q =
      let r = accepting_run b f t os (begin t) q.accepted in
      run_accepted g (expand_all f t os) (le→leb 1 b g.low, r.1) os (record { heights = r.0; expands = refl }) (omega (arith, found_short os q))

  -- An accepted plan's operators are an accepted list, of as many as the check says.
  pub plan_accepting : (plan : List ℕ) (c o k : ℕ) → check_plan b f s plan ≡ accepted c o k → PlanWithin b f t o (opers_of (lines_of plan))
  plan_accepting plan c o k e =
      let a = (accepts g plan (accepted_given b f s plan c o k e).2 c o k).0 e in
      let os = opers_of (lines_of plan) in
      (plan_run b f t g.low o os).1
      (record { steps = expand_all f t os; run = a.run; list = record { heights = a.heights; expands = refl }; short = omega (arith, a.operators) })

  within : (l o : ℕ) (os : List Operator) → o ≤ l → PlanWithin b f t o os → PlanWithin b f t l os
  within l o os h q = record { accepted = q.accepted; short = omega (arith, q.short) }

  -- No accepted plan of at most l operators comes before the one that is found, and there is none where none is found.
  pub found_first : (l : ℕ) (os : List Operator) → Found b f t l os
      → (plan : List ℕ) (c o k : ℕ) → check_plan b f s plan ≡ accepted c o k → o ≤ l
      → (os ≡ opers_of (lines_of plan)) ⊎ Earlier os (opers_of (lines_of plan))
  found_first l os q plan c o k e m = go (one_order b f t (begin t) os ps q.plan.accepted.applicable a.accepted.applicable)
    where
      ps : List Operator
      ps = opers_of (lines_of plan)

      a : PlanWithin b f t l (opers_of (lines_of plan))
      a = within l o (opers_of (lines_of plan)) m (plan_accepting plan c o k e)

      go : Earlier os ps ⊎ ((os ≡ ps) ⊎ Earlier ps os) → (os ≡ ps) ⊎ Earlier os ps
      go (inl d) = inr d
      go (inr (inl d)) = inl d
      go (inr (inr d)) = absurd (q.first ps a d)

  pub none_accepted : (l : ℕ) → NoneWithin b f t l → (plan : List ℕ) (c o k : ℕ) → check_plan b f s plan ≡ accepted c o k → l < o
  none_accepted l q plan c o k e = go (dec_lt l o)
    where
      go : Dec (l < o) → l < o
      go (yes m) = m
      go (no m) = absurd (q (opers_of (lines_of plan)) (within l o _ (omega arith) (plan_accepting plan c o k e)))
