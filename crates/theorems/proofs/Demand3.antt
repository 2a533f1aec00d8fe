-- Demand 3, from bytes: which plans are accepted, the one operator list of a run, what an accepted plan solves, what it expands to.
use Prim.Native.Nat.{ℕ, ◌*◌, ◌≤◌}
use mathlib.Core.Path.{◌≡◌, refl, sym, ap, ◌∙◌}
use mathlib.Core.Logic.{◌↔◌}
use mathlib.Core.Bool.{◌&&◌}
use mathlib.Core.List.{List, [], ◌∷◌, map}
use native.Mathlib.Omega.{arith}
use lib.ListN.{length}
use lib.Dec.{T, eqb, leb, eqb→eq, le→leb, leb→le}
use Rattle.basics.specs.Texts.{ThreeDigits}
use Rattle.basics.specs.Answers.{Answer, answer, after}
use Rattle.rules.specs.Limits.{most_bound, most_table_bytes, most_plan_bytes}
use Rattle.rules.specs.Reasons.{bad_bound, bad_form, table_too_long}
use Rattle.rules.specs.Tables.{Table}
use Rattle.rules.specs.Progression.{State, Step, act, mth, height, due, allowed, after_all, begin, total_cost}
use Rattle.rules.specs.Operators.{Operator, expand, expand_all}
use Rattle.rules.specs.Plans.{Line, oper, lines_of, opers_of, shaped, texts_of}
use Rattle.rules.specs.Checks.{Tally, accepted, check_lines, step_bytes}
use Rattle.rules.specs.Refusals.{table_read, form_read, opened, plan_number, room_for, check_plan, steps_for, expand_plan}
use Rattle.laws.specs.Valid.{Valid}
use Rattle.laws.proofs.AnswerLaws.{check_passed, after_passed}
use Rattle.laws.proofs.RefusalLaws.{table_is, form_is, read_valid, opened_is, plan_fits, plan_small, room_fits}
use Rattle.theorems.specs.Runs.{Run, CompleteRun, TrueHeights}
use Rattle.theorems.specs.Shapes.{LineEnd, by_feed, texts_ended, step_number, AllSmall}
use Rattle.theorems.specs.Solutions.{Solution, actions_of, summed}
use Rattle.theorems.specs.Demand.{Given, GivenForm, Accepted, ListOf, Fitting, FittingEnded}
use Rattle.theorems.specs.StepLists.{steps_of, Numbered, AllBytes}
use Rattle.laws.proofs.TestLaws.{and_l, and_r}
use Rattle.laws.proofs.StepLaws.{bytes_length}
use Rattle.theorems.proofs.Heights.{Known, known}
use Rattle.theorems.proofs.RunLaws.{run_back}
use Rattle.theorems.proofs.Acceptance.{sound, complete}
use Rattle.theorems.proofs.OneList.{operators, unique, exists}
use Rattle.theorems.proofs.SolutionLaws.{solution, costs}
use Rattle.theorems.proofs.PlanTexts.{lines_of_lem, ended_by_feeds}
use Rattle.theorems.proofs.StepBytes.{bytes_small, read_back}

-- A list of operators, as the lines of a plan.
opers : (os : List Operator) → opers_of (map oper os) ≡ os
opers [] = refl
opers (o ∷ os) = ap (λ (l : List Operator). o ∷ l) (opers os)

pub opers_shaped : (os : List Operator) → T (shaped (map oper os))
opers_shaped [] = tt
opers_shaped (o ∷ os) = opers_shaped os

-- The operators of a run have numbers of at most three digits.
pub known_small : (t : Table) → Valid t → (x : Step) → Known t x → ThreeDigits (step_number x)
known_small t v (act k) h = omega (arith, v.head.actions)
known_small t v (mth k) h = omega (arith, v.head.methods)

small : (b f : ℕ) (t : Table) → Valid t → b ≤ most_bound → (os : List Operator) (s : State) → T (leb (height s) b) → TrueHeights f t s os
    → Run b f t 0 s (expand_all f t os)
    → AllSmall os
small b f t v l [] s e h r = tt
small b f t v l (o ∷ os) s e h r =
    let q = run_back b f t o.what s (expand_all f t os) r in (
      record {
        number = known_small t v o.what (known t s o.what (and_l (allowed t s o.what) _ q.each));
        position = omega (arith, leb→le (height s) b e, h.0);
      },
      small b f t v l os (after_all t s (expand f t o)) q.low h.1 q.rest,
    )

-- The steps of a run are the table's, so each fits its word.
numbered : (t : Table) → Valid t → (f b o : ℕ) (s : State) (xs : List Step) → Run b f t o s xs → Numbered xs
numbered t v f b o s [] r = tt
numbered t v f b o s (act k ∷ xs) r = let q = known t s (act k) r.0 in (omega (arith, v.head.actions), numbered t v f b (due f t o (act k)) _ xs r.2)
numbered t v f b o s (mth k ∷ xs) r = let q = known t s (mth k) r.0 in (omega (arith, v.head.methods), numbered t v f b (due f t o (mth k)) _ xs r.2)

-- What is opened is in range, passed the entry's own checks, and its table was read.
pub form_given : (early late f : ℕ) (s : List ℕ) (t : Table) → form_read early late f s ≡ answer t → GivenForm f s t × (late ≡ 0) × (early ≡ 0)
unfolding form_read table_read
form_given early late f s t e =
    let q1 = check_passed (leb f 1) bad_form 0 _ e in
    let q2 = check_passed (eqb early 0) early 0 _ q1.1 in
    let q3 = check_passed (leb (length s) most_table_bytes) table_too_long 0 _ q2.1 in
    let q4 = check_passed (eqb late 0) late 0 _ q3.1 in (
      record { form = leb→le f 1 q1.0; size = leb→le (length s) most_table_bytes q3.0; reads = q4.1 },
      eqb→eq late 0 q4.0,
      eqb→eq early 0 q2.0,
    )

pub opened_given : (early late b f : ℕ) (s : List ℕ) (t : Table) → opened early late b f s ≡ answer t → Given b f s t × (late ≡ 0) × (early ≡ 0)
unfolding opened
opened_given early late b f s t e =
    let p = check_passed (leb 1 b && leb b most_bound) bad_bound 0 _ e in
    let q = form_given early late f s t p.1 in (
      record {
        low = leb→le 1 b (and_l (leb 1 b) (leb b most_bound) p.0);
        high = leb→le b most_bound (and_r (leb 1 b) (leb b most_bound) p.0);
        form = q.0.form;
        size = q.0.size;
        reads = q.0.reads;
      },
      q.1,
      q.2,
    )

-- So is what is accepted.
pub accepted_given : (b f : ℕ) (s plan : List ℕ) (c o k : ℕ) → check_plan b f s plan ≡ accepted c o k
    → (t : Table) × Given b f s t × (length plan ≤ most_plan_bytes)
unfolding check_plan
accepted_given b f s plan c o k e =
    let q = after_passed (opened 0 (plan_number plan) b f s) (λ t. check_lines b f t (lines_of plan)) e in
    let g = opened_given 0 (plan_number plan) b f s q.0 q.1 in
    (q.0, g.0, plan_small plan g.1)

-- The check of lines, both ways.
module _ (b f : ℕ) (t : Table) (some : 1 ≤ b) (ls : List Line) (c o k : ℕ) where
  accepted_lines : Accepted b f t ls c o k → check_lines b f t ls ≡ accepted c o k
  unfolding check_lines
  accepted_lines q =
      complete b f t ls _ c o k (le→leb 1 b some)
      (record {
        shape = q.shape;
        heights = q.heights;
        run = q.run.1;
        cost = omega (arith, q.cost);
        operators = omega (arith, q.operators);
        steps = omega (arith, q.steps);
      })

  lines_accepted : check_lines b f t ls ≡ accepted c o k → Accepted b f t ls c o k
  unfolding check_lines
  lines_accepted e =
      let q = sound b f t ls _ c o k (le→leb 1 b some) e in
      record {
        shape = q.shape;
        heights = q.heights;
        run = (le→leb 1 b some, q.run);
        cost = omega (arith, q.cost);
        operators = omega (arith, q.operators);
        steps = omega (arith, q.steps);
      }

-- What is in range is opened, where the entry's own checks pass.
pub form_opens : {f : ℕ} {s : List ℕ} {t : Table} → GivenForm f s t → (early late : ℕ) → early ≡ 0 → late ≡ 0 → form_read early late f s ≡ answer t
form_opens {f} {s} g early late y z = form_is early late f s g.form y ∙ table_is late s g.size z ∙ g.reads

module _ {b f : ℕ} {s : List ℕ} {t : Table} (g : Given b f s t) where
  pub in_form : GivenForm f s t
  in_form = record { form = g.form; size = g.size; reads = g.reads }

  pub opens : (early late : ℕ) → early ≡ 0 → late ≡ 0 → opened early late b f s ≡ answer t
  opens early late y z = opened_is early late b f s g.low g.high ∙ form_opens in_form early late y z

  -- The check comes to that of the plan's lines.
  checks : (plan : List ℕ) → length plan ≤ most_plan_bytes → check_plan b f s plan ≡ check_lines b f t (lines_of plan)
  unfolding check_plan
  checks plan l = ap (λ (a : Answer Table). after a (λ t. check_lines b f t (lines_of plan))) (opens 0 (plan_number plan) refl (plan_fits plan l))

  table_valid : Valid t
  table_valid = read_valid s t g.reads

  -- (a) The check accepts exactly these plans, with these numbers.
  pub accepts : (plan : List ℕ) → length plan ≤ most_plan_bytes → (c o k : ℕ) → (check_plan b f s plan ≡ accepted c o k) ↔ Accepted b f t (lines_of plan) c o k
  accepts plan l c o k = (
    (λ e. lines_accepted b f t g.low (lines_of plan) c o k (sym (checks plan l) ∙ e)),
    (λ a. checks plan l ∙ accepted_lines b f t g.low (lines_of plan) c o k a),
  )

  -- (b) Each complete run has exactly one list of operators.
  pub one_list : (xs : List Step) → CompleteRun b f t xs → (os : List Operator) × ListOf f t xs os × ((os' : List Operator) → ListOf f t xs os' → os' ≡ os)
  one_list xs r =
      let q = exists f t table_valid b xs (begin t) r.1 in (
        operators f t 0 (begin t) xs,
        record { heights = q.1; expands = q.0 },
        (λ os' l. sym (unique f t os' (begin t) l.heights) ∙ ap (λ (ys : List Step). operators f t 0 (begin t) ys) l.expands),
      )

  -- (c) The text of that list is accepted, with every choice of line ends, with the run's cost, operators and steps.
  module _ (xs : List Step) (r : CompleteRun b f t xs) (os : List Operator) (h : ListOf f t xs os) where
    list_lines : (end : ℕ → LineEnd) → lines_of (texts_ended end os) ≡ map oper os
    list_lines end =
        let z : CompleteRun b f t (expand_all f t os) = rw h.expands r in
        lines_of_lem end os (small b f t table_valid g.high os (begin t) (le→leb 1 b g.low) h.heights z.1)

    pub ended_accepted : (end : ℕ → LineEnd) → FittingEnded end os → check_plan b f s (texts_ended end os) ≡ accepted (total_cost t xs) (length os) (length xs)
    ended_accepted end l =
        let e = h.expands in
        let z : CompleteRun b f t (expand_all f t os) = rw e r in
        checks (texts_ended end os) l
        ∙ ap (check_lines b f t) (list_lines end)
        ∙ accepted_lines b f t g.low (map oper os) _ _ _
        (record {
          shape = opers_shaped os;
          heights = rw (opers os) h.heights;
          run = rw (opers os) z;
          cost = rw (opers os, e);
          operators = rw (opers os);
          steps = rw (opers os, e);
        })

    pub run_accepted : Fitting os → check_plan b f s (texts_of os) ≡ accepted (total_cost t xs) (length os) (length xs)
    run_accepted l =
        let e = ended_by_feeds os in
        sym (ap (check_plan b f s) e) ∙ ended_accepted (λ _. by_feed) (omega (arith, l, ap length e))

  module _ (plan : List ℕ) (l : length plan ≤ most_plan_bytes) (c o k : ℕ) (e : check_plan b f s plan ≡ accepted c o k) where
    -- Its lines pass the check of lines.
    pub lines_pass : check_lines b f t (lines_of plan) ≡ accepted c o k
    lines_pass = sym (checks plan l) ∙ e

    -- (d) An accepted plan's actions are a solution, and the cost reported is their summed cost.
    pub solves : Solution t (actions_of (expand_all f t (opers_of (lines_of plan)))) × (c ≡ summed t (actions_of (expand_all f t (opers_of (lines_of plan)))))
    solves =
        let q = (accepts plan l c o k).0 e in
        let xs = expand_all f t (opers_of (lines_of plan)) in
        (solution b f t xs q.run.1, q.cost ∙ costs t xs)

    -- (e) It expands to the bytes of its steps, two for each.
    pub expansion_length : length (step_bytes (expand_all f t (opers_of (lines_of plan)))) ≡ 2 * k
    expansion_length = bytes_length _ ∙ ap (λ (m : ℕ). 2 * m) (sym ((accepts plan l c o k).0 e).steps)

    pub expansion_is : (size : ℕ) → expand_plan b f s plan size ≡ room_for size 0 (step_bytes (expand_all f t (opers_of (lines_of plan))))
    unfolding expand_plan
    expansion_is size =
        ap (λ (a : Answer Table). after a (λ t. steps_for b f t plan size)) (opens 0 (plan_number plan) refl (plan_fits plan l))
        ∙ ap (λ (a : Answer Tally). after a (λ _. room_for size 0 (step_bytes (expand_all f t (opers_of (lines_of plan)))))) (sym (checks plan l) ∙ e)

    pub expansion : (size : ℕ) → 2 * k ≤ size → expand_plan b f s plan size ≡ answer (step_bytes (expand_all f t (opers_of (lines_of plan))))
    expansion size h =
        expansion_is size ∙ room_fits size 0 (step_bytes (expand_all f t (opers_of (lines_of plan)))) (omega (arith, expansion_length))

    -- (f) Each step fits its word, each byte is one, and the bytes read back as the steps.
    pub steps_numbered : Numbered (expand_all f t (opers_of (lines_of plan)))
    steps_numbered = numbered t table_valid f b 0 (begin t) (expand_all f t (opers_of (lines_of plan))) ((accepts plan l c o k).0 e).run.1

    pub expansion_bytes : AllBytes (step_bytes (expand_all f t (opers_of (lines_of plan))))
    expansion_bytes = bytes_small (expand_all f t (opers_of (lines_of plan))) steps_numbered

    pub expansion_back : steps_of (step_bytes (expand_all f t (opers_of (lines_of plan)))) ≡ expand_all f t (opers_of (lines_of plan))
    expansion_back = read_back (expand_all f t (opers_of (lines_of plan))) steps_numbered

  -- (g) Every text of a run's list expands to the bytes of its steps, whatever its line ends.
  module _ (xs : List Step) (r : CompleteRun b f t xs) (os : List Operator) (h : ListOf f t xs os) (end : ℕ → LineEnd) (l : FittingEnded end os) where
    pub ended_expands : (size : ℕ) → expand_plan b f s (texts_ended end os) size ≡ room_for size 0 (step_bytes xs)
    ended_expands size =
        let e = ap opers_of (list_lines xs r os h end) ∙ opers os in
        expansion_is (texts_ended end os) l _ _ _ (ended_accepted xs r os h end l) size
        ∙ ap (λ (ys : List Step). room_for size 0 (step_bytes ys)) (ap (expand_all f t) e ∙ h.expands)
