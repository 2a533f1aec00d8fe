use mathlib.Core.Path.{◌≡◌, refl, sym, ap, ◌∙◌}
use mathlib.Core.List.{List}
use Prim.Native.Nat.{ℕ, ◌≤◌}
use lib.Dec.{eqb, eqb→eq}
use lib.ListN.{length}
use Rattle.std.specs.Prelude.{⊤, Result}
use Rattle.std.proofs.lemmas.Result.{err_from_is_err_and}
use Rattle.basics.specs.declared.Refusal.{Refusal}
use Rattle.basics.specs.Answers.{Answer, answer, after}
use Rattle.rules.specs.Limits.{most_plan_bytes}
use Rattle.rules.specs.Tables.{Table}
use Rattle.rules.specs.Plans.{lines_of}
use Rattle.rules.specs.Checks.{check_lines}
use Rattle.rules.specs.Refusals.{passed, opened, plan_number, steps_for, check_plan, expand_plan, written}
use Rattle.laws.proofs.AnswerLaws.{check_passed}
use Rattle.laws.proofs.RefusalLaws.{plan_small, kept}
use Rattle.opening.specs.Openings.{Opens, opening_of, opened_after}
use Rattle.opening.proofs.OpeningLaws.{goes_on, opened_by}
use Rattle.judging.proofs.judge.Goals as goal

-- What an opening found, the check of the plan's length having its say, goes on to be the entry's answer.
module _ (b f : ℕ) (s plan : List ℕ) {K : Type 0} {late : Answer ⊤} {r q : Result ⊤ Refusal} {w : List ℕ}
    (h : Opens (opened_after (answer tt) late b f s) K r w) (l : late ≡ passed (plan_number plan) (answer tt)) (p : r ≡ q) where
  its_answer : {A : Type 0} (k : Table → Answer A) → after (opening_of q w) k ≡ after (opened 0 (plan_number plan) b f s) k
  its_answer k = sym (goes_on h p k) ∙ ap (λ (o : Answer Table). after o k) (opened_by s (plan_number plan) l 0 refl b f)

  checked : after (opening_of q w) (λ t. check_lines b f t (lines_of plan)) ≡ check_plan b f s plan
  unfolding check_plan
  checked = its_answer (λ t. check_lines b f t (lines_of plan))

  expanded : (size : ℕ) → after (opening_of q w) (λ t. steps_for b f t plan size) ≡ expand_plan b f s plan size
  unfolding expand_plan
  expanded size = its_answer (λ t. steps_for b f t plan size)

-- A plan whose length passed is no longer than it may be.
fits : (plan : List ℕ) {late : Answer ⊤} → late ≡ passed (plan_number plan) (answer tt) → late ≡ answer tt → length plan ≤ most_plan_bytes
fits plan l p = plan_small plan (eqb→eq (plan_number plan) 0 (check_passed (eqb (plan_number plan) 0) (plan_number plan) 0 (answer tt) (sym l ∙ p)).0)

pub judge-requires : goal.judge-requires
judge-requires c =
    let usable = c.open.ensures.known c.in_ok-open.was in
    (usable.low, usable.high, fits c.args.plan.now c.plan_fits.ensures usable.passes)

pub returns-in_err-open : goal.returns-in_err-open
returns-in_err-open c =
    let a = c.args in
    let told = err_from_is_err_and c.from_residual.result c.from_residual.ensures.1 in
    let plan = c.plan_fits.ensures in
    rw (told.1, told.2) (record {
      few = (tt, checked a.bound a.form a.table.now a.plan.now c.open.ensures plan c.in_err-open.was);
      steps_after = kept a.steps.now 0 _ (sym (expanded a.bound a.form a.table.now a.plan.now c.open.ensures plan c.in_err-open.was _));
    })

pub returns : goal.returns
returns c =
    let a = c.args in
    let plan = c.plan_fits.ensures in
    record {
      few = (c.judge.ensures.few.0, c.judge.ensures.few.1 ∙ checked a.bound a.form a.table.now a.plan.now c.open.ensures plan c.in_ok-open.was);
      steps_after = c.judge.ensures.steps_after ∙ ap (written a.steps.now 0) (expanded a.bound a.form a.table.now a.plan.now c.open.ensures plan c.in_ok-open.was _);
    }
