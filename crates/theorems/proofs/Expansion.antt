-- The expansion for all inputs: what the check refuses it refuses too, and otherwise it asks for two bytes a step.
use Prim.Native.Nat.{ℕ, ◌*◌}
use mathlib.Core.Path.{◌≡◌, refl, ap, ◌∙◌}
use mathlib.Core.List.{List}
use Rattle.basics.specs.Answers.{Answer, answer, refusal, after, length_of}
use Rattle.rules.specs.Operators.{expand_all}
use Rattle.rules.specs.Plans.{lines_of, opers_of}
use Rattle.rules.specs.Checks.{Tally, check_lines, step_bytes}
use Rattle.rules.specs.Refusals.{opened, plan_number, room_of, room_for, check_plan, expand_plan}
use Rattle.laws.proofs.AnswerLaws.{after_refused}
use Rattle.laws.proofs.RefusalLaws.{room_length}
use Rattle.theorems.proofs.Demand3.{accepted_given, expansion_is, expansion_length}

-- A refused plan is refused by the expansion, with the same number and place.
pub expansion_refused : (b f : ℕ) (s plan : List ℕ) (size number place : ℕ) → check_plan b f s plan ≡ refusal number place
    → expand_plan b f s plan size ≡ refusal number place
unfolding check_plan expand_plan
expansion_refused b f s plan size number place =
    after_refused (opened 0 (plan_number plan) b f s) (λ t. check_lines b f t (lines_of plan))
    (λ t _. room_for size 0 (step_bytes (expand_all f t (opers_of (lines_of plan)))))

-- Number, place and length of the expansion, from the answer of the check.
pub expansion_measured : (b f : ℕ) (s plan : List ℕ) (size : ℕ)
    → length_of (expand_plan b f s plan size) ≡ after (check_plan b f s plan) (λ y. room_of size 0 (2 * y.steps))
expansion_measured b f s plan size = go (check_plan b f s plan) refl
  where
    go : (a : Answer Tally) → check_plan b f s plan ≡ a → length_of (expand_plan b f s plan size) ≡ after a (λ y. room_of size 0 (2 * y.steps))
    go (refusal number place) e = ap length_of (expansion_refused b f s plan size number place e)
    go (answer y) e =
        let q = accepted_given b f s plan y.cost y.operators y.steps e in
        ap length_of (expansion_is q.1 plan q.2 y.cost y.operators y.steps e size)
        ∙ room_length size 0 (step_bytes (expand_all f q.0 (opers_of (lines_of plan))))
        ∙ ap (room_of size 0) (expansion_length q.1 plan q.2 y.cost y.operators y.steps e)
