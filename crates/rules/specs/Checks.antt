-- "The check gives cost, operators and steps", a line at a time; "The step list".
use Rattle.std.specs.Prelude.{ℕ, suc, ◌+◌, ◌/◌, ◌%◌, List, [], ◌∷◌, length, Result}
use Rattle.rules.specs.Limits.{method_words}
use Rattle.rules.specs.Reasons.{line_shape, not_emitted, not_applicable, stack_not_empty, goal_missing}
use Rattle.rules.specs.declared.Tally.{Tally as TallyInCode}
use Rattle.basics.specs.declared.Refusal.{Refusal}
use Rattle.basics.specs.Answers.{Answer, answer, answer_of, refusal, check}
use Rattle.rules.specs.Tables.{Table, goal_facts}
use Rattle.rules.specs.Facts.{holds}
use Rattle.rules.specs.Progression.{State, Step, act, mth, is_empty, after_all, begin, total_cost}
use Rattle.rules.specs.Operators.{Operator, expand, emitted, applies}
use Rattle.rules.specs.Plans.{Line, note, oper, other}

-- What an accepted plan comes to.
pub record Tally : Type 0 where
  pub cost : ℕ
  pub operators : ℕ
  pub steps : ℕ

abbrev pub accepted : ℕ → ℕ → ℕ → Answer Tally
accepted cost operators steps = answer (record { cost = cost; operators = operators; steps = steps })

-- Its numbers, one at a time.
abbrev pub cost_of : Tally → ℕ
cost_of y = y.cost

abbrev pub operators_in : Tally → ℕ
operators_in y = y.operators

abbrev pub steps_in : Tally → ℕ
steps_in y = y.steps

-- What the code's verdict says.
abbrev pub tally_of : TallyInCode → Tally
tally_of y = record { cost = y.cost; operators = y.operators; steps = y.steps }

abbrev pub verdict_of : Result TallyInCode Refusal → Answer Tally
verdict_of r = answer_of tally_of r

-- Where a check stands: the lines passed ("Lines count from 1, comments too"), the state, and the tally so far.
pub record Place : Type 0 where
  pub lines : ℕ
  pub state : State
  pub cost : ℕ
  pub operators : ℕ
  pub steps : ℕ

abbrev pub skip : Place → Place
skip p = record { lines = suc p.lines; state = p.state; cost = p.cost; operators = p.operators; steps = p.steps }

abbrev pub apply : ℕ → Table → Place → Operator → Place
apply f t p o =
    record {
      lines = suc p.lines;
      state = after_all t p.state (expand f t o);
      cost = p.cost + total_cost t (expand f t o);
      operators = suc p.operators;
      steps = p.steps + length (expand f t o);
    }

-- Refusals 14, "stack not empty at the end", and 15, "goal fact missing at the end", at "lines in all".
abbrev pub finish : Table → Place → Answer Tally
finish t p =
    check (is_empty p.state.stack) stack_not_empty p.lines
    (check (holds (goal_facts t) p.state.facts) goal_missing p.lines (accepted p.cost p.operators p.steps))

-- "11 to 13 by the first line at fault": shape, "operator not emitted", "operator not applicable", at the "line".
abbrev pub check_from : ℕ → ℕ → Table → Place → List Line → Answer Tally
check_from b f t p [] = finish t p
check_from b f t p (note ∷ ls) = check_from b f t (skip p) ls
check_from b f t p (other ∷ ls) = refusal line_shape (suc p.lines)
check_from b f t p (oper o ∷ ls) =
    check (emitted b f t o) not_emitted (suc p.lines)
    (check (applies f t p.state o) not_applicable (suc p.lines) (check_from b f t (apply f t p o) ls))

unfoldable pub check_lines : ℕ → ℕ → Table → List Line → Answer Tally
check_lines b f t ls = check_from b f t (record { lines = 0; state = begin t; cost = 0; operators = 0; steps = 0 }) ls

-- "16-bit words, each written as two bytes, low first: action k as k, method k as 1,024 + k".
abbrev pub word_of : Step → ℕ
word_of (act k) = k
word_of (mth k) = method_words + k

unfoldable pub step_bytes : List Step → List ℕ
step_bytes [] = []
step_bytes (x ∷ xs) = (word_of x % 256) ∷ (word_of x / 256) ∷ step_bytes xs
