-- One operator on a run: as the document has it, and by its row.
use Rattle.std.specs.Prelude.{ℕ, suc, ◌+◌, ◌<◌, ◌&&◌, cond, length, eqb, leb}
use mathlib.Core.List.{List, [], ◌∷◌, ◌++◌, tail}
use Rattle.rules.specs.Reasons.{not_emitted, not_applicable}
use Rattle.rules.specs.Tables.{Table, action_count, method_count, start_task, start_facts}
use Rattle.rules.specs.Facts.{holds, changed}
use Rattle.rules.specs.Progression.{State, Step, act, mth, on_top, after_all, total_cost}
use Rattle.rules.specs.Operators.{Operator, expand, emitted, applies}
use Rattle.rules.specs.Checks.{Place}
use Rattle.rows.specs.Rows.{Row}

-- Where a run stands: the state, its stack with the top first, and what was counted.
pub record Point : Type 0 where
  pub facts : ℕ
  pub stack : List ℕ
  pub operators : ℕ
  pub steps : ℕ
  pub cost : ℕ

-- A refusal's number or 0, and the point after the operator: a refused step leaves it as it was.
pub record Moved : Type 0 where
  pub number : ℕ
  pub point : Point

abbrev pub state_of : Point → State
state_of p = record { facts = p.facts; stack = p.stack }

-- The start: the start facts and the starting task alone on the stack.
abbrev pub start_point : Table → Point
start_point t = record { facts = start_facts t; stack = start_task t ∷ []; operators = 0; steps = 0; cost = 0 }

-- A check that stands there, so many lines passed.
abbrev pub check_at : ℕ → Point → Place
check_at lines p = record { lines = lines; state = state_of p; cost = p.cost; operators = p.operators; steps = p.steps }

abbrev pub refused : ℕ → Point → Moved
refused number p = record { number = number; point = p }

-- One operator more, of so many steps and such a cost.
abbrev pub reached : Point → State → ℕ → ℕ → Moved
reached p s steps cost =
    record {
      number = 0;
      point = record {
        facts = s.facts;
        stack = s.stack;
        operators = suc p.operators;
        steps = p.steps + steps;
        cost = p.cost + cost;
      };
    }

-- Refusals 12, "operator not emitted", and 13, "operator not applicable".
unfoldable pub document_step : ℕ → ℕ → Table → Operator → Point → Moved
document_step b f t o p =
    cond (emitted b f t o)
    (cond (applies f t (state_of p) o)
    (reached p (after_all t (state_of p) (expand f t o)) (length (expand f t o)) (total_cost t (expand f t o)))
    (refused not_applicable p))
    (refused not_emitted p)

-- The same from a row alone: the joined sets say whether the steps run and what they leave.
unfoldable pub step_row : Row → ℕ → Point → Moved
step_row r pos p =
    cond (leb 1 pos && leb pos r.last)
    (cond (eqb pos (length p.stack) && (on_top r.task p.stack && holds r.needs p.facts))
    (reached p (record { facts = changed r.dels r.adds p.facts; stack = r.rest ++ tail p.stack }) r.steps r.cost)
    (refused not_applicable p))
    (refused not_emitted p)

-- The table has such an action or method.
abbrev pub Known : Table → Step → Type 0
Known t (act k) = k < action_count t
Known t (mth k) = k < method_count t
