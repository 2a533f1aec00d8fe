-- A walk's operators as they are marked, in turn.
use Rattle.std.specs.Prelude.{ℕ, ◌<◌, ◌≡◌, List, length, map, get_or}
use Rattle.rules.specs.Limits.{most_limit}
use Rattle.rules.specs.Tables.{Table}
use Rattle.rules.specs.Operators.{Operator}
use Rattle.laws.specs.Steps.{step_at}
use Rattle.trail.specs.declared.Mark.{Mark}

abbrev pub trail_marks : ℕ
trail_marks = most_limit

abbrev pub unmarked : Mark
unmarked = record { row = 0; position = 0; facts = record { bits = 0 } }

abbrev pub mark_at : List Mark → ℕ → Mark
mark_at trail i = get_or trail i unmarked

-- The operator of a mark, and those of some marks.
abbrev pub operator_marked : Table → Mark → Operator
operator_marked t m = record { what = step_at t m.row; at = m.position }

abbrev pub marked : Table → List Mark → List Operator
marked t marks = map (operator_marked t) marks

-- Operator i is marked, and those before it are kept.
pub record Marked (old : List Mark) (i : ℕ) (m : Mark) (new : List Mark) : Type 0 where
  pub size : length new ≡ length old
  pub here : mark_at new i ≡ m
  pub kept : (j : ℕ) → j < i → mark_at new j ≡ mark_at old j
