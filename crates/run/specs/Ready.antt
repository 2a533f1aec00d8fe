-- What a run asks of its table and rows, and the row of an operator.
use Rattle.std.specs.Prelude.{ℕ, ◌+◌, ◌≤◌, ◌<◌, ◌≡◌, cond, List, Option, Some, None, ltb}
use Rattle.rules.specs.Limits.{most_bound}
use Rattle.rules.specs.Tables.{Table, action_count, method_count}
use Rattle.rules.specs.Progression.{Step}
use Rattle.rules.specs.declared.Kind.{Kind}
use Rattle.rules.specs.declared.Kind.TheVariants.{Action, Method}
use Rattle.laws.specs.Steps.{step_at}
use Rattle.words.specs.Words.{table_of, Held}
use Rattle.rows.specs.Rows.{Prepared, RowOk}

pub record Ready (b f : ℕ) (words ops cells : List ℕ) : Type 0 where
  pub held : Held words
  pub low : 1 ≤ b
  pub high : b ≤ most_bound
  pub rows : Prepared b f (table_of words) ops cells
  pub ok : (i : ℕ) → i < action_count (table_of words) + method_count (table_of words) → RowOk ops cells i

-- The row of an operator: actions first, then methods; none where the table has no such action or method.
abbrev pub row_index : Kind → ℕ → ℕ → ℕ → Option ℕ
row_index Action k a m = cond (ltb k a) (Some k) None
row_index Method k a m = cond (ltb k m) (Some (a + k)) None

-- Row i is that of step x.
pub record RowOf (t : Table) (x : Step) (i : ℕ) : Type 0 where
  pub low : i < action_count t + method_count t
  pub step : step_at t i ≡ x
