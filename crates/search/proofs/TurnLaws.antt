-- The rows that a task has left, and what a walk's end is judged.
use Prim.Native.Nat.{ℕ, ◌-◌, ◌≤◌, ◌<◌}
use mathlib.Core.Path.{◌≡◌, ap, ◌∙◌}
use mathlib.Core.Option.{none}
use native.Mathlib.Omega.{arith}
use native.Mathlib.Decide.{dec_lt}
use borrow.Author.Tests.{le-leb, lt-leb, lt-ltb, le-ltb}
use Rattle.std.specs.Prelude.{Option, Some, None}
use Rattle.basics.specs.Answers.{refusal}
use Rattle.rules.specs.Reasons.{no_plan, over_budget}
use Rattle.rules.specs.Walks.{Walked}
use Rattle.rules.specs.Refusals.{judged}
use Rattle.rows.specs.Sizes.{most_rows}
use Rattle.links.specs.Links.{some_row}

-- How many rows there are from a row on.
abbrev pub rows_left : Option ℕ → ℕ
rows_left None = 0
rows_left (Some i) = most_rows - i

pub rows_left_of : (n : ℕ) → rows_left (some_row n) ≡ most_rows - n
rows_left_of n = go (dec_lt n most_rows)
  where
    go : Dec (n < most_rows) → rows_left (some_row n) ≡ most_rows - n
    go (yes l) = rw (lt-ltb n most_rows l)
    go (no m) = let e : 0 ≡ most_rows - n = omega arith in rw (le-ltb n most_rows (omega arith)) e

pub rows_left_few : (row : Option ℕ) → rows_left row ≤ most_rows
rows_left_few None = omega arith
rows_left_few (Some i) = omega arith

module _ (budget : ℕ) (w : Walked) where
  pub walk_over : budget < w.count → judged budget w ≡ refusal over_budget 0
  walk_over h = rw (lt-leb w.count budget h)

  pub walk_none : {n : ℕ} → (w ≡ record { plan = none; count = n }) × (n ≤ budget) → judged budget w ≡ refusal no_plan n
  walk_none {n} e = ap (judged budget) e.0 ∙ rw (le-leb n budget e.1)
