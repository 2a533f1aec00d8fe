-- What actions do one after the other, and what a join does at once.
use Rattle.std.specs.Prelude.{ℕ, ◌^◌, ◌<◌, cond, List, [], ◌∷◌}
use Rattle.std.proofs.Math.Option.{Option, none, some}
use Rattle.rules.specs.Tables.{Action}
use Rattle.rules.specs.Facts.{Join, holds, changed}

-- The facts that sets like an action's lead to, where the needs hold.
unfoldable pub act_on : ℕ → ℕ → ℕ → ℕ → Option ℕ
act_on needs adds dels facts = cond (holds needs facts) (some (changed dels adds facts)) none

abbrev pub and_then : Option ℕ → (ℕ → Option ℕ) → Option ℕ
and_then none f = none
and_then (some s) f = f s

abbrev pub run_one : Action → ℕ → Option ℕ
run_one a s = act_on a.needs a.adds a.dels s

unfoldable pub run_all : List Action → ℕ → Option ℕ
run_all [] s = some s
run_all (a ∷ l) s = and_then (run_one a s) (run_all l)

-- A dead join runs nowhere.
unfoldable pub run_join : Join → ℕ → Option ℕ
run_join j s = cond j.dead none (act_on j.needs j.adds j.dels s)

-- Sets of n facts: no bit at n or above.
pub record Within (n : ℕ) (j : Join) : Type 0 where
  pub needs : j.needs < 2 ^ n
  pub adds : j.adds < 2 ^ n
  pub dels : j.dels < 2 ^ n
