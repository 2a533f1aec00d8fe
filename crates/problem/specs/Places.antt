-- Where an operator stands in the order of all.
use Rattle.std.specs.Prelude.{ℕ, suc, ◌+◌, ◌<◌, ◌≡◌, Result, Ok, Err, length, get_or}
use Rattle.rules.specs.Tables.{Table, action_count, method_count}
use Rattle.rules.specs.Operators.{Operator, positions, operators_of}
use Rattle.laws.specs.Steps.{step_at}
use Rattle.problem.specs.declared.OperatorPlace.{OperatorPlace}

-- Operator n begins with step i, and p positions of that step come before it.
pub record IsPlace (b f : ℕ) (t : Table) (n i p : ℕ) : Type 0 where
  pub step : i < action_count t + method_count t
  pub position : p < positions b f t (step_at t i)
  pub within : n < length (operators_of b f t)
  pub operator : (d : Operator) → get_or (operators_of b f t) n d ≡ record { what = step_at t i; at = suc p }

-- What the code's answer says of operator n.
abbrev pub IsFound : ℕ → ℕ → Table → ℕ → Result OperatorPlace ℕ → Type 0
IsFound b f t n (Ok p) = IsPlace b f t n p.step p.position
IsFound b f t n (Err over) = n ≡ length (operators_of b f t) + over
