-- Where a walk stands: the levels above it, each with an operator applied, and what is left to be walked.
use Rattle.std.specs.Prelude.{ℕ, zero, suc, ◌+◌, ◌-◌, List, [], ◌∷◌, ◌++◌}
use Rattle.rules.specs.Tables.{Table}
use Rattle.rules.specs.Progression.{State}
use Rattle.rules.specs.Operators.{Operator}
use Rattle.rules.specs.Walks.{here, picks, Walked, nothing, behind, or_else, among, walk}
use Rattle.laws.specs.Steps.{step_at}
use Rattle.links.specs.Links.{row_count}

-- Of a state's choices those from row k on.
abbrev pub from : ℕ → ℕ → Table → State → ℕ → List Operator
from b f t s k = picks b f t s (step_at t) (row_count t - k) k

-- What is left from row k on of a walk of r operators more.
abbrev pub rest_of : ℕ → ℕ → Table → ℕ → State → ℕ → Walked
rest_of b f t zero s k = nothing
rest_of b f t (suc r) s k = among f t s (walk b f t r) (from b f t s k)

-- A level: a state, and the row whose operator was applied in it.
pub record Level : Type 0 where
  pub state : State
  pub row : ℕ

abbrev pub operator_of : Table → Level → Operator
operator_of t v = here v.state (step_at t v.row)

-- The operators of levels, of which the last comes first.
abbrev pub operators_of : Table → List Level → List Operator
operators_of t [] = []
operators_of t (v ∷ vs) = operators_of t vs ++ (operator_of t v ∷ [])

-- A walk told from before an operator that is counted already; and one that comes after n others.
abbrev pub told : Operator → Walked → Walked
told o w = record { plan = behind o w.plan; count = w.count }

abbrev pub ahead : ℕ → Walked → Walked
ahead n w = record { plan = w.plan; count = n + w.count }

-- What is left in all: w below the last level, which allows r operators more, and of each level the rows after its own.
abbrev pub all_of : ℕ → ℕ → Table → ℕ → List Level → Walked → Walked
all_of b f t r [] w = w
all_of b f t r (v ∷ vs) w = all_of b f t (suc r) vs (or_else (told (operator_of t v) w) (rest_of b f t (suc r) v.state (suc v.row)))
