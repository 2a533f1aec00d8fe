-- Document 02, C-11, "a plain depth-first search": what is computed. That it gives what `Searches` says is a theorem.
use Rattle.std.specs.Prelude.{ℕ, zero, suc, ◌+◌, cond, List, [], ◌∷◌, ◌++◌}
use Rattle.std.proofs.Math.Option.{Option, none, some}
use Rattle.rules.specs.Tables.{Table, action_count, method_count}
use Rattle.rules.specs.Progression.{State, Step, act, mth, height}
use Rattle.rules.specs.Operators.{Operator}
use Rattle.rules.specs.Searches.{may, led, complete}

-- A step at the height of a state.
abbrev pub here : State → Step → Operator
here s x = record { what = x; at = height s }

-- Of n steps from number k on, those that may be applied.
unfoldable pub picks : ℕ → ℕ → Table → State → (ℕ → Step) → ℕ → ℕ → List Operator
picks b f t s step zero k = []
picks b f t s step (suc n) k =
    cond (may b f t s (here s (step k))) (here s (step k) ∷ picks b f t s step n (suc k)) (picks b f t s step n (suc k))

-- The operators that may be applied in a state, "in table order".
unfoldable pub choices : ℕ → ℕ → Table → State → List Operator
choices b f t s = picks b f t s act (action_count t) 0 ++ picks b f t s mth (method_count t) 0

-- The plan, or none, and how many operators were applied.
pub record Walked : Type 0 where
  pub plan : Option (List Operator)
  pub count : ℕ

abbrev pub nothing : Walked
nothing = record { plan = none; count = 0 }

abbrev pub hit : Operator → Walked
hit o = record { plan = some (o ∷ []); count = 1 }

-- What comes after an operator, told from before it.
abbrev pub behind : Operator → Option (List Operator) → Option (List Operator)
behind o none = none
behind o (some os) = some (o ∷ os)

abbrev pub after : Operator → Walked → Walked
after o w = record { plan = behind o w.plan; count = suc w.count }

-- One walk, and where it finds nothing another.
abbrev pub pick_of : Option (List Operator) → ℕ → Walked → Walked
pick_of none n w = record { plan = w.plan; count = n + w.count }
pick_of (some os) n w = record { plan = some os; count = n }

abbrev pub or_else : Walked → Walked → Walked
or_else v w = pick_of v.plan v.count w

-- Some operators in turn, each with what follows it before the next.
unfoldable pub among : ℕ → Table → State → (State → Walked) → List Operator → Walked
among f t s deeper [] = nothing
among f t s deeper (o ∷ os) =
    or_else (cond (complete t (led f t s o)) (hit o) (after o (deeper (led f t s o)))) (among f t s deeper os)

-- "at most L operators": l operators more from a state.
unfoldable pub walk : ℕ → ℕ → Table → ℕ → State → Walked
walk b f t zero s = nothing
walk b f t (suc l) s = among f t s (walk b f t l) (choices b f t s)
