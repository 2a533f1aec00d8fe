-- What a search finds, said of runs, of texts and of bytes.
use Rattle.std.specs.Prelude.{ℕ, ◌*◌, ◌≤◌, List, ◌∷◌, ◌++◌, length, T}
use Rattle.rules.specs.Limits.{most_limit}
use Rattle.rules.specs.Tables.{Table}
use Rattle.rules.specs.Progression.{Step, begin}
use Rattle.rules.specs.Operators.{Operator}
use Rattle.rules.specs.Searches.{may, Earlier}
use Rattle.theorems.specs.Runs.{CompleteRun}
use Rattle.theorems.specs.Demand.{ListOf}

-- "(m511 64)" and a line feed: an operator's text has ten bytes at most, and a plan found at most `most_limit` operators.
abbrev pub most_line_bytes : ℕ
most_line_bytes = 10

abbrev pub most_found_bytes : ℕ
most_found_bytes = most_line_bytes * most_limit

-- A complete run, and its list of at most l operators.
pub record RunWithin (b f : ℕ) (t : Table) (l : ℕ) (os : List Operator) : Type 0 where
  pub steps : List Step
  pub run : CompleteRun b f t steps
  pub list : ListOf f t steps os
  pub short : length os ≤ l

-- No complete run has a list of at most l operators.
abbrev pub NoRunWithin : ℕ → ℕ → Table → ℕ → Type 0
NoRunWithin b f t l = (xs : List Step) → CompleteRun b f t xs → (os : List Operator) → ListOf f t xs os → length os ≤ l → ⊥

-- "a shorter list before its continuations".
abbrev pub ShorterFirst : Type 0
ShorterFirst = (os : List Operator) (o : Operator) (more : List Operator) → Earlier os (os ++ (o ∷ more))

-- No operator may be applied at the start.
abbrev pub NothingApplies : ℕ → ℕ → Table → Type 0
NothingApplies b f t = (o : Operator) → T (may b f t (begin t) o) → ⊥

-- Document 01's table T in form 0 has the plan "(m0 1)", "(a0 1)". Two lists are applied: the first operator alone, and the plan; the
-- empty list is not.
abbrev pub applied_in_t : ℕ
applied_in_t = 2
