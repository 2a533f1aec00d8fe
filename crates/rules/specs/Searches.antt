-- Document 02, C-11, "A search of our own": the plan that is to be found and the number that is to be reported. There is no search here.
use Rattle.std.specs.Prelude.{ℕ, ◌≤◌, ◌≡◌, ◌⊎◌, ◌↔◌, Bool, true, false, ◌&&◌, List, [], ◌∷◌, length, T, ltb}
use Rattle.std.proofs.Math.Option.{Option, none, some}
use Rattle.basics.specs.Lists.{Among, Distinct}
use Rattle.rules.specs.Tables.{Table, goal_facts}
use Rattle.rules.specs.Facts.{holds}
use Rattle.rules.specs.Progression.{State, Step, act, mth, is_empty, after_all, begin}
use Rattle.rules.specs.Operators.{Operator, expand, emitted, applies}

-- An operator may be applied in a state: it is emitted with this bound and form, and it applies.
abbrev pub may : ℕ → ℕ → Table → State → Operator → Bool
may b f t s o = emitted b f t o && applies f t s o

-- The state that it leads to, and the one at the end of a list.
abbrev pub led : ℕ → Table → State → Operator → State
led f t s o = after_all t s (expand f t o)

abbrev pub end_of : ℕ → Table → State → List Operator → State
end_of f t s [] = s
end_of f t s (o ∷ os) = end_of f t (led f t s o) os

-- "applicable operator lists": each may be applied where those before it lead to.
abbrev pub Applicable : ℕ → ℕ → Table → State → List Operator → Type 0
Applicable b f t s [] = Unit {0}
Applicable b f t s (o ∷ os) = T (may b f t s o) × Applicable b f t (led f t s o) os

-- The stack is empty, and the goal facts hold.
abbrev pub complete : Table → State → Bool
complete t s = is_empty s.stack && holds (goal_facts t) s.facts

-- "accepted": applicable, and complete at its end.
pub record Accepting (b f : ℕ) (t : Table) (s : State) (os : List Operator) : Type 0 where
  pub applicable : Applicable b f t s os
  pub complete : T (complete t (end_of f t s os))

-- "methods in table order": of two steps the one that comes first in the table, its actions and then its methods.
abbrev pub precedes : Step → Step → Bool
precedes (act j) (act k) = ltb j k
precedes (act j) (mth k) = true
precedes (mth j) (act k) = false
precedes (mth j) (mth k) = ltb j k

-- "in that order": the first difference decides; "a shorter list before its continuations".
abbrev pub Earlier : List Operator → List Operator → Type 0
Earlier os [] = ⊥
Earlier [] (p ∷ ps) = Unit {0}
Earlier (o ∷ os) (p ∷ ps) = T (precedes o.what p.what) ⊎ ((o ≡ p) × Earlier os ps)

-- "accepted plan of at most L operators".
pub record PlanWithin (b f : ℕ) (t : Table) (l : ℕ) (os : List Operator) : Type 0 where
  pub accepted : Accepting b f t (begin t) os
  pub short : length os ≤ l

-- "the first accepted plan of at most L operators in that order": no other comes before it.
pub record Found (b f : ℕ) (t : Table) (l : ℕ) (os : List Operator) : Type 0 where
  pub plan : PlanWithin b f t l os
  pub first : (ps : List Operator) → PlanWithin b f t l ps → Earlier ps os → ⊥

-- "no plan of at most L operators".
abbrev pub NoneWithin : ℕ → ℕ → Table → ℕ → Type 0
NoneWithin b f t l = (ps : List Operator) → PlanWithin b f t l ps → ⊥

-- It is the plan found; or there is none.
abbrev pub IsPlan : ℕ → ℕ → Table → ℕ → Option (List Operator) → Type 0
IsPlan b f t l none = NoneWithin b f t l
IsPlan b f t l (some os) = Found b f t l os

-- "that come no later than the plan found"; "all of them if there is no plan".
abbrev pub NoLater : Option (List Operator) → List Operator → Type 0
NoLater none os = Unit {0}
NoLater (some p) os = (os ≡ p) ⊎ Earlier os p

-- "applicable operator lists of 1 to L operators, from the start, that come no later than the plan found".
pub record Applied (b f : ℕ) (t : Table) (l : ℕ) (plan : Option (List Operator)) (os : List Operator) : Type 0 where
  pub applicable : Applicable b f t (begin t) os
  pub some : 1 ≤ length os
  pub short : length os ≤ l
  pub no_later : NoLater plan os

-- "how many operators were applied: exactly the number of" these: a list that has just these, each once, has so many members.
pub record NumberApplied (b f : ℕ) (t : Table) (l : ℕ) (plan : Option (List Operator)) (n : ℕ) : Type 0 where
  pub lists : List (List Operator)
  pub size : length lists ≡ n
  pub distinct : Distinct lists
  pub exactly : (os : List Operator) → Among os lists ↔ Applied b f t l plan os
