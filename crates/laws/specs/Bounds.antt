-- Bounds of tasks that are on the way to the least bound of a form, and stacks with actions on top.
use Rattle.std.specs.Prelude.{ℕ, zero, suc, ◌≤◌, ◌<◌, List, [], ◌∷◌, length, T, ltb}
use Rattle.rules.specs.Limits.{most_bound}
use Rattle.rules.specs.Tables.{Table, action_count, task_count, method_count, method}
use Rattle.rules.specs.Progression.{Step}
use Rattle.rules.specs.LeastBounds.{Clears, bound_of, method_bound}

-- The first o tasks of the stack are actions: those that are due.
abbrev pub Owed : ℕ → ℕ → List ℕ → Type 0
Owed a zero st = Unit {0}
Owed a (suc o) [] = ⊥
Owed a (suc o) (x ∷ st) = T (ltb x a) × Owed a o st

-- A bound that is at most 64 clears its task.
unfoldable pub Sound : ℕ → Table → List ℕ → Type 0
Sound f t v = (c : ℕ) → bound_of v c ≤ most_bound → (xs : List Step) × Clears (bound_of v c) f t 0 (c ∷ []) xs

-- No bound is 0, an action's is 1, and no method lowers its head's.
pub record Closed (f : ℕ) (t : Table) (v : List ℕ) : Type 0 where
  pub some : (c : ℕ) → 1 ≤ bound_of v c
  pub acts : (k : ℕ) → k < action_count t → bound_of v k ≤ 1
  pub mths : (k : ℕ) → k < method_count t → bound_of v (method t k).head ≤ method_bound f t v k

-- What each round keeps.
pub record Kept (f : ℕ) (t : Table) (v : List ℕ) : Type 0 where
  pub size : task_count t ≤ length v
  pub some : (c : ℕ) → 1 ≤ bound_of v c
  pub acts : (k : ℕ) → k < action_count t → bound_of v k ≤ 1
  pub sound : Sound f t v
