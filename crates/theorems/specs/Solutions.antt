-- Source document 002, section 2.1: refinement, executability, solutions.
use Rattle.std.specs.Prelude.{ℕ, ◌+◌, ◌<◌, List, [], ◌∷◌, ◌++◌, T}
use Rattle.rules.specs.Tables.{Table, action_count, method_count, start_task, start_facts, goal_facts, action, method}
use Rattle.rules.specs.Facts.{holds, changed}
use Rattle.rules.specs.Progression.{Step, act, mth}

-- A sequence of methods transforms one row of tasks into another: each replaces its head, wherever it stands, by its subtasks.
pub data Refines (t : Table) : List ℕ → List ℕ → Type 0 where
  same : {ts : List ℕ} → Refines t ts ts
  split : {ts : List ℕ} (before : List ℕ) (k : ℕ) (behind : List ℕ) → k < method_count t
      → Refines t (before ++ ((method t k).subs ++ behind)) ts
      → Refines t (before ++ ((method t k).head ∷ behind)) ts

-- A row of actions is executable in order from the facts, leads to `result`, and costs `summed`.
abbrev pub Executable : Table → ℕ → List ℕ → Type 0
Executable t facts [] = Unit {0}
Executable t facts (k ∷ ks) =
    (k < action_count t) × T (holds (action t k).needs facts) × Executable t (changed (action t k).dels (action t k).adds facts) ks

abbrev pub result : Table → ℕ → List ℕ → ℕ
result t facts [] = facts
result t facts (k ∷ ks) = result t (changed (action t k).dels (action t k).adds facts) ks

abbrev pub summed : Table → List ℕ → ℕ
summed t [] = 0
summed t (k ∷ ks) = (action t k).cost + summed t ks

pub record Solution (t : Table) (ks : List ℕ) : Type 0 where
  pub refines : Refines t (start_task t ∷ []) ks
  pub executable : Executable t (start_facts t) ks
  pub reaches : T (holds (goal_facts t) (result t (start_facts t) ks))

-- The actions among some steps.
abbrev pub actions_of : List Step → List ℕ
actions_of [] = []
actions_of (act k ∷ xs) = k ∷ actions_of xs
actions_of (mth k ∷ xs) = actions_of xs
