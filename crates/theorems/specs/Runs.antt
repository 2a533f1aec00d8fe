-- Complete runs, and operators at their true heights.
use Rattle.std.specs.Prelude.{ℕ, ◌≡◌, List, [], ◌∷◌, T}
use Rattle.rules.specs.Tables.{Table, goal_facts}
use Rattle.rules.specs.Facts.{holds}
use Rattle.rules.specs.Progression.{State, Step, height, is_empty, allowed, next, after_all, begin, due, resting}
use Rattle.rules.specs.Operators.{Operator, expand}

-- A run from a state at which o prefix actions are due, to its end: each step is allowed by stack and facts, the height is within
-- the bound at every resting point, and at the end the stack is empty and the goal facts hold.
abbrev pub Run : ℕ → ℕ → Table → ℕ → State → List Step → Type 0
Run b f t o s [] = T (is_empty s.stack) × T (holds (goal_facts t) s.facts)
Run b f t o s (x ∷ xs) = T (allowed t s x) × T (resting b (due f t o x) (next t s x).stack) × Run b f t (due f t o x) (next t s x) xs

-- It begins with the start facts and the starting task alone on the stack.
abbrev pub CompleteRun : ℕ → ℕ → Table → List Step → Type 0
CompleteRun b f t xs = T (resting b 0 (begin t).stack) × Run b f t 0 (begin t) xs

-- Each operator stands at the true height of the state that it is applied in.
abbrev pub TrueHeights : ℕ → Table → State → List Operator → Type 0
TrueHeights f t s [] = Unit {0}
TrueHeights f t s (o ∷ os) = (o.at ≡ height s) × TrueHeights f t (after_all t s (expand f t o)) os
