-- "Operators": which there are, what they stand for, and in what order.
use Rattle.std.specs.Prelude.{ℕ, suc, ◌+◌, ◌-◌, Bool, ◌&&◌, cond, List, [], ◌∷◌, ◌++◌, map, eqb, ltb, leb}
use Rattle.basics.specs.Lists.{rows, upto}
use Rattle.rules.specs.Tables.{Table, action_count, method_count, action, method}
use Rattle.rules.specs.Facts.{Join, join_of}
use Rattle.rules.specs.Progression.{Step, act, mth, State, height, all_allowed, prefix, stays, remain}

-- An operator: the step that it begins with, at a position.
pub record Operator : Type 0 where
  pub what : Step
  pub at : ℕ

-- The actions that a step takes with it.
abbrev pub company : ℕ → Table → Step → List ℕ
company f t (act k) = []
company f t (mth k) = prefix f t k

-- The steps that an operator stands for: "a method's prefix actions after it".
abbrev pub expand : ℕ → Table → Operator → List Step
expand f t o = o.what ∷ map act (company f t o.what)

abbrev pub expand_all : ℕ → Table → List Operator → List Step
expand_all f t [] = []
expand_all f t (o ∷ os) = expand f t o ++ expand_all f t os

-- The joined sets of the actions that a step does at once: "A single action is joined the same way, alone."
unfoldable pub joined : ℕ → Table → Step → Join
joined f t (act k) = join_of (action t k ∷ [])
joined f t (mth k) = join_of (map (action t) (prefix f t k))

-- "the head (or the action) there": the task that an operator takes off the stack, and the tasks that it leaves in its place.
abbrev pub task_of : Table → Step → ℕ
task_of t (act k) = k
task_of t (mth k) = (method t k).head

abbrev pub leaves : ℕ → Table → Step → List ℕ
leaves f t (act k) = []
leaves f t (mth k) = stays f t k

-- "at 1 to b if r = 0, otherwise at 1 to b − r + 1 (none if that is below 1)": the highest position, 0 where there is none.
abbrev pub highest : ℕ → ℕ → ℕ
highest b r = cond (eqb r 0) b (b + 1 - r)

-- "Action operators exist at every position. Method operators exist at" these. "A dead method has none."
unfoldable pub positions : ℕ → ℕ → Table → Step → ℕ
positions b f t (act k) = cond (ltb k (action_count t)) b 0
positions b f t (mth k) = cond (ltb k (method_count t)) (cond (joined f t (mth k)).dead 0 (highest b (remain f t k))) 0

-- "With bound b, positions are 1 to b": the operators that are emitted.
abbrev pub emitted : ℕ → ℕ → Table → Operator → Bool
emitted b f t o = leb 1 o.at && leb o.at (positions b f t o.what)

-- "needing top i and the head (or the action) there", and each step allowed in turn.
abbrev pub applies : ℕ → Table → State → Operator → Bool
applies f t s o = eqb o.at (height s) && all_allowed t s (expand f t o)

-- "Order: actions by number, positions rising; then methods likewise."
abbrev pub rising_from1 : Step → ℕ → List Operator
rising_from1 x n = rows (λ i. record { what = x; at = suc i }) n

unfoldable pub operators_of : ℕ → ℕ → Table → List Operator
operators_of b f t =
    upto (λ k. rising_from1 (act k) (positions b f t (act k))) (action_count t)
    ++ upto (λ k. rising_from1 (mth k) (positions b f t (mth k))) (method_count t)
