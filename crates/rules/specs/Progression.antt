-- "Progression": states, steps, and the two forms.
use Rattle.std.specs.Prelude.{ℕ, zero, suc, ◌+◌, ◌-◌, Bool, true, false, ◌&&◌, cond, length, drop, eqb, leb, ltb}
use mathlib.Core.List.{List, [], ◌∷◌, ◌++◌, tail}
use Rattle.rules.specs.Tables.{Table, action_count, method_count, start_task, start_facts, action, method}
use Rattle.rules.specs.Facts.{holds, changed}

-- A step: action k, or method k.
pub data Step : Type 0 where
  act : ℕ → Step
  mth : ℕ → Step

-- "A state is a fact set and a stack", here with its top first.
pub record State : Type 0 where
  pub facts : ℕ
  pub stack : List ℕ

abbrev pub height : State → ℕ
height s = length s.stack

abbrev pub on_top : ℕ → List ℕ → Bool
on_top k [] = false
on_top k (x ∷ xs) = eqb x k

abbrev pub is_empty : List ℕ → Bool
is_empty [] = true
is_empty (x ∷ xs) = false

-- "An action on top"; "An abstract task on top may be replaced by a method of that head": the stack's part of a step.
abbrev pub fits : Table → List ℕ → Step → Bool
fits t st (act k) = ltb k (action_count t) && on_top k st
fits t st (mth k) = ltb k (method_count t) && on_top (method t k).head st

-- "it is popped"; "it is popped and the subtasks pushed so that the first is on top".
abbrev pub moved : Table → List ℕ → Step → List ℕ
moved t st (act k) = tail st
moved t st (mth k) = (method t k).subs ++ tail st

-- "may run if its needed facts hold"; "and changes the facts": the facts' part.
abbrev pub enabled : Table → ℕ → Step → Bool
enabled t facts (act k) = holds (action t k).needs facts
enabled t facts (mth k) = true

abbrev pub effect : Table → ℕ → Step → ℕ
effect t facts (act k) = changed (action t k).dels (action t k).adds facts
effect t facts (mth k) = facts

abbrev pub allowed : Table → State → Step → Bool
allowed t s x = fits t s.stack x && enabled t s.facts x

abbrev pub next : Table → State → Step → State
next t s x = record { facts = effect t s.facts x; stack = moved t s.stack x }

-- "An action costs what the table says, a method 0, an operator the sum of its steps."
abbrev pub step_cost : Table → Step → ℕ
step_cost t (act k) = (action t k).cost
step_cost t (mth k) = 0

abbrev pub total_cost : Table → List Step → ℕ
total_cost t [] = 0
total_cost t (x ∷ xs) = step_cost t x + total_cost t xs

-- Steps one after the other.
abbrev pub all_allowed : Table → State → List Step → Bool
all_allowed t s [] = true
all_allowed t s (x ∷ xs) = allowed t s x && all_allowed t (next t s x) xs

abbrev pub after_all : Table → State → List Step → State
after_all t s [] = s
after_all t s (x ∷ xs) = after_all t (next t s x) xs

-- The start: the start facts and the starting task alone on the stack.
abbrev pub begin : Table → State
begin t = record { facts = start_facts t; stack = start_task t ∷ [] }

-- "the longest run of actions at the start of its subtasks": of the tasks, the first a are actions.
abbrev pub leading : ℕ → List ℕ → List ℕ
leading a [] = []
leading a (x ∷ xs) = cond (ltb x a) (x ∷ leading a xs) []

-- "Prefix form (1): a method takes with it" that run; none "in the plain form" (0).
abbrev pub prefix : ℕ → Table → ℕ → List ℕ
prefix zero t k = []
prefix (suc f) t k = leading (action_count t) (method t k).subs

-- "Let p be the length of that run (0 in the plain form) and r = n − p": the subtasks that stay, and r.
abbrev pub stays : ℕ → Table → ℕ → List ℕ
stays f t k = drop (length (prefix f t k)) (method t k).subs

abbrev pub remain : ℕ → Table → ℕ → ℕ
remain f t k = length (method t k).subs - length (prefix f t k)

-- How many prefix actions are due after a step, where `o` were before it.
abbrev pub due : ℕ → Table → ℕ → Step → ℕ
due f t o (mth k) = length (prefix f t k)
due f t zero (act k) = zero
due f t (suc o) (act k) = o

-- "resting points are the start, the end of a method with that whole run, and the end of a single action": those where none is due.
-- At such a point the stack's height is within the bound b.
abbrev pub resting : ℕ → ℕ → List ℕ → Bool
resting b zero st = leb (length st) b
resting b (suc o) st = true
