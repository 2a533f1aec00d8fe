-- "Operators" (variables, lines): the problem that a table is turned into with a bound and a form, as numbers.
use Rattle.std.specs.Prelude.{ℕ, suc, ◌+◌, ◌-◌, cond, List, [], ◌∷◌, ◌++◌, map, length, get_or, eqb, ltb}
use Rattle.std.proofs.Math.Option.{none, some}
use Rattle.std.specs.Int.Bits.{bit_or}
use Rattle.basics.specs.Lists.{rows}
use Rattle.basics.specs.Texts.{bytes, digits}
use Rattle.version3.specs.Problems.{Variable, Setting, Effect, Oper, Problem}
use Rattle.rules.specs.Tables.{Table, fact_count, task_count, start_task, start_facts, goal_facts}
use Rattle.rules.specs.Facts.{Join, has, without, members_of}
use Rattle.rules.specs.Progression.{Step, act, mth, total_cost}
use Rattle.rules.specs.Operators.{Operator, expand, joined, task_of, leaves, operators_of}

-- ---- variables

-- "facts 0 to F − 1 (value 0 holds, 1 doesn't); F is the top of the stack (values 0 to b); F + i is position i (value = task, A + C = none)".
abbrev pub variable_count : ℕ → Table → ℕ
variable_count b t = fact_count t + 1 + b

abbrev pub no_task : Table → ℕ
no_task t = task_count t

-- "name (its number)", "value names (by fact, height or task)".
abbrev pub fact_names : ℕ → List (List ℕ)
fact_names k = (bytes "Atom f" ++ digits k) ∷ (bytes "NegatedAtom f" ++ digits k) ∷ []

abbrev pub height_names : ℕ → List (List ℕ)
height_names b = rows (λ h. bytes "top" ++ digits h) (suc b)

abbrev pub task_names : Table → List (List ℕ)
task_names t = rows (λ k. bytes "t" ++ digits k) (task_count t) ++ (bytes "none" ∷ [])

abbrev pub value_names : ℕ → Table → ℕ → List (List ℕ)
value_names b t v = cond (ltb v (fact_count t)) (fact_names v) (cond (eqb v (fact_count t)) (height_names b) (task_names t))

unfoldable pub variable_of : ℕ → Table → ℕ → Variable
variable_of b t v = record { name = bytes "var" ++ digits v; values = value_names b t v }

-- ---- start and goal

-- "At the start facts are as the start facts say, top is 1, position 1 is the starting task and every other position none."
abbrev pub start_value : Table → ℕ → ℕ
start_value t v =
    cond (ltb v (fact_count t)) (cond (has (start_facts t) v) 0 1)
    (cond (eqb v (fact_count t)) 1 (cond (eqb v (fact_count t + 1)) (start_task t) (no_task t)))

abbrev pub set : ℕ → ℕ → Setting
set v x = record { variable = v; value = x }

-- The facts hold.
abbrev pub holding : List ℕ → List Setting
holding ks = map (λ k. set k 0) ks

-- "The goal is the goal facts, then top 0."
abbrev pub goal_of : Table → List Setting
goal_of t = holding (members_of (fact_count t) (goal_facts t)) ++ (set (fact_count t) 0 ∷ [])

-- ---- an operator at position i that takes `task` off it and leaves `rest` in its place; the top's variable has the number of facts,
-- and `free` is the value of a position that holds no task

-- "top becomes i + r − 1 for a method, i − 1 for an action".
abbrev pub top_next : ℕ → List ℕ → ℕ
top_next i rest = i + length rest - 1

-- "Position i gets the method's last subtask; it gets none if r = 0 or the operator is an action operator."
abbrev pub bottom_next : ℕ → List ℕ → ℕ
bottom_next free rest = get_or rest (length rest - 1) free

-- "A needed fact that isn't deleted is a prevail line, also where it is added."
abbrev pub kept : Join → ℕ
kept j = without j.needs j.dels

-- "A needed and deleted fact is 0 to 1. An added fact not needed is −1 to 0, a deleted one not needed −1 to 1."
abbrev pub altered : Join → ℕ
altered j = bit_or j.dels (without j.adds j.needs)

abbrev pub fact_effect : ℕ → ℕ → ℕ → Effect
fact_effect needs dels k = record { variable = k; before = cond (has needs k) (some 0) none; after = cond (has dels k) 1 0 }

abbrev pub change : ℕ → ℕ → ℕ → Effect
change v x y = record { variable = v; before = some x; after = y }

-- "Positions i + 1 to i + r − 1 get the others, the first remaining subtask highest; their earlier value is written −1."
abbrev pub push : ℕ → ℕ → List ℕ → ℕ → Effect
push top i rest j = record { variable = top + i + suc j; before = none; after = get_or rest (length rest - 2 - j) 0 }

-- "Top and position i are prevail lines where their value does not change." "Lines rise by variable."
abbrev pub prevails : ℕ → ℕ → Join → ℕ → ℕ → List ℕ → List Setting
prevails top free j task i rest =
    holding (members_of top (kept j))
    ++ cond (eqb (top_next i rest) i) (set top i ∷ []) []
    ++ cond (eqb (bottom_next free rest) task) (set (top + i) task ∷ []) []

abbrev pub effects : ℕ → ℕ → Join → ℕ → ℕ → List ℕ → List Effect
effects top free j task i rest =
    map (fact_effect j.needs j.dels) (members_of top (altered j))
    ++ cond (eqb (top_next i rest) i) [] (change top i (top_next i rest) ∷ [])
    ++ cond (eqb (bottom_next free rest) task) [] (change (top + i) task (bottom_next free rest) ∷ [])
    ++ rows (push top i rest) (length rest - 1)

-- What is written of an operator, here and between the brackets of a plan's line: a step's name, a space, a position.
abbrev pub call : List ℕ → ℕ → List ℕ
call name i = name ++ (32 ∷ digits i)

unfoldable pub oper_at : ℕ → ℕ → List ℕ → Join → ℕ → ℕ → List ℕ → ℕ → Oper
oper_at top free name j task i rest cost =
    record {
      name = call name i;
      prevail = prevails top free j task i rest;
      effects = effects top free j task i rest;
      cost = cost;
    }

-- "`a` or `m`, a number".
abbrev pub name_of : Step → List ℕ
name_of (act k) = bytes "a" ++ digits k
name_of (mth k) = bytes "m" ++ digits k

abbrev pub call_of : Operator → List ℕ
call_of o = call (name_of o.what) o.at

unfoldable pub oper_of : ℕ → Table → Operator → Oper
oper_of f t o =
    oper_at (fact_count t) (no_task t) (name_of o.what) (joined f t o.what) (task_of t o.what) o.at (leaves f t o.what)
    (total_cost t (expand f t o))

-- ---- the whole

unfoldable pub problem_of : ℕ → ℕ → Table → Problem
problem_of b f t =
    record {
      variables = rows (variable_of b t) (variable_count b t);
      start = rows (start_value t) (variable_count b t);
      goal = goal_of t;
      operators = map (oper_of f t) (operators_of b f t);
    }
