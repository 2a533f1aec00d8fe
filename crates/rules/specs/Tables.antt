-- "The table": its numbers in order, each with its range and its refusal.
use Rattle.std.specs.Prelude.{ℕ, ◌+◌, ◌-◌, ◌^◌, List, [], cond, length, get_or, ltb}
use Rattle.basics.specs.Readings.{Reading, got, bad, ◌>>=◌, give, many}
use Rattle.rules.specs.Limits.{most_facts, most_actions, most_tasks, most_methods, most_subtasks, most_cost}
use Rattle.rules.specs.Reasons.{out_of_range, not_there, bytes_after_table}
use Rattle.rules.specs.Numbers.{ranged}

pub record Header : Type 0 where
  pub facts : ℕ
  pub actions : ℕ
  pub abstracts : ℕ
  pub methods : ℕ
  pub start : ℕ
  pub init : ℕ
  pub goal : ℕ

pub record Action : Type 0 where
  pub needs : ℕ
  pub adds : ℕ
  pub dels : ℕ
  pub cost : ℕ

pub record Method : Type 0 where
  pub head : ℕ
  pub subs : List ℕ

pub record Table : Type 0 where
  pub head : Header
  pub actions : List Action
  pub methods : List Method

-- "A fact set is one number whose bit k stands for fact k; no bit at F or above is set": the greatest set of f facts.
abbrev pub all_facts : ℕ → ℕ
all_facts f = 2 ^ f - 1

-- "F facts (0 to 64); A actions (0 to 255); C abstract tasks (at least 1, A + C at most 256); M methods (0 to 512);
-- the starting task; the start facts; the goal facts". "Starting task and heads are abstract."
unfoldable pub header : List ℕ → ℕ → Reading Header
header s = do
  facts ← ranged s 0 most_facts out_of_range
  actions ← ranged s 0 most_actions out_of_range
  abstracts ← ranged s 1 (most_tasks - actions) out_of_range
  methods ← ranged s 0 most_methods out_of_range
  start ← ranged s actions (actions + abstracts - 1) not_there
  init ← ranged s 0 (all_facts facts) not_there
  goal ← ranged s 0 (all_facts facts) not_there
  give (record { facts = facts; actions = actions; abstracts = abstracts; methods = methods; start = start; init = init; goal = goal })

-- "per action its needed, added and deleted facts and its cost (0 to 65,535)". No set is above `top`.
unfoldable pub read_action : List ℕ → ℕ → ℕ → Reading Action
read_action s top = do
  needs ← ranged s 0 top not_there
  adds ← ranged s 0 top not_there
  dels ← ranged s 0 top not_there
  cost ← ranged s 0 most_cost out_of_range
  give (record { needs = needs; adds = adds; dels = dels; cost = cost })

-- "per method its head, its count n of subtasks (0 to 8) and the subtasks". The first abstract task is lo, the last task hi.
unfoldable pub read_method : List ℕ → ℕ → ℕ → ℕ → Reading Method
read_method s lo hi = do
  head ← ranged s lo hi not_there
  n ← ranged s 0 most_subtasks out_of_range
  subs ← many (ranged s 0 hi not_there) n
  give (record { head = head; subs = subs })

-- Refusal 9: "bytes after the table", at "first of them".
unfoldable pub closed : List ℕ → Table → ℕ → Reading Table
closed s t at = cond (ltb at (length s)) (bad bytes_after_table at) (got t at)

-- "In order": the table that the bytes are, or the first refusal of 5 to 9 and its place.
-- "Tasks 0 to A − 1 are actions, A to A + C − 1 abstract."
unfoldable pub decode : List ℕ → Reading Table
decode s =
    (do
      h ← header s
      actions ← many (read_action s (all_facts h.facts)) h.actions
      methods ← many (read_method s h.actions (h.actions + h.abstracts - 1)) h.methods
      closed s (record { head = h; actions = actions; methods = methods }))
    0

-- A table by its names: everything below reaches one by these alone.
abbrev pub fact_count : Table → ℕ
fact_count t = t.head.facts

abbrev pub action_count : Table → ℕ
action_count t = t.head.actions

abbrev pub task_count : Table → ℕ
task_count t = t.head.actions + t.head.abstracts

abbrev pub method_count : Table → ℕ
method_count t = t.head.methods

abbrev pub start_task : Table → ℕ
start_task t = t.head.start

abbrev pub start_facts : Table → ℕ
start_facts t = t.head.init

abbrev pub goal_facts : Table → ℕ
goal_facts t = t.head.goal

abbrev pub no_action : Action
no_action = record { needs = 0; adds = 0; dels = 0; cost = 0 }

abbrev pub no_method : Method
no_method = record { head = 0; subs = [] }

abbrev pub action : Table → ℕ → Action
action t k = get_or t.actions k no_action

abbrev pub method : Table → ℕ → Method
method t k = get_or t.methods k no_method
