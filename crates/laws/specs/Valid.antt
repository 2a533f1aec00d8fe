-- What holds of every table that was read.
use Rattle.std.specs.Prelude.{ℕ, ◌+◌, ◌-◌, ◌≤◌, ◌<◌, ◌≡◌, length, get_or}
use Rattle.rules.specs.Limits.{most_facts, most_actions, most_tasks, most_methods, most_subtasks, most_cost}
use Rattle.rules.specs.Tables.{Header, Action, Method, Table, all_facts, action, method}

pub record Bounded (h : Header) : Type 0 where
  pub facts : h.facts ≤ most_facts
  pub actions : h.actions ≤ most_actions
  pub abstracts : 1 ≤ h.abstracts
  pub tasks : h.abstracts ≤ most_tasks - h.actions
  pub methods : h.methods ≤ most_methods
  pub start_low : h.actions ≤ h.start
  pub start_high : h.start ≤ h.actions + h.abstracts - 1
  pub init : h.init ≤ all_facts h.facts
  pub goal : h.goal ≤ all_facts h.facts

pub record GoodAction (h : Header) (a : Action) : Type 0 where
  pub needs : a.needs ≤ all_facts h.facts
  pub adds : a.adds ≤ all_facts h.facts
  pub dels : a.dels ≤ all_facts h.facts
  pub cost : a.cost ≤ most_cost

pub record GoodMethod (h : Header) (m : Method) : Type 0 where
  pub low : h.actions ≤ m.head
  pub high : m.head ≤ h.actions + h.abstracts - 1
  pub count : length m.subs ≤ most_subtasks
  pub subs : (j : ℕ) → j < length m.subs → get_or m.subs j 0 ≤ h.actions + h.abstracts - 1

pub record Valid (t : Table) : Type 0 where
  pub head : Bounded t.head
  pub actions : length t.actions ≡ t.head.actions
  pub methods : length t.methods ≡ t.head.methods
  pub action : (k : ℕ) → k < t.head.actions → GoodAction t.head (action t k)
  pub method : (k : ℕ) → k < t.head.methods → GoodMethod t.head (method t k)
