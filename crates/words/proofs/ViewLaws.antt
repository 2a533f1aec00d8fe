-- A table by its names, from the words that hold it.
use mathlib.Core.Path.{◌≡◌, ap, ◌∙◌}
use Prim.Native.Nat.{ℕ, ◌+◌, ◌*◌, ◌≤◌, ◌<◌}
use mathlib.Core.List.{List}
use native.Mathlib.Omega.{arith}
use lib.ListN.{length, get_or}
use Rattle.rules.specs.Tables.{Method, action_count, task_count, method_count, no_action, no_method, action, method}
use Rattle.laws.proofs.ListLaws.{rows_length, rows_at}
use Rattle.words.specs.Words.{action_of, method_of, cell_of, table_of, Held, per_method, first_method}

pub action_is : (w : List ℕ) (k : ℕ) → k < action_count (table_of w) → action (table_of w) k ≡ action_of w k
action_is w k l = rows_at (action_of w) no_action (get_or w 1 0) k l

pub method_is : (w : List ℕ) (k : ℕ) → k < method_count (table_of w) → method (table_of w) k ≡ method_of w k
method_is w k l = rows_at (method_of w) no_method (get_or w 3 0) k l

-- A method has as many subtasks as its second word says, at most eight.
module _ (w : List ℕ) (h : Held w) (k : ℕ) (l : k < method_count (table_of w)) where
  pub width_is : length (method (table_of w) k).subs ≡ get_or w (first_method + per_method * k + 1) 0
  width_is = ap (λ (m : Method). length m.subs) (method_is w k l) ∙ rows_length (cell_of (first_method + per_method * k + 2) w) (get_or w (first_method + per_method * k + 1) 0)

  pub width_small : length (method (table_of w) k).subs ≤ 8
  width_small = (h.valid.method k l).count

  pub subtask_is : (j : ℕ) → j < length (method (table_of w) k).subs → get_or (method (table_of w) k).subs j 0 ≡ get_or w (first_method + per_method * k + 2 + j) 0
  subtask_is j i =
      ap (λ (m : Method). get_or m.subs j 0) (method_is w k l)
      ∙ rows_at (cell_of (first_method + per_method * k + 2) w) 0 (get_or w (first_method + per_method * k + 1) 0) j (omega (arith, width_is))

  pub subtask_low : (j : ℕ) → j < length (method (table_of w) k).subs → get_or (method (table_of w) k).subs j 0 < task_count (table_of w)
  subtask_low j i = omega (arith, (h.valid.method k l).subs j i, h.valid.head.abstracts)
