use mathlib.Core.Path.{◌≡◌, refl, ap, ◌∙◌}
use mathlib.Core.List.{List}
use Prim.Native.Nat.{ℕ, ◌+◌, ◌-◌, ◌<◌}
use native.Mathlib.Omega.{arith}
use lib.ListN.{length, get_or, drop, length-drop}
use lib.Seq.{take-set-le}
use Rattle.rules.specs.Limits.{most_tasks}
use Rattle.rules.specs.Tables.{method_count, method}
use Rattle.words.specs.Words.{table_of, Held}
use Rattle.words.proofs.ViewLaws.{subtask_low, width_small}
use Rattle.rows.specs.Stacks.{stack_of}
use Rattle.rows.proofs.StackLaws.{push_none, push_more}
use Rattle.rows.proofs.put_rest.Goals as goal

pub loop-h-init : goal.loop-h-init
loop-h-init c =
    let a = c.args in
    record { kept = refl; stack = push_none a.cells.now (method (table_of a.words.all.now) a.k).subs a.c }

-- a subtask of the method, whichever it is, fits a cell
task_low : (w : List ℕ) (h : Held w) (k : ℕ) (l : k < method_count (table_of w)) {i r : ℕ}
    → r ≡ get_or (method (table_of w) k).subs i 0 → i < length (method (table_of w) k).subs → r < most_tasks
task_low w h k l {i} e j = omega (arith, e, subtask_low w h k l i j, h.valid.head.tasks)

pub loop-h-preserved : goal.loop-h-preserved
loop-h-preserved c =
    let a = c.args in
    let l = c.loop-h in
    let n = c.width_of-n.ensures in
    let tasks = (method (table_of a.words.all.now) a.k).subs in
    let room : a.c + l.h < length l.cells = omega (arith, n, c.requires.2, width_small a.words.all.now c.args.words.held a.k c.requires.0) in
    let task = c.subtask.ensures ∙ ap (λ (m : ℕ). get_or tasks (m - (l.h + 1)) 0) n in
    record {
      kept = take-set-le a.c l.cells (a.c + l.h) _ (omega arith) ∙ l.invariant.kept;
      stack = push_more l.cells tasks a.c l.h c.subtask.result (omega (arith, n)) room task l.invariant.stack;
    }

pub returns : goal.returns
returns c =
    let a = c.args in
    let l = c.loop-h in
    let tasks = (method (table_of a.words.all.now) a.k).subs in
    let n = c.width_of-n.ensures in
    let e : length tasks - l.h ≡ a.p = omega (arith, n, c.requires.1) in
    let h : length tasks - a.p ≡ l.h = omega (arith, n, c.requires.1) in
    record {
      kept = l.invariant.kept;
      stack = ap (stack_of (drop a.c l.cells)) (length-drop a.p tasks ∙ h) ∙ l.invariant.stack ∙ ap (λ (i : ℕ). drop i tasks) e;
    }
