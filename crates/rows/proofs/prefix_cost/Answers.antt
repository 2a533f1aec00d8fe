use mathlib.Core.Path.{ap, ◌∙◌}
use Prim.Native.Nat.{◌<◌}
use native.Mathlib.Omega.{arith}
use lib.ListN.{length}
use Rattle.rules.specs.Tables.{Action, action}
use Rattle.rules.specs.Progression.{prefix}
use Rattle.laws.proofs.CountLaws.{prefix_short}
use Rattle.words.specs.Words.{table_of}
use Rattle.laws.proofs.CostLaws.{prefix_action, cost_more, prefix_cheap}
use Rattle.rows.proofs.prefix_cost.Goals as goal

pub subtask-task-requires : goal.subtask-task-requires
subtask-task-requires c =
    let a = c.args in
    let pre = c.requires in
    (pre.0, omega (arith, pre.1, prefix_short a.form (table_of a.words.all.now) a.k))

pub action_at-a-requires : goal.action_at-a-requires
action_at-a-requires c =
    let a = c.args in
    let l = c.loop-j in
    let t = table_of a.words.all.now in
    let j : l.j < length (prefix a.form t a.k) = omega (arith, c.requires.1) in
    omega (arith, c.subtask-task.ensures, prefix_action a.form t a.k l.j j)

pub overflow_add-cost : goal.overflow_add-cost
overflow_add-cost c =
    let a = c.args in
    let l = c.loop-j in
    let t = table_of a.words.all.now in
    let j : l.j < length (prefix a.form t a.k) = omega (arith, c.requires.1) in
    omega (
      arith,
      l.invariant,
      ap (λ (x : Action). x.cost) (c.action_at-a.ensures ∙ ap (action t) c.subtask-task.ensures),
      cost_more a.form t a.k l.j j,
      prefix_cheap a.form t a.k c.args.words.held.valid c.requires.0,
    )

pub loop-j-preserved : goal.loop-j-preserved
loop-j-preserved c =
    let a = c.args in
    let l = c.loop-j in
    let t = table_of a.words.all.now in
    let j : l.j < length (prefix a.form t a.k) = omega (arith, c.requires.1) in
    omega (
      arith,
      l.invariant,
      ap (λ (x : Action). x.cost) (c.action_at-a.ensures ∙ ap (action t) c.subtask-task.ensures),
      cost_more a.form t a.k l.j j,
    )
