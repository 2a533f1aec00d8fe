use mathlib.Core.Path.{refl, ap}
use Prim.Native.Nat.{ℕ, ◌-◌}
use native.Mathlib.Omega.{arith}
use Rattle.words.specs.Words.{table_of}
use Rattle.words.proofs.ViewLaws.{width_small}
use Rattle.laws.proofs.CountLaws.{prefix_short}
use Rattle.facts.specs.Sets.{join_read}
use Rattle.rows.proofs.RowLaws.{method_stored}
use Rattle.rows.proofs.method_row.Goals as goal

pub put_rest-requires : goal.put_rest-requires
put_rest-requires c =
    let a = c.args in
    let pre = c.requires in
    (pre.1, omega (arith, c.prefix_of-prefix.ensures.count, prefix_short a.form (table_of a.words.all.now) a.k), omega (arith, pre.3.in_cells))

pub overflow_sub-left : goal.overflow_sub-left
overflow_sub-left c =
    let a = c.args in
    omega (arith, c.width_of.ensures, c.prefix_of-prefix.ensures.count, prefix_short a.form (table_of a.words.all.now) a.k)

pub overflow_add-steps : goal.overflow_add-steps
overflow_add-steps c =
    let a = c.args in
    let pre = c.requires in
    omega (arith, c.prefix_of-prefix.ensures.count, prefix_short a.form (table_of a.words.all.now) a.k, width_small a.words.all.now c.args.words.held a.k pre.1)

pub overflow_cast-tail-3 : goal.overflow_cast-tail-3
overflow_cast-tail-3 c =
    let a = c.args in
    let pre = c.requires in
    omega (arith, c.prefix_of-prefix.ensures.count, prefix_short a.form (table_of a.words.all.now) a.k, width_small a.words.all.now c.args.words.held a.k pre.1)

pub returns : goal.returns
returns c =
    let a = c.args in
    let pre = c.requires in
    let t = table_of a.words.all.now in
    let prefix = c.prefix_of-prefix in
    let put = c.put_sets in
    let rest = c.put_rest in
    let tail = c.put_tail in
    method_stored a.bound a.form t a.k a.i a.ops.now put.new.ops a.cells.now rest.new.cells tail.new.cells
    (join_read prefix.result.join) c.prefix_cost-cost.result prefix.result.count c.head_of-task.result _ _ c.highest_position-last.result
    c.args.words.held.valid
    pre.1
    prefix.ensures.sets
    c.prefix_cost-cost.ensures
    prefix.ensures.count
    c.head_of-task.ensures
    (ap (λ (n : ℕ). n - prefix.result.count) c.width_of.ensures)
    refl
    c.highest_position-last.ensures
    put.ensures
    rest.ensures
    tail.ensures
