use mathlib.Core.Path.{sym, subst}
use Prim.Native.Nat.{◌<◌}
use native.Mathlib.Omega.{arith}
use Rattle.rules.specs.Tables.{action_count}
use Rattle.rules.specs.Progression.{Step}
use Rattle.words.specs.Words.{table_of}
use Rattle.rows.specs.Rows.{row_of}
use Rattle.rows.specs.Stores.{Stored}
use Rattle.laws.proofs.StepNumbers.{step_action}
use Rattle.rows.proofs.RowLaws.{prepared_more}
use Rattle.rows.proofs.action_rows.Goals as goal

pub action_row-requires : goal.action_row-requires
action_row-requires c =
    let pre = c.requires in
    let few = c.args.words.held.valid.head.actions in
    let k : c.loop-k.k < action_count (table_of c.args.words.all.now) = omega (arith, c.action_count-n.ensures) in (
      pre.0,
      k,
      omega (arith, few),
      record { in_words = omega (arith, few, pre.1.in_words); in_cells = omega (arith, few, pre.1.in_cells) },
    )

pub loop-k-preserved : goal.loop-k-preserved
loop-k-preserved c f =
    let a = c.args in
    let l = c.loop-k in
    let row = c.action_row in
    let t = table_of a.words.all.now in
    let ops = row.new.ops in
    let cells = row.new.cells in
    let k : l.k < action_count t = omega (arith, c.action_count-n.ensures) in
    prepared_more a.bound f t l.k l.ops l.cells ops cells c.args.words.held.valid (omega arith) (l.invariant f)
    (subst (λ (x : Step). Stored l.k (row_of a.bound f t x) l.ops l.cells ops cells) (sym (step_action t l.k k)) (row.ensures f))
