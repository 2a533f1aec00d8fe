use Prim.Native.Nat.{◌-◌}
use mathlib.Core.Path.{sym, ap, ◌∙◌}
use native.Mathlib.Omega.{arith}
use lib.ListN.{length}
use lib.Seq.{sets}
use Rattle.words.specs.Words.{table_of}
use Rattle.step_list.proofs.StepListLaws.{action_bytes, method_row}
use Rattle.step_list.proofs.put_steps.Goals as goal

pub put_word-requires : goal.put_word-requires
put_word-requires c = let e = action_bytes c.args.form (table_of c.args.words.all.now) c.args.row (omega (arith, c.action_count-actions.ensures, c.if-row-actions.true)) in
    omega (arith, ap length e, c.requires.row_in_bounds)

pub returns-then-row-actions : goal.returns-then-row-actions
returns-then-row-actions c = let e = action_bytes c.args.form (table_of c.args.words.all.now) c.args.row (omega (arith, c.action_count-actions.ensures, c.if-row-actions.true)) in
    record { value = omega (arith, ap length e); out_after = c.put_word.ensures ∙ ap (sets c.args.out.now c.args.at) (sym e) }

pub put_method-requires : goal.put_method-requires
put_method-requires c = let e = c.action_count-actions.ensures in
    let k = c.args.row - c.action_count-actions.result in
    let m = method_row c.args.form c.args.words.all.now c.args.rows.ops.now c.args.rows.cells.now c.args.row k c.args.words.held c.requires.held.0 c.requires.held.1
    (omega (arith, e, c.if-row-actions.false)) (omega (arith, e)) in
    record { held = m; row_in_bounds = c.requires.row_in_bounds }
