use native.Mathlib.Omega.{arith}
use Rattle.words.specs.Words.{table_of}
use Rattle.text.proofs.PutLaws.{puts_is}
use Rattle.plan_text.proofs.PlanLineLaws.{action_name, method_name, method_number}
use Rattle.plan_text.proofs.put_name.Goals as goal

pub returns-then-number-actions : goal.returns-then-number-actions
returns-then-number-actions c =
    let w = c.put_field.ensures in
    let a = c.args in
    record { puts = puts_is (action_name (table_of a.words.all.now) a.row _ c.action_count-actions.ensures c.if-number-actions.true) w.puts; upper_bound = omega (arith, w.upper_bound) }

pub put_field-requires-2 : goal.put_field-requires-2
put_field-requires-2 c =
    let n = method_number (table_of c.args.words.all.now) c.args.row _ c.action_count-actions.ensures c.if-number-actions.false in
    (omega (arith, c.requires.1), omega (arith, n, c.requires.0))

pub returns : goal.returns
returns c =
    let w = c.put_field-2.ensures in
    let a = c.args in
    record { puts = puts_is (method_name (table_of a.words.all.now) a.row _ c.action_count-actions.ensures c.if-number-actions.false) w.puts; upper_bound = omega (arith, w.upper_bound) }
