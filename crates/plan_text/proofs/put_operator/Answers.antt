use native.Mathlib.Omega.{arith}
use Rattle.words.specs.Words.{table_of}
use Rattle.text.proofs.PutLaws.{◌▹◌, puts_is}
use Rattle.plan_text.proofs.PlanLineLaws.{line_parts}
use Rattle.plan_text.proofs.put_operator.Goals as goal

pub put_name-name-requires : goal.put_name-name-requires
put_name-name-requires c =
    let p = c.requires in
    (p.0.number, omega (arith, p.1))

pub returns : goal.returns
returns c =
    let a = c.args in
    let e = line_parts (table_of a.words.all.now) a.mark in record { puts = puts_is e (c.put_name-name.ensures.puts ▹ c.put_field-end.ensures.puts ▹ c.put.ensures); upper_bound = omega (arith, c.put_name-name.ensures.upper_bound, c.put_field-end.ensures.upper_bound, c.put.ensures.next) }
