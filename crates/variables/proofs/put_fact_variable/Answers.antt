use Rattle.text.proofs.PutLaws.{◌▹◌, puts_is}
use Rattle.variables.proofs.VariableLaws.{fact_lines_lem}
use Rattle.variables.proofs.put_fact_variable.Goals as goal

pub returns-clause-puts : goal.returns-clause-puts
returns-clause-puts c =
    puts_is (fact_lines_lem c.args.v)
    (c.put_head-holds.ensures.puts ▹ c.put_line-fails.ensures.puts ▹ c.put_line-end.ensures.puts ▹ c.put.ensures)
