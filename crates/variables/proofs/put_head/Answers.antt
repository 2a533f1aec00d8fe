use Rattle.text.proofs.PutLaws.{◌▹◌, puts_is}
use Rattle.variables.proofs.VariableLaws.{head_lines}
use Rattle.variables.proofs.put_head.Goals as goal

pub returns-clause-puts : goal.returns-clause-puts
returns-clause-puts c =
    let a = c.args in puts_is (head_lines a.v a.values) (c.put_line-next.ensures.puts ▹ c.put_line.ensures.puts)
