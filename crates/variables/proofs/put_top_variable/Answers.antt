use Rattle.text.proofs.PutLaws.{◌▹◌, puts_is}
use Rattle.variables.proofs.VariableLaws.{top_lines}
use Rattle.variables.proofs.put_top_variable.Goals as goal

pub returns-clause-puts : goal.returns-clause-puts
returns-clause-puts c =
    let a = c.args in puts_is (top_lines a.v a.bound) (c.put_head-names.ensures.puts ▹ c.put_names-end.ensures.puts ▹ c.put.ensures)
