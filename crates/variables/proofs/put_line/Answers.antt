use Rattle.text.proofs.PutLaws.{◌▹◌}
use Rattle.variables.proofs.put_line.Goals as goal

pub returns-clause-puts : goal.returns-clause-puts
returns-clause-puts c =
    c.put_field-next.ensures.puts ▹ c.put.ensures
