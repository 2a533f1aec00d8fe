use Rattle.version3.specs.Spelling.{preamble}
use Rattle.variables.proofs.put_preamble.Goals as goal

pub returns-clause-puts : goal.returns-clause-puts
unfolding preamble
returns-clause-puts c =
    rw (← c.variable_count-count.ensures) c.put_line.ensures.puts
