use Rattle.words.specs.Words.{table_of}
use Rattle.text.proofs.PutLaws.{◌▹◌, puts_is}
use Rattle.middle.proofs.MiddleLaws.{state_lines}
use Rattle.middle.proofs.put_state.Goals as goal

pub returns-clause-puts : goal.returns-clause-puts
returns-clause-puts c =
    let a = c.args in puts_is (state_lines a.bound (table_of a.words.all.now)) (rw (← c.variable_count-count.ensures) (c.put-values.ensures ▹ c.put_values-end.ensures.puts ▹ c.put.ensures))
