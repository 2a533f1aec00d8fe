use Rattle.words.specs.Words.{table_of}
use Rattle.text.proofs.PutLaws.{◌▹◌, puts_is}
use Rattle.middle.proofs.MiddleLaws.{middle_lines}
use Rattle.middle.proofs.put_middle.Goals as goal

pub returns-clause-puts : goal.returns-clause-puts
returns-clause-puts c =
    let a = c.args in puts_is (middle_lines a.bound a.form (table_of a.words.all.now))
    (rw (← c.operator_count-operators.ensures) (c.put_state-goal.ensures.puts ▹ c.put_goal-count.ensures.puts ▹ c.put_number-end.ensures.puts ▹ c.put.ensures))
