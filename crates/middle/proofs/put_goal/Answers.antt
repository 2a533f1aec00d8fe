use Rattle.words.specs.Words.{table_of}
use Rattle.text.proofs.PutLaws.{◌▹◌, puts_is}
use Rattle.middle.proofs.MiddleLaws.{goal_lines}
use Rattle.middle.proofs.put_goal.Goals as goal

pub returns-clause-puts : goal.returns-clause-puts
returns-clause-puts c =
    puts_is (goal_lines (table_of c.args.words.all.now) c.args.words.held.valid)
    (rw (← c.goal_facts-goal.ensures, ← c.fact_count-facts.ensures, ← c.count-count.ensures.value)
    (c.put_line-lines.ensures.puts ▹ c.put_lines-top.ensures.puts ▹ c.put_field-end.ensures.puts ▹ c.put.ensures))
