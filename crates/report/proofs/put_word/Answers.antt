use native.Mathlib.Omega.{arith}
use Rattle.text.proofs.PutLaws.{◌▹◌, appended}
use Rattle.report.proofs.put_word.Goals as goal

pub returns-clause-appends : goal.returns-clause-appends
returns-clause-appends c =
    appended (c.put-next.ensures ▹ c.put_number.ensures.puts) (omega (arith, c.put-next.ensures.next, c.put_number.ensures.upper_bound, c.requires))
