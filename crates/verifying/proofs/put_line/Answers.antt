use mathlib.Core.Path.{sym, ap, ◌∙◌}
use Rattle.rules.specs.Checks.{verdict_of}
use Rattle.text.proofs.AppendLaws.{appends_is}
use Rattle.rules.specs.Programs.{told, accepted_line, check_output}
use Rattle.verifying.proofs.put_line.Goals as goal

pub returns-in-Ok-clause-appends : goal.returns-in-Ok-clause-appends
unfolding check_output
returns-in-Ok-clause-appends c =
    appends_is (ap (told accepted_line) (sym c.decide.ensures.0 ∙ ap verdict_of c.in-Ok.is)) c.accepted.ensures.appends

pub returns-in-Err-clause-appends : goal.returns-in-Err-clause-appends
unfolding check_output
returns-in-Err-clause-appends c =
    appends_is (ap (told accepted_line) (sym c.decide.ensures.0 ∙ ap verdict_of c.in-Err.is)) c.refused.ensures.appends
