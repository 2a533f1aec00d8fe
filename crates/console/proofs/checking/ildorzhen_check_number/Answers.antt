use mathlib.Core.Path.{ap, ◌∙◌}
use Rattle.basics.specs.Answers.{number_of}
use Rattle.rules.specs.Checks.{tally_of}
use Rattle.replies.proofs.ToldLaws.{number_read}
use Rattle.console.proofs.checking.ildorzhen_check_number.Goals as goal

pub returns : goal.returns
returns c = c.number.ensures ∙ number_read tally_of c.verdict.result ∙ ap number_of c.verdict.ensures.1
