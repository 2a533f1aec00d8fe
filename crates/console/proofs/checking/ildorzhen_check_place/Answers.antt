use mathlib.Core.Path.{ap, ◌∙◌}
use Rattle.basics.specs.Answers.{place_of}
use Rattle.rules.specs.Checks.{tally_of}
use Rattle.replies.proofs.ToldLaws.{place_read}
use Rattle.console.proofs.checking.ildorzhen_check_place.Goals as goal

pub returns : goal.returns
returns c = c.place.ensures ∙ place_read tally_of c.verdict.result ∙ ap place_of c.verdict.ensures.1
