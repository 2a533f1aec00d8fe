use mathlib.Core.Path.{sym, ap, ◌∙◌}
use Rattle.std.proofs.Common.{rules}
use Rattle.basics.specs.Answers.{length_of}
use Rattle.rules.specs.Refusals.{table_read, form_read, opened, one_section}
use Rattle.opening.proofs.OpeningLaws.{goes_on}
use Rattle.placing.proofs.measure.Goals as goal

pub measured-requires : goal.measured-requires
measured-requires c =
    let usable = c.«open».ensures.known c.in_ok-open.was in
    (usable.low, usable.high)

pub returns-in_err-open : goal.returns-in_err-open
unfolding one_section opened form_read table_read
returns-in_err-open c = search (rules, goes_on c.«open».ensures c.in_err-open.was)

pub returns : goal.returns
unfolding one_section opened form_read table_read
returns c = c.measured.ensures ∙ sym (ap length_of (goes_on c.«open».ensures c.in_ok-open.was _))
