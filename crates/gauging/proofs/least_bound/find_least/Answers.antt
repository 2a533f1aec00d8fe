use mathlib.Core.Path.{sym, ap, ◌∙◌}
use Rattle.std.proofs.Common.{rules}
use Rattle.basics.specs.Answers.{answer}
use Rattle.rules.specs.Refusals.{table_read, form_read, find_least}
use Rattle.opening.proofs.OpeningLaws.{goes_on}
use Rattle.gauging.proofs.least_bound.find_least.Goals as goal

pub returns-in-Err : goal.returns-in-Err
unfolding find_least form_read table_read
returns-in-Err c = search (rules, goes_on c.open_formed.ensures c.in-Err.is)

pub returns-in-Ok : goal.returns-in-Ok
unfolding find_least form_read table_read
returns-in-Ok c = ap answer c.least.ensures ∙ sym (goes_on c.open_formed.ensures c.in-Ok.is _)
