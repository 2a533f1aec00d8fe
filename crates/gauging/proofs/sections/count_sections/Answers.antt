use mathlib.Core.Path.{sym, ap, ◌∙◌}
use Rattle.std.proofs.Common.{rules}
use Rattle.basics.specs.Answers.{answer}
use Rattle.rules.specs.Refusals.{table_read, form_read, opened, count_sections}
use Rattle.opening.proofs.OpeningLaws.{goes_on}
use Rattle.gauging.proofs.sections.count_sections.Goals as goal

pub section_count-requires : goal.section_count-requires
section_count-requires c =
    let usable = c.«open».ensures.known c.in_ok-open.was in
    usable.high

pub returns-in_err-open : goal.returns-in_err-open
unfolding count_sections opened form_read table_read
returns-in_err-open c = search (rules, goes_on c.«open».ensures c.in_err-open.was)

pub returns : goal.returns
unfolding count_sections opened form_read table_read
returns c = ap answer c.section_count.ensures ∙ sym (goes_on c.«open».ensures c.in_ok-open.was _)
