use Rattle.std.proofs.Common.{rules}
use mathlib.Core.Path.{ap, sym, ◌∙◌}
use lib.ListN.{length}
use Rattle.basics.specs.Answers.{Answer, after}
use Rattle.rules.specs.Refusals.{Sought, sought_in, text_found, written}
use Rattle.words.specs.Words.{table_of}
use Rattle.replies.specs.Findings.{Figures, found_of, figures, room_for_figures}
use Rattle.laws.proofs.AnswerLaws.{via}
use Rattle.finder.proofs.FinderLaws.{figures_room}
use Rattle.seeking.proofs.SearchCallLaws.{limits_passed, searches}
use Rattle.seeking.proofs.search_in.Goals as goal

pub returns-in_err-open-clause-result_value : goal.returns-in_err-open-clause-result_value
returns-in_err-open-clause-result_value c =
    let a = c.args in
    let q = searches a.limit a.budget c.limits_hold-early.ensures a.bound a.form a.table.now c.«open».ensures c.in_err-open.was a.size in
    search (rules, q)

pub returns-in_err-open-clause-text_after : goal.returns-in_err-open-clause-text_after
unfolding written
returns-in_err-open-clause-text_after c =
    let a = c.args in
    let old = a.text.now in
    let q = searches a.limit a.budget c.limits_hold-early.ensures a.bound a.form a.table.now c.«open».ensures c.in_err-open.was (length old) in
    sym (ap (λ (x : Answer Sought). written old 0 (text_found x)) q)

pub seek-requires : goal.seek-requires
seek-requires c =
    let a = c.args in
    let usable = c.«open».ensures.known c.in_ok-open.was in
    let held = limits_passed a.limit a.budget c.limits_hold-early.ensures usable.first in
    (usable.low, usable.high, held.1, held.2)

pub returns-in-Err-clause-result_value : goal.returns-in-Err-clause-result_value
returns-in-Err-clause-result_value c =
    let a = c.args in
    let sought = sought_in a.bound a.form (table_of c.«open».new.words) a.limit a.budget in
    let q = searches a.limit a.budget c.limits_hold-early.ensures a.bound a.form a.table.now c.«open».ensures c.in_ok-open.was a.size in
    let z = ap figures q ∙ sym (figures_room a.size sought) ∙ ap (λ (x : Answer Figures). after x (room_for_figures a.size)) (via found_of c.seek.ensures.result_value c.in-Err.is) in
    search (rules, z)

pub returns-in-Err-clause-text_after : goal.returns-in-Err-clause-text_after
returns-in-Err-clause-text_after c =
    let a = c.args in
    let old = a.text.now in
    let q = searches a.limit a.budget c.limits_hold-early.ensures a.bound a.form a.table.now c.«open».ensures c.in_ok-open.was (length old) in
    c.seek.ensures.text_after ∙ sym (ap (λ (x : Answer Sought). written old 0 (text_found x)) q)

pub returns-in-Ok-clause-result_value : goal.returns-in-Ok-clause-result_value
returns-in-Ok-clause-result_value c =
    let a = c.args in
    let sought = sought_in a.bound a.form (table_of c.«open».new.words) a.limit a.budget in
    let q = searches a.limit a.budget c.limits_hold-early.ensures a.bound a.form a.table.now c.«open».ensures c.in_ok-open.was a.size in
    c.roomy.ensures
    ∙ sym (ap figures q ∙ sym (figures_room a.size sought) ∙ ap (λ (x : Answer Figures). after x (room_for_figures a.size)) (sym c.in-Ok.ensures.result_value))

pub returns-in-Ok-clause-text_after : goal.returns-in-Ok-clause-text_after
returns-in-Ok-clause-text_after c =
    let a = c.args in
    let old = a.text.now in
    let q = searches a.limit a.budget c.limits_hold-early.ensures a.bound a.form a.table.now c.«open».ensures c.in_ok-open.was (length old) in
    c.seek.ensures.text_after ∙ sym (ap (λ (x : Answer Sought). written old 0 (text_found x)) q)
