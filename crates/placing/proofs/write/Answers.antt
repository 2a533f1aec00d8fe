use Rattle.std.proofs.Common.{rules}
use mathlib.Core.Path.{sym, ap, ◌∙◌}
use Prim.Native.Nat.{◌-◌}
use borrow.Rule.Slice.PartMut.{put_mid}
use lib.ListN.{length, take, drop}
use Rattle.basics.specs.Answers.{after, length_of}
use Rattle.rules.specs.Sections.{sections_of}
use Rattle.rules.specs.Refusals.{chosen, room_for, section_for, one_section, opened, form_read, table_read, written}
use Rattle.words.specs.Words.{table_of}
use Rattle.laws.proofs.RefusalLaws.{kept}
use Rattle.opening.proofs.OpeningLaws.{goes_on}
use Rattle.placing.proofs.SectionCallLaws.{part_room, part_back, kept_past}
use Rattle.placing.proofs.write.Goals as goal

pub measured-requires : goal.measured-requires
measured-requires c =
    let usable = c.«open».ensures.known c.in_ok-open.was in
    (usable.low, usable.high)

pub returns-then-text-from : goal.returns-then-text-from
unfolding one_section opened form_read table_read
returns-then-text-from c =
    let a = c.args in
    let old = a.text.now in
    let x = chosen (sections_of a.bound a.form (table_of c.«open».new.words)) a.index in
    let q = goes_on c.«open».ensures c.in_ok-open.was (λ t. section_for a.bound a.form t a.index (length old) a.at) in
    record { result_value = c.measured.ensures ∙ sym (ap length_of q); text_after = sym (ap (written old a.at) q ∙ kept_past old a.at c.if-text-from.true x) }

pub put-requires : goal.put-requires
put-requires c =
    let usable = c.«open».ensures.known c.in_ok-open.was in
    (usable.low, usable.high)

pub returns-in_err-open : goal.returns-in_err-open
unfolding one_section opened form_read table_read
returns-in_err-open c =
    let a = c.args in
    let q = goes_on c.«open».ensures c.in_err-open.was (λ t. section_for a.bound a.form t a.index (length a.text.now) a.at) in
    record { result_value = search (rules, q); text_after = kept a.text.now a.at _ q }

pub returns : goal.returns
unfolding one_section opened form_read table_read
returns c =
    let a = c.args in
    let old = a.text.now in
    let x = chosen (sections_of a.bound a.form (table_of c.«open».new.words)) a.index in
    let l = c.if-text-from.false in
    let e = goes_on c.«open».ensures c.in_ok-open.was (λ t. section_for a.bound a.form t a.index (length old) a.at) in
    let q = part_room old a.at l x ∙ sym e in
    let done = c.put.ensures in record {
      result_value = done.result_value ∙ ap length_of q;
      text_after = ap (put_mid a.at (length old - a.at) old) done.part_after
          ∙ part_back old a.at l (after x (room_for (length (take (length old - a.at) (drop a.at old))) 0))
          ∙ ap (written old a.at) q;
    }
