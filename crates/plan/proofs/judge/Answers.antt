use mathlib.Core.Path.{ap, ◌∙◌}
use lib.ListN.{length}
use Rattle.rules.specs.Refusals.{written}
use Rattle.rows.proofs.RowLaws.{row_ok}
use Rattle.plan.proofs.NoteByteLaws.{notes_given, none_given}
use borrow.Author.Rules.{rules}
use Rattle.plan.proofs.judge.Goals as goal

pub check-requires : goal.check-requires
check-requires c = let p = c.requires in
    let rows = c.prepare.ensures in (
      record { held = c.args.words.held; low = p.0; high = p.1; rows = rows; ok = row_ok c.args.words.held.valid p.1 rows },
      p.2,
      search rules,
    )

pub returns-in_err-tally-clause-steps_after : goal.returns-in_err-tally-clause-steps_after
returns-in_err-tally-clause-steps_after c = none_given _ _ _ _ c.in_err-tally.field-0.0 c.in_err-tally.ensures.result_value c.args.steps.now

pub returns-clause-steps_after : goal.returns-clause-steps_after
returns-clause-steps_after c =
    let old = c.args.steps.now in
    let check = c.in_ok-tally.ensures in
    c.hand_out.ensures ∙ ap (written old 0) (notes_given _ _ _ _ _ c.in_ok-tally.tally check.result_value check.notes_expand (length old))
