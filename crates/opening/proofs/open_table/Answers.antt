use mathlib.Core.Path.{ap}
use native.Mathlib.Omega.{arith}
use borrow.Author.Tests.{le-leb}
use Rattle.table.proofs.AnswerLaws.{read_held}
use Rattle.opening.specs.Openings.{own}
use Rattle.opening.proofs.OpeningLaws.{opening_opened}
use Rattle.opening.proofs.open_table.Goals as goal

pub returns : goal.returns
returns c =
    let read = c.read_table in
    let a = c.args in
    let w = read.new.words in
    opening_opened w
    (rw (le-leb _ _ c.if-table-gt-MOST_TABLE_BYTES.false, c.in_ok-late.was, ← c.in_ok-read_table.ensures))
    (record {
      held = read_held a.table.now w read.result (omega (arith, read.auto.words, c.requires)) read.ensures c.in_ok-read_table.was;
      passes = ap own c.in_ok-late.was;
    })
