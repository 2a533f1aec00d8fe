use mathlib.Core.Path.{sym, ap, ◌∙◌}
use Rattle.rules.specs.Programs.{check_output}
use Rattle.text.proofs.AppendLaws.{appends_is}
use Rattle.report.proofs.CutLaws.{check_read}
use Rattle.report.proofs.PartLaws.{only_sent}
use Rattle.verifying.proofs.put_part.Goals as goal

pub returns-clause-any_input : goal.returns-clause-any_input
returns-clause-any_input c =
    let w = c.put_line-size.ensures in
    let output = ap check_output c.«of».ensures in
    let low = rw c.«of».ensures at w.upper_bound.1 in
    λ x read. only_sent c.part_of.ensures (appends_is (sym (output ∙ check_read x c.args.buffer.now c.args.input read c.requires.0 low)) w.appends)
