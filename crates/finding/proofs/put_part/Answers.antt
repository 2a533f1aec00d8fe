use mathlib.Core.Path.{sym, ap, ◌∙◌}
use Rattle.rules.specs.Programs.{find_output}
use Rattle.text.proofs.AppendLaws.{appends_is}
use Rattle.report.proofs.CutLaws.{find_read}
use Rattle.report.proofs.PartLaws.{only_sent}
use Rattle.finding.proofs.put_part.Goals as goal

pub returns-clause-any_input : goal.returns-clause-any_input
returns-clause-any_input c =
    let output = ap find_output c.«of».ensures in
    λ x read. only_sent c.part_of.ensures (appends_is (sym (output ∙ find_read x c.args.buffer.now c.args.input read c.requires.0)) c.put_text-size.ensures.appends)
