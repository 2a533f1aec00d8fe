use mathlib.Core.Path.{sym, ap, ◌∙◌}
use Rattle.rules.specs.Programs.{emit_output}
use Rattle.report.proofs.CutLaws.{emit_read}
use Rattle.emission.proofs.open_read.Goals as goal

pub returns-clause-any_input : goal.returns-clause-any_input
returns-clause-any_input c =
    let d = c.«open».ensures in
    λ x there. record {
      output = sym (ap emit_output c.«of».ensures ∙ emit_read x c.args.buffer.now c.args.input there c.requires.most_emit_input_in_bounds.0) ∙ d.output;
      stands = d.stands;
    }
