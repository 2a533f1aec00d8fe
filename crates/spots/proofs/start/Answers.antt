use Rattle.rows.proofs.StackLaws.{stack_height}
use mathlib.Core.Path.{sym, ap, ◌∙◌}
use lib.ListN.{length}
use Rattle.run.specs.Steps.{Point, state_of}
use Rattle.spots.proofs.start.Goals as goal

pub returns : goal.returns
returns c =
    let b = c.begin-run.ensures in
    let stack = c.begin-run.new.stack in
    let h = c.begin-run.result.height in
    record {
      state = ap state_of b.stack_after;
      height = sym (stack_height stack h) ∙ ap (λ (p : Point). length p.stack) b.stack_after;
      cells = b.stack_len.0;
    }
