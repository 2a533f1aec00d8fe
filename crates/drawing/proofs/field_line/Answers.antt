use mathlib.Core.Path.{refl, ◌∙◌}
use native.Mathlib.Omega.{arith}
use Rattle.drawing.proofs.DrawLaws.{◌▹◌, draws_is}
use Rattle.drawing.proofs.field_line.Goals as goal

pub returns : goal.returns
returns c =
    let f = c.field.ensures in
    let w = c.write.ensures in
    record { draws = draws_is (omega arith) (omega arith) (λ p. refl) (f.draws ▹ w.draws); numbers = w.numbers ∙ f.numbers }
