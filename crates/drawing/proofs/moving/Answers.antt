use mathlib.Core.Path.{refl}
use native.Mathlib.Omega.{arith}
use Rattle.drawing.proofs.DrawLaws.{◌▹◌, draws_is, draws_number}
use Rattle.drawing.proofs.moving.Goals as goal

pub returns : goal.returns
returns c =
    let n = c.number.ensures in
    draws_is (omega arith) (omega arith) (λ p. refl) (c.write.ensures.draws ▹ draws_number c.args.o n.stands n.text (n.at_value.0, n.at_value.2) n.memory.0)
