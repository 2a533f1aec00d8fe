use mathlib.Core.Path.{refl}
use native.Mathlib.Omega.{arith}
use Rattle.drawing.proofs.DrawLaws.{◌▹◌, draws_is}
use Rattle.drawing.proofs.moving_line.Goals as goal

pub returns : goal.returns
returns c = draws_is (omega arith) (omega arith) (λ p. refl) (c.moving.ensures ▹ c.write.ensures.draws)
