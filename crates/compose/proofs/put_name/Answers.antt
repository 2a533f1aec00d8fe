use native.Mathlib.Omega.{arith}
use Rattle.drawing.proofs.DrawLaws.{◌▹◌, draws_is}
use Rattle.compose.proofs.GroupLaws.{name_words}
use Rattle.compose.proofs.put_name.Goals as goal

pub returns : goal.returns
returns c =
    draws_is (omega arith) (omega arith) (name_words c.args.letter c.args.k) (c.write.ensures.draws ▹ c.field.ensures.draws ▹ c.moving_line.ensures)
