use mathlib.Core.Path.{refl}
use native.Mathlib.Omega.{arith}
use Rattle.drawing.proofs.DrawLaws.{writes_text}
use Rattle.drawing.proofs.write.Goals as goal

pub returns : goal.returns
returns c =
    let p = c.put-t.ensures in
    writes_text refl refl refl refl c.requires.bytes (omega (arith, p.next)) p
