use mathlib.Core.Path.{refl}
use native.Mathlib.Omega.{arith}
use Rattle.drawing.proofs.DrawLaws.{writes_text}
use Rattle.drawing.proofs.field.Goals as goal

pub returns : goal.returns
returns c =
    let p = c.put_field-t.ensures in
    writes_text refl refl refl refl c.requires.0.bytes (omega (arith, p.upper_bound)) p.puts
