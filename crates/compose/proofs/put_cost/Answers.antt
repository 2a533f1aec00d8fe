use mathlib.Core.Path.{refl}
use native.Mathlib.Omega.{arith}
use Rattle.text.proofs.PutLaws.{◌▹◌, puts_is}
use Rattle.drawing.proofs.DrawLaws.{writes_text}
use Rattle.compose.proofs.GroupLaws.{cost_words}
use Rattle.compose.proofs.put_cost.Goals as goal

pub returns : goal.returns
returns c =
    let n = c.put_number-next.ensures in
    let e = c.put-t.ensures in
    writes_text refl refl refl refl c.requires.bytes (omega (arith, n.upper_bound, e.next)) (puts_is (cost_words c.args.cost) (n.puts ▹ e))
