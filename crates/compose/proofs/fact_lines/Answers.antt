use mathlib.Core.Path.{refl, ◌∙◌}
use native.Mathlib.Omega.{arith}
use Rattle.drawing.proofs.DrawLaws.{◌▹◌, draws_is, writes_text}
use Rattle.compose.proofs.fact_lines.Goals as goal

pub returns : goal.returns
returns c =
    let n = c.field_line.ensures in
    let l = c.put_lines-t.ensures in
    let w = writes_text refl refl refl refl (omega (arith, c.requires.0.bytes, n.draws.most, n.draws.memory.text_length)) l.upper_bound l.puts in
    record { draws = draws_is (omega arith) (omega arith) (λ p. refl) (n.draws ▹ w.draws); numbers = w.numbers ∙ n.numbers }
