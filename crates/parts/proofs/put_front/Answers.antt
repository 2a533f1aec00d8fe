use native.Mathlib.Omega.{arith}
use Rattle.laws.specs.Steps.{front_text}
use Rattle.text.proofs.AppendLaws.{◌▸◌}
use Rattle.text.proofs.PutLaws.{appended}
use Rattle.parts.proofs.put_front.Goals as goal

pub returns-clause-appends : goal.returns-clause-appends
unfolding front_text
returns-clause-appends c =
    let first = appended c.put_preamble-first.ensures.puts (omega (arith, c.put_preamble-first.ensures.upper_bound, c.requires.1)) in
    let last = appended c.put_middle.ensures.puts (omega (arith, first.size, c.put_variables-next.ensures.appends.size, c.put_preamble-first.ensures.upper_bound, c.put_variables-next.ensures.upper_bound, c.put_middle.ensures.upper_bound, c.requires.1)) in first ▸ c.put_variables-next.ensures.appends ▸ last
