use native.Mathlib.Omega.{arith}
use Rattle.text.proofs.PutLaws.{◌▹◌}
use Rattle.text.proofs.put_field.Goals as goal

pub returns : goal.returns
returns c = record { puts = c.put-next.ensures ▹ c.put_three.ensures.puts; upper_bound = omega (arith, c.put-next.ensures.next, c.put_three.ensures.upper_bound) }
