use native.Mathlib.Omega.{arith}
use Rattle.text.proofs.PutLaws.{number_more}
use Rattle.text.proofs.put_three.Goals as goal

pub returns : goal.returns
returns c = record { puts = number_more _ (omega (arith, c.if-n-lt100.false)) c.put_two-third.ensures.puts c.last_digit.ensures c.put_byte.ensures; upper_bound = omega (arith, c.put_two-third.ensures.upper_bound, c.put_byte.ensures.next) }
