use Prim.Native.Nat.{◌/◌}
use native.Mathlib.Omega.{arith}
use Rattle.text.proofs.PutLaws.{number_one, number_more}
use Rattle.text.proofs.put_two.Goals as goal

pub returns-then-n-lt10 : goal.returns-then-n-lt10
returns-then-n-lt10 c = record { puts = number_one _ c.if-n-lt10.true c.last_digit.ensures c.put_byte.ensures; upper_bound = omega (arith, c.put_byte.ensures.next) }

pub returns : goal.returns
returns c =
    let first = number_one (c.args.n / 10) (omega (arith, c.requires.1)) c.last_digit-2.ensures c.put_byte-second.ensures in record { puts = number_more _ c.if-n-lt10.false first c.last_digit-3.ensures c.put_byte-2.ensures; upper_bound = omega (arith, c.put_byte-second.ensures.next, c.put_byte-2.ensures.next) }
