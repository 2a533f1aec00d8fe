use native.Mathlib.Omega.{arith}
use Rattle.laws.proofs.TextLaws.{length_one, length_more}
use Rattle.text.proofs.PutLaws.{number_one, number_more}
use Rattle.text.proofs.+put_digits.Goals as goal

pub put_byte-requires : goal.put_byte-requires
put_byte-requires t c = omega (arith, length_one _ c.if-n-lt10.true)

pub returns-then-n-lt10 : goal.returns-then-n-lt10
returns-then-n-lt10 t c = number_one _ c.if-n-lt10.true c.last_digit.ensures c.put_byte.ensures

pub put_digits-next-requires : goal.put_digits-next-requires
put_digits-next-requires t c = (omega arith, omega (arith, length_more _ c.if-n-lt10.false))

pub put_byte-requires-2 : goal.put_byte-requires-2
put_byte-requires-2 t c = omega (arith, c.put_digits-next.ensures.next, length_more _ c.if-n-lt10.false)

pub returns : goal.returns
returns t c = number_more _ c.if-n-lt10.false c.put_digits-next.ensures c.last_digit-2.ensures c.put_byte-2.ensures
