use native.Mathlib.Omega.{arith}
use Rattle.laws.proofs.TextLaws.{digits_le}
use Rattle.text.proofs.put_number.Goals as goal

pub put_digits-requires : goal.put_digits-requires
put_digits-requires c = omega (arith, digits_le 19 c.args.n (omega arith))

pub returns : goal.returns
returns c =
    let a = c.args in
    record { puts = c.put_digits.ensures; upper_bound = omega (arith, c.put_digits.ensures.next, digits_le 19 a.n (omega arith)) }
