use mathlib.Core.Path.{ap, sym}
use Prim.Native.Nat.{ℕ, ◌^◌, ◌-◌}
use native.Mathlib.Omega.{arith}
use lib.Pow.{pow_pos}
use Rattle.laws.proofs.NumberLaws.{shl_one}
use Rattle.header.proofs.all_facts.Goals as goal

pub returns-then-f-eq-MOST_FACTS : goal.returns-then-f-eq-MOST_FACTS
returns-then-f-eq-MOST_FACTS c = ap (λ (n : ℕ). 2 ^ n - 1) (sym c.if-f-eq-MOST_FACTS.true)

pub overflow_sub-result : goal.overflow_sub-result
overflow_sub-result c = omega (arith, shl_one c.args.f (omega arith), pow_pos c.args.f)

pub returns : goal.returns
returns c = ap (λ (n : ℕ). n - 1) (shl_one c.args.f (omega arith))
