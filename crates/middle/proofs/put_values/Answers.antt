use native.Mathlib.Omega.{arith}
use Rattle.basics.specs.Lists.{upto}
use Rattle.laws.proofs.TextLaws.{upto_more}
use Rattle.text.proofs.PutLaws.{◌▹◌, puts_is, puts_none}
use Rattle.middle.proofs.put_values.Goals as goal

pub loop-v-init : goal.loop-v-init
unfolding upto
loop-v-init c = record { puts = puts_none _ _; low = omega arith }

pub loop-v-preserved : goal.loop-v-preserved
loop-v-preserved c =
    record {
      puts = puts_is (upto_more _ _) (c.loop-v.invariant.puts ▹ c.put_value-next.ensures.puts);
      low = omega (arith, c.put_value-next.ensures.upper_bound);
    }
