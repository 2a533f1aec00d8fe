use native.Mathlib.Omega.{arith}
use Rattle.basics.specs.Lists.{upto}
use Rattle.laws.proofs.TextLaws.{upto_more}
use Rattle.text.proofs.PutLaws.{◌▹◌, puts_is, puts_none}
use Rattle.variables.proofs.put_names.Goals as goal

pub loop-k-init : goal.loop-k-init
unfolding upto
loop-k-init c = record { puts = puts_none _ _; low = omega arith }

pub loop-k-preserved : goal.loop-k-preserved
loop-k-preserved c =
    record {
      puts = puts_is (upto_more _ _) (c.loop-k.invariant.puts ▹ c.put_line-next.ensures.puts);
      low = omega (arith, c.put_line-next.ensures.upper_bound);
    }
