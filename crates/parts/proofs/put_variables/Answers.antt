use native.Mathlib.Omega.{arith}
use Rattle.basics.specs.Lists.{upto}
use Rattle.laws.proofs.TextLaws.{upto_more}
use Rattle.text.proofs.AppendLaws.{◌▸◌, appends_is, appends_none}
use Rattle.text.proofs.PutLaws.{appended}
use Rattle.parts.proofs.put_variables.Goals as goal

pub loop-v-init : goal.loop-v-init
unfolding upto
loop-v-init c = record { appends = appends_none _ _; low = omega arith }

pub loop-v-preserved : goal.loop-v-preserved
loop-v-preserved c =
    let l = c.loop-v in
    let put = c.put_variable-next.ensures in
    let fits = appended put.puts (omega (arith, put.upper_bound, l.invariant.appends.size, l.invariant.low, c.variable_count-variables.ensures, c.requires.1)) in
    record { appends = appends_is (upto_more _ _) (l.invariant.appends ▸ fits); low = omega (arith, put.upper_bound) }
