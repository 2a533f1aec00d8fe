use Prim.Native.Nat.{◌+◌, ◌*◌, ◌≤◌}
use Rattle.basics.specs.Lists.{upto}
use Rattle.text.specs.Puts.{Puts}
use Rattle.variables.specs.Variables.{labelled}
use Rattle.variables.proofs.put_names.Given as goal

abbrev pub invariant-loop-k : goal.invariant-loop-k
invariant-loop-k l =
    record {
      puts : Puts l.initial.out l.at (upto (labelled l.s) l.k) l.out l.next;
      low : l.next ≤ l.at + 7 * l.k;
    }
