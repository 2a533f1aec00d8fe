use Prim.Native.Nat.{◌+◌, ◌*◌, ◌≤◌}
use Rattle.basics.specs.Lists.{upto}
use Rattle.words.specs.Words.{table_of}
use Rattle.text.specs.Puts.{Puts}
use Rattle.middle.specs.Middles.{start_line}
use Rattle.middle.proofs.put_values.Given as goal

abbrev pub invariant-loop-v : goal.invariant-loop-v
invariant-loop-v l =
    record {
      puts : Puts l.initial.out l.at (upto (start_line (table_of l.words.all.now)) l.v) l.out l.next;
      low : l.next ≤ l.at + 4 * l.v;
    }
