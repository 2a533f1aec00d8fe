use Rattle.facts.specs.Sets.{set_of}
use Prim.Native.Nat.{◌+◌, ◌*◌, ◌≤◌}
use Rattle.basics.specs.Lists.{upto}
use Rattle.text.specs.Puts.{Puts}
use Rattle.listing.specs.Listings.{line_bytes, line_where}
use Rattle.listing.proofs.put_lines.Given as goal

abbrev pub invariant-loop-k : goal.invariant-loop-k
invariant-loop-k l =
    record {
      puts : Puts l.initial.out l.at (upto (line_where l.says (set_of l.set)) l.k) l.out l.next;
      low : l.next ≤ l.at + line_bytes l.says * l.k;
    }
