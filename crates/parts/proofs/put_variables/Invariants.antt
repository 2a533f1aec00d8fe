use Prim.Native.Nat.{◌+◌, ◌*◌, ◌≤◌}
use Rattle.basics.specs.Lists.{upto}
use Rattle.rules.specs.Limits.{most_section_bytes}
use Rattle.laws.specs.Steps.{variable_text}
use Rattle.words.specs.Words.{table_of}
use Rattle.text.specs.Appends.{Appends}
use Rattle.parts.proofs.put_variables.Given as goal

abbrev pub invariant-loop-v : goal.invariant-loop-v
invariant-loop-v l =
    record {
      appends : Appends l.initial.out l.at (upto (variable_text l.bound (table_of l.words.all.now)) l.v) l.out l.next;
      low : l.next ≤ l.at + most_section_bytes * l.v;
    }
