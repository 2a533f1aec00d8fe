use Prim.Native.Nat.{◌*◌, ◌-◌, ◌≤◌}
use mathlib.Core.Path.{◌≡◌}
use mathlib.Core.List.{◌++◌}
use lib.ListN.{length, take}
use Rattle.basics.specs.Lists.{upto}
use Rattle.words.specs.Words.{table_of}
use Rattle.template.specs.Sizes.{step_text_bytes}
use Rattle.parts.specs.Pieces.{problem_piece}
use Rattle.parts.proofs.fill.Given as goal

abbrev pub invariant-loop-next : goal.invariant-loop-next
invariant-loop-next l =
    record {
      few : l.size ≤ step_text_bytes * (l.next - l.from);
      inside : l.size ≤ length l.out;
      says : upto (problem_piece l.bound l.form (table_of l.words.all.now)) l.next ≡ upto (problem_piece l.bound l.form (table_of l.words.all.now)) l.from ++ take l.size l.out;
    }
