use Prim.Native.Nat.{◌-◌}
use mathlib.Core.Path.{◌≡◌}
use lib.ListN.{length}
use Rattle.words.specs.Words.{table_of}
use Rattle.emission.specs.Jobs.{piece_count}
use Rattle.emission.proofs.send_parts.Given as goal

abbrev pub invariant-loop-next : goal.invariant-loop-next
invariant-loop-next g l = (length l.out ≡ length l.initial.out) × (l.parts ≡ piece_count l.job (table_of l.words))

abbrev pub decreases-loop-next : goal.decreases-loop-next
decreases-loop-next g l = l.parts - l.next
