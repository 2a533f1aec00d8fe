use mathlib.Core.Path.{◌≡◌}
use mathlib.Core.Bool.{false, cond}
use Prim.Native.Nat.{◌+◌}
use lib.ListN.{length}
use lib.Dec.{T}
use Rattle.rules.specs.Tables.{method_count}
use Rattle.rules.specs.LeastBounds.{settled, total}
use Rattle.laws.specs.Bounds.{Kept}
use Rattle.words.specs.Words.{table_of}
use Rattle.least.proofs.settle.Given as goal

abbrev pub invariant-loop-again : goal.invariant-loop-again
invariant-loop-again l =
    Kept l.form (table_of l.words.all.now) l.bounds × (l.again ≡ false → T (settled l.form (table_of l.words.all.now) l.bounds (method_count (table_of l.words.all.now)))) × (length l.bounds ≡ length l.initial.bounds)

abbrev pub decreases-loop-again : goal.decreases-loop-again
decreases-loop-again l = total l.bounds + cond l.again 1 0
