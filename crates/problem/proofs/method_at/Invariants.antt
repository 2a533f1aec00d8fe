use mathlib.Core.Path.{◌≡◌}
use Prim.Native.Nat.{◌+◌, ◌≤◌}
use Rattle.basics.specs.Lists.{sum_to}
use Rattle.rules.specs.Tables.{action_count, method_count}
use Rattle.rules.specs.Progression.{mth}
use Rattle.rules.specs.Operators.{positions}
use Rattle.words.specs.Words.{table_of}
use Rattle.problem.proofs.method_at.Given as goal

abbrev pub invariant-loop-k : goal.invariant-loop-k
invariant-loop-k l =
    (l.first ≡ action_count (table_of l.words.all.now))
    × (l.k ≤ method_count (table_of l.words.all.now))
    × (l.n ≡ sum_to (λ j. positions l.bound l.form (table_of l.words.all.now) (mth j)) l.k + l.left)
