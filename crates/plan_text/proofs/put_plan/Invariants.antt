use Prim.Native.Nat.{◌*◌, ◌≤◌}
use lib.ListN.{take}
use Rattle.rules.specs.Plans.{texts_of}
use Rattle.words.specs.Words.{table_of}
use Rattle.trail.specs.Trails.{marked}
use Rattle.text.specs.Puts.{Puts}
use Rattle.plan_text.specs.PlanLines.{line_bytes}
use Rattle.plan_text.proofs.put_plan.Given as goal

abbrev pub invariant-loop-mark : goal.invariant-loop-mark
invariant-loop-mark l =
    Puts l.initial.out 0 (texts_of (marked (table_of l.words.all.now) (take l.mark-index l.marks))) l.out l.at × (l.at ≤ line_bytes * l.mark-index)
