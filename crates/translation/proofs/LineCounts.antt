-- "The count line before each group equals the number of members of the sets concerned plus the stack lines."
use Prim.Native.Nat.{ℕ, ◌+◌, ◌≤◌}
use mathlib.Core.Path.{◌≡◌, ◌∙◌}
use mathlib.Core.Bool.{Bool, true, false, cond}
use mathlib.Core.List.{[], ◌∷◌}
use native.Mathlib.Omega.{arith}
use lib.Count.{ones, ones-le}
use lib.Dec.{T, eqb}
use lib.ListN.{length, length-append, length-map}
use lib.Pow.{pow_pos}
use Rattle.rules.specs.Limits.{most_subtasks}
use Rattle.rules.specs.Tables.{Table, fact_count, goal_facts}
use Rattle.rules.specs.Facts.{members_of}
use Rattle.rules.specs.Operators.{Operator, joined, task_of, leaves, emitted}
use Rattle.rules.specs.Problems.{no_task, set, holding, bottom_next, kept, altered, oper_at, oper_of, problem_of}
use Rattle.laws.specs.Valid.{Valid}
use Rattle.laws.proofs.MemberLaws.{members_ones}
use Rattle.translation.specs.Counts.{LineCounts}
use Rattle.translation.proofs.Places.{there, leaves_most, sets_low}
use Rattle.translation.proofs.LineLaws.{kept_low, altered_low, prevail_count_lem, effect_count_lem}

pub lines_counted : (b f : ℕ) (t : Table) → Valid t → (o : Operator) → T (emitted b f t o) → LineCounts f t o
unfolding oper_of oper_at
lines_counted b f t v o m =
    let h = there b f t o m in
    let w = sets_low f t v o.what h.known in
    record {
      prevail = prevail_count_lem (fact_count t) (no_task t) (joined f t o.what) (task_of t o.what) o.at (leaves f t o.what) h.low w;
      effects = effect_count_lem (fact_count t) (no_task t) (joined f t o.what) (task_of t o.what) o.at (leaves f t o.what) h.low w;
    }

pub goal_counted : (b f : ℕ) (t : Table) → Valid t → length (problem_of b f t).goal ≡ ones (goal_facts t) + 1
unfolding problem_of
goal_counted b f t v =
    let n = fact_count t in
    length-append (holding (members_of n (goal_facts t))) (set n 0 ∷ [])
    ∙ omega (arith, length-map (members_of n (goal_facts t)) (λ k. set k 0), members_ones n (goal_facts t) (omega (arith, v.head.goal, pow_pos n)))

-- No more than there are facts, two lines of the stack, and a position for each task left but one.
pub lines_few : (b f : ℕ) (t : Table) → Valid t → (o : Operator) → T (emitted b f t o)
    → (length (oper_of f t o).prevail ≤ fact_count t + 2) × (length (oper_of f t o).effects + 1 ≤ fact_count t + 2 + most_subtasks)
lines_few b f t v o m =
    let h = there b f t o m in
    let w = sets_low f t v o.what h.known in
    let j = joined f t o.what in
    let c = lines_counted b f t v o m in (
      omega (arith, c.prevail, ones-le (fact_count t) (kept j) (kept_low (fact_count t) j w), two (eqb (length (leaves f t o.what)) 1) (eqb (bottom_next (no_task t) (leaves f t o.what)) (task_of t o.what))),
      omega (arith, c.effects, ones-le (fact_count t) (altered j) (altered_low (fact_count t) j w), leaves_most f t v o.what h.known),
    )
  where
    two : (c d : Bool) → cond c 1 0 + cond d 1 0 ≤ 2
    two true true = omega arith
    two true false = omega arith
    two false true = omega arith
    two false false = omega arith
