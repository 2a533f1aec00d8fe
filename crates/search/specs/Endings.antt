-- How the code's walk ends.
use Rattle.std.specs.Prelude.{ℕ, ◌≤◌, ◌≡◌, Result, Ok, Err, List, take}
use Rattle.std.proofs.Math.Option.{some}
use Rattle.basics.specs.Answers.{refusal}
use Rattle.basics.specs.declared.Refusal.{Refusal}
use Rattle.rules.specs.Limits.{most_limit}
use Rattle.rules.specs.Tables.{Table}
use Rattle.rules.specs.Walks.{Walked}
use Rattle.rules.specs.Refusals.{judged}
use Rattle.trail.specs.declared.Mark.{Mark}
use Rattle.trail.specs.Trails.{marked}
use Rattle.search.specs.declared.Found.{Found}

-- What the code's answer says of a walk: it has just so many operators and the plan that the trail begins with; or it is refused, for
-- more operators than the budget or for want of a plan.
abbrev pub Tells : Table → ℕ → Walked → List Mark → Result Found Refusal → Type 0
Tells t budget w trail (Ok f) =
    (w ≡ record { plan = some (marked t (take f.count trail)); count = f.applied }) × (f.applied ≤ budget) × (f.count ≤ most_limit)
Tells t budget w trail (Err e) = judged budget w ≡ refusal e.number e.place
