-- From the walk to what the search comes to, and to what is written.
use Prim.Native.Nat.{ℕ, ◌+◌, ◌≤◌, ◌<◌}
use mathlib.Core.Path.{◌≡◌, refl, sym, ap, subst, ◌∙◌}
use mathlib.Core.Bool.{Bool, true, false}
use mathlib.Core.List.{List}
use mathlib.Core.Option.{some}
use native.Mathlib.Omega.{arith}
use lib.ListN.{length}
use lib.Dec.{leb}
use lib.Seq.{sets}
use Rattle.basics.specs.Answers.{Answer, answer, refusal, check, after}
use Rattle.rules.specs.Limits.{most_bound}
use Rattle.rules.specs.Reasons.{no_room}
use Rattle.rules.specs.Tables.{Table}
use Rattle.rules.specs.Progression.{begin}
use Rattle.rules.specs.Operators.{Operator}
use Rattle.rules.specs.Searches.{IsPlan}
use Rattle.rules.specs.Walks.{Walked, walk}
use Rattle.rules.specs.Refusals.{Sought, plan_text, plan_bytes, room_for_plan, text_found, written}
use Rattle.laws.specs.Valid.{Valid}
use Rattle.laws.proofs.RefusalLaws.{stores_written}
use Rattle.theorems.specs.Shapes.{AllSmall}
use Rattle.sought.proofs.Search.{walk_plan}
use Rattle.sought.proofs.Plans.{applicable_small}
use Rattle.sought.proofs.SearchAnswers.{plan_fits, plan_short}
use Rattle.replies.specs.Findings.{figures, room_for_figures}

-- The numbers of a plan found have at most three digits.
pub found_small : (b f : ℕ) (t : Table) → Valid t → b ≤ most_bound → (l : ℕ) (os : List Operator) (n : ℕ)
    → walk b f t l (begin t) ≡ record { plan = some os; count = n }
    → AllSmall os
found_small b f t v h l os n e =
    let q : IsPlan b f t l (some os) = subst (IsPlan b f t l) (ap (λ (w : Walked). w.plan) e) (walk_plan b f t l) in
    applicable_small b f t v h os (begin t) q.plan.accepted.applicable

-- A refusal leaves the bytes lent.
pub nothing_written : (old : List ℕ) (a : Answer Sought) {number place : ℕ} → a ≡ refusal number place
    → old ≡ written old 0 (text_found (after a (room_for_plan (length old))))
unfolding written
nothing_written old a e = sym (ap (λ (x : Answer Sought). written old 0 (text_found (after x (room_for_plan (length old))))) e)

-- A plan's text of so many bytes, told and written where there is room.
module _ (old : List ℕ) (y : Sought) (bytes : ℕ) (e : bytes ≡ plan_bytes y) where
  pub plan_kept : length old < bytes → old ≡ written old 0 (text_found (room_for_plan (length old) y))
  unfolding written
  plan_kept h = sym (ap (λ (a : Answer Sought). written old 0 (text_found a)) (plan_short (length old) y (omega arith)))

  pub plan_written : bytes ≤ length old → sets old 0 (plan_text y) ≡ written old 0 (text_found (room_for_plan (length old) y))
  plan_written h =
      stores_written old (plan_text y) 0 (omega arith)
      ∙ sym (ap (λ (a : Answer Sought). written old 0 (text_found a)) (plan_fits (length old) y (omega arith)))

-- Room for a plan's text is room for its bytes.
pub figures_room : (size : ℕ) (a : Answer Sought) → after (figures a) (room_for_figures size) ≡ figures (after a (room_for_plan size))
figures_room size (refusal number place) = refl
figures_room size (answer y) = go (leb (0 + plan_bytes y) size)
  where
    go : (c : Bool) → after (check c no_room (plan_bytes y) (answer (plan_bytes y))) (λ _. figures (answer y))
        ≡ figures (after (check c no_room (plan_bytes y) (answer (plan_bytes y))) (λ _. answer y))
    go true = refl
    go false = refl
