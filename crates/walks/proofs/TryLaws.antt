-- A row's operator tried on a stack in cells: it was applied, or nothing changed.
use Prim.Native.Nat.{ℕ, zero, suc, ◌-◌, ◌≤◌, ◌<◌}
use mathlib.Core.Path.{◌≡◌, refl, sym, ap, subst, ◌∙◌}
use mathlib.Core.Bool.{Bool, true, false, ◌&&◌, cond}
use mathlib.Core.List.{List}
use native.Mathlib.Omega.{arith}
use borrow.Author.Tests.{leb-true, leb-false}
use lib.Dec.{T, leb}
use lib.ListN.{length, get_or}
use Rattle.std.specs.Prelude.{Option, Some, None, is_some, IfSome}
use Rattle.rules.specs.Reasons.{not_emitted, not_applicable}
use Rattle.rules.specs.Tables.{Table}
use Rattle.rules.specs.Facts.{holds}
use Rattle.rules.specs.Progression.{State, after_all, total_cost}
use Rattle.rules.specs.Operators.{Operator, expand, task_of, emitted, applies}
use Rattle.rules.specs.Searches.{may, led}
use Rattle.rules.specs.Walks.{here}
use Rattle.laws.specs.Steps.{step_at}
use Rattle.laws.proofs.StepNumbers.{by_step}
use Rattle.facts.specs.Sets.{set_of}
use Rattle.rows.specs.Rows.{Row, row_at, Prepared}
use Rattle.rows.proofs.StackLaws.{stack_height}
use Rattle.run.specs.Steps.{Point, Moved, state_of, refused, reached, document_step, step_row, Known}
use Rattle.run.specs.Runs.{point_of}
use Rattle.run.specs.declared.Progress.{Progress}
use Rattle.run.proofs.RowLaws.{row_high, row_needs, row_done}
use Rattle.run.proofs.StepLaws.{step_document}
use Rattle.links.specs.Links.{row_count}
use Rattle.links.proofs.LinkLaws.{row_is, task_is}
use Rattle.spots.specs.declared.Spot.{Spot}
use Rattle.spots.specs.Spots.{state_in, Lands, Tries}

-- By the number: 0 where it was applied.
abbrev Did : ℕ → ℕ → Table → State → Operator → ℕ → State → Type 0
Did b f t s o zero s' = (may b f t s o ≡ true) × (s' ≡ led f t s o)
Did b f t s o (suc n) s' = (may b f t s o ≡ false) × (s' ≡ s)

document_did : (b f : ℕ) (t : Table) (o : Operator) (p : Point) (m : Moved) → m ≡ document_step b f t o p
    → Did b f t (state_of p) o m.number (state_of m.point)
unfolding document_step
document_did b f t o p m e =
    subst (λ (x : Moved). Did b f t (state_of p) o x.number (state_of x.point)) (sym e)
    (go (emitted b f t o) refl (applies f t (state_of p) o) refl)
  where
    after : Moved
    after = reached p (after_all t (state_of p) (expand f t o)) (length (expand f t o)) (total_cost t (expand f t o))

    go : (c : Bool) → emitted b f t o ≡ c → (d : Bool) → applies f t (state_of p) o ≡ d
        → Did b f t (state_of p) o (cond c (cond d after (refused not_applicable p)) (refused not_emitted p)).number
        (state_of (cond c (cond d after (refused not_applicable p)) (refused not_emitted p)).point)
    go true q true r = ((λ i. q i && r i), refl)
    go true q false r = ((λ i. q i && r i), refl)
    go false q d r = ((λ i. q i && applies f t (state_of p) o), refl)

-- A run at a spot, of which nothing is counted.
abbrev progress_at : Spot → Progress
progress_at at = record { facts = at.facts; height = at.height; operators = 0; steps = 0; cost = 0 }

module _ {b f : ℕ} {t : Table} {ops cells : List ℕ} (p : Prepared b f t ops cells) (at : Spot) (i : ℕ) (l : i < row_count t) (old new : List ℕ) (q : Option Spot)
    (high : 1 ≤ at.height) (top : get_or old (at.height - 1) 0 ≡ task_of t (step_at t i)) (tries : Tries (row_at ops cells i) at old new q) where
  abbrev this : Operator
  this = here (state_in at old) (step_at t i)

  abbrev row : Row
  row = row_at ops cells i

  -- What the row makes of the point is what the document does.
  did : (m : Moved) → m ≡ step_row row at.height (point_of (progress_at at) old) → Did b f t (state_in at old) this m.number (state_of m.point)
  did m e =
      let x = step_at t i in
      let here = point_of (progress_at at) old in
      let z = sym (stack_height old at.height) in
      let known = by_step t (λ _ x. Known t x) i l (λ k h. h) (λ k h. h) in
      document_did b f t this here m
      (e ∙ ap (λ (y : Row). step_row y at.height here) (row_is p i l) ∙ step_document f t b x at.height here known
      ∙ (λ i. document_step b f t (record { what = x; at = z i }) here))

  on_top_lem : get_or old (at.height - 1) 0 ≡ row.task
  on_top_lem = top ∙ sym (task_is p i l)

  pub tried_off : q ≡ None → may b f t (state_in at old) this ≡ false
  tried_off n = go (leb at.height row.last) refl (holds row.needs (set_of at.facts)) refl (sym tries.applied ∙ ap is_some n)
    where
      go : (c : Bool) → leb at.height row.last ≡ c → (d : Bool) → holds row.needs (set_of at.facts) ≡ d → (c && d) ≡ false
          → may b f t (state_in at old) this ≡ false
      go false e d g h =
          (did (refused not_emitted (point_of (progress_at at) old)) (row_high row at.height (progress_at at) old high (omega (arith, leb-false at.height row.last e)))).0
      go true e false g h =
          (did (refused not_applicable (point_of (progress_at at) old))
          (row_needs row at.height (progress_at at) old high (leb-true at.height row.last e) refl on_top_lem g)).0
      go true e true g h = absurd (subst T h tt)

  pub tried_on : (after : Spot) → q ≡ Some after → (may b f t (state_in at old) this ≡ true) × (state_in after new ≡ led f t (state_in at old) this)
  tried_on after n = go (leb at.height row.last) refl (holds row.needs (set_of at.facts)) refl (sym tries.applied ∙ ap is_some n)
    where
      lands : Lands row at old new after
      lands = subst (λ (o : Option Spot). IfSome o (Lands row at old new)) n tries.on

      go : (c : Bool) → leb at.height row.last ≡ c → (d : Bool) → holds row.needs (set_of at.facts) ≡ d → (c && d) ≡ true
          → (may b f t (state_in at old) this ≡ true) × (state_in after new ≡ led f t (state_in at old) this)
      go false e d g h = absurd (subst T (sym h) tt)
      go true e false g h = absurd (subst T (sym h) tt)
      go true e true g h =
          let z = did _ (row_done row at.height (progress_at at) old high (leb-true at.height row.last e) refl on_top_lem g) in
          (z.0, (λ i. record { facts = lands.facts i; stack = lands.stack i }) ∙ z.1)
