use Prim.Native.Nat.{◌-◌, ◌≤◌}
use mathlib.Core.Path.{◌≡◌, refl, sym, ap, ◌∙◌}
use native.Mathlib.Omega.{arith}
use Rattle.std.proofs.lemmas.Bool.Decides.{nat_tests}
use Rattle.std.specs.Prelude.{is_some, true, false}
use lib.ListN.{set}
use Rattle.basics.specs.Answers.{refusal}
use Rattle.basics.specs.declared.Refusal.{Refusal}
use Rattle.trail.specs.Trails.{Marked}
use Rattle.trail.proofs.TrailLaws.{marks}
use Rattle.links.specs.Links.{row_of}
use Rattle.links.proofs.LinkLaws.{task_is, task_fits, few_rows, row_there, row_missing}
use Rattle.spots.specs.Spots.{state_in, mark_of}
use Rattle.walks.proofs.GoingLaws.{going_begins, going_ends, standing, going_back, row_low, some_high, row_off, row_on, allowed, going_past, going_over, going_found, going_down, going_again}
use Rattle.search.proofs.TurnLaws.{walk_over, walk_none}
use Rattle.search.proofs.search.Goals as goal

pub loop-index-init : goal.loop-index-init
loop-index-init c =
    let p = c.requires in
    going_begins p.ready.0.held.valid p.ready.1 _ _ _ _ c.start-at.ensures c.top_row-next.ensures p.limit_le_most_limit.1

pub returns-then-depth-eq0-clause-tells : goal.returns-then-depth-eq0-clause-tells
returns-then-depth-eq0-clause-tells c =
    let p = c.requires in
    let valid = p.ready.0.held.valid in
    let linked = p.ready.1 in
    let l = c.loop-index in
    let g = l.invariant in
    walk_none _ _ (going_ends valid linked g (sym c.row.ensures ∙ c.in_default.is) c.if-depth-eq0.true)
    ∙ ap (λ (e : Refusal). refusal e.number e.place) (sym c.at.ensures)

pub back-at-requires : goal.back-at-requires
back-at-requires c =
    let p = c.requires in
    let valid = p.ready.0.held.valid in
    let linked = p.ready.1 in
    let l = c.loop-index in
    let g = l.invariant in
    let q = standing valid linked g (sym c.row.ensures ∙ c.in_default.is) (omega (arith, c.if-depth-eq0.false)) in
    record { height_bound = (g.cells, q.low, q.high); rows_fit = ((p.ready.0.ok _ q.row).held.fits, task_fits p.ready.0.rows valid _ (omega (arith, q.row))) }

pub next-next-requires : goal.next-next-requires
next-next-requires c =
    let p = c.requires in
    let valid = p.ready.0.held.valid in
    let linked = p.ready.1 in
    let l = c.loop-index in
    let g = l.invariant in
    let q = standing valid linked g (sym c.row.ensures ∙ c.in_default.is) (omega (arith, c.if-depth-eq0.false)) in
    omega (arith, q.row, few_rows _ valid)

pub loop-index-preserved-in_default : goal.loop-index-preserved-in_default
loop-index-preserved-in_default c =
    let p = c.requires in
    let valid = p.ready.0.held.valid in
    let linked = p.ready.1 in
    let l = c.loop-index in
    let g = l.invariant in
    let more : 1 ≤ l.depth = omega (arith, c.if-depth-eq0.false) in
    let q = standing valid linked g (sym c.row.ensures ∙ c.in_default.is) more in
    going_back valid linked g (sym c.row.ensures ∙ c.in_default.is) more _ _ _ _ c.back-at.ensures (task_is p.ready.0.rows _ q.row) c.next-next.ensures

pub try_row-requires : goal.try_row-requires
try_row-requires c =
    let p = c.requires in
    let valid = p.ready.0.held.valid in
    let linked = p.ready.1 in
    let l = c.loop-index in
    let g = l.invariant in
    let some = sym c.row.ensures ∙ c.in-Some.is in
    (g.cells, some_high valid linked g some, g.low, p.ready.0.ok _ (row_low valid linked g some))

pub loop-index-preserved-in_default-try_row : goal.loop-index-preserved-in_default-try_row
loop-index-preserved-in_default-try_row c =
    let p = c.requires in
    let valid = p.ready.0.held.valid in
    let linked = p.ready.1 in
    let l = c.loop-index in
    let g = l.invariant in
    let some = sym c.row.ensures ∙ c.in-Some.is in
    let tries = c.in_default-try_row.ensures in
    let off = row_off valid linked g some p.ready.0.rows tries refl in
    going_past valid linked g some _ (tries.size ∙ g.cells) (ap (state_in l.at) tries.off) off _ c.next-next-in_default-try_row.ensures

pub returns-then-applied-budget-clause-tells : goal.returns-then-applied-budget-clause-tells
returns-then-applied-budget-clause-tells c =
    let p = c.requires in
    let valid = p.ready.0.held.valid in
    let linked = p.ready.1 in
    let l = c.loop-index in
    let g = l.invariant in
    let some = sym c.row.ensures ∙ c.in-Some.is in
    let on = row_on valid linked g some p.ready.0.rows c.in-Some-try_row.ensures _ refl in
    walk_over _ _ (going_over valid linked g some on.0 (omega (arith, c.if-applied-budget.true, g.within)))
    ∙ ap (λ (e : Refusal). refusal e.number e.place) (sym c.at-then-applied-budget.ensures)

-- Whether there is a row below is told by all that is known, in whatever words the test asks it: so must-fail/seen_before_skipped is refused
-- for what it means.
pub loop-index-preserved-then-down : goal.loop-index-preserved-then-down
loop-index-preserved-then-down c =
    let p = c.requires in
    let valid = p.ready.0.held.valid in
    let linked = p.ready.1 in
    let l = c.loop-index in
    let g = l.invariant in
    let some = sym c.row.ensures ∙ c.in-Some.is in
    let tries = c.in-Some-try_row.ensures in
    let on = row_on valid linked g some p.ready.0.rows tries _ refl in
    let kept : Marked l.trail l.depth (mark_of c.in-Some.index l.at) (set l.trail l.depth c.marked.result) =
    marks l.trail l.depth _ _ c.marked.ensures (omega (arith, g.marks, allowed valid linked g some, p.limit_le_most_limit.0))
    in
    let below : is_some (row_of c.top_row-next-in-loop-index.result) ≡ true = grind (arith, nat_tests) in
    going_down valid linked g some on.0 p.limit_le_most_limit.0 c.if-applied-budget.false _ _ _ kept on.1 _ c.top_row-next-in-loop-index.ensures
    (row_there _ (ap is_some (sym c.top_row-next-in-loop-index.ensures) ∙ below)) (tries.size ∙ g.cells) tries.on.low

pub returns-then-is_complete-clause-tells : goal.returns-then-is_complete-clause-tells
returns-then-is_complete-clause-tells c =
    let p = c.requires in
    let valid = p.ready.0.held.valid in
    let linked = p.ready.1 in
    let l = c.loop-index in
    let g = l.invariant in
    let some = sym c.row.ensures ∙ c.in-Some.is in
    let on = row_on valid linked g some p.ready.0.rows c.in-Some-try_row.ensures _ refl in
    let kept : Marked l.trail l.depth (mark_of c.in-Some.index l.at) (set l.trail l.depth c.marked-then-is_complete.result) =
    marks l.trail l.depth _ _ c.marked-then-is_complete.ensures (omega (arith, g.marks, allowed valid linked g some, p.limit_le_most_limit.0))
    in
    going_found valid linked g some on.0 p.limit_le_most_limit.0 c.if-applied-budget.false _ _ _ kept on.1 (sym (c.is_complete.ensures _) ∙ c.if-is_complete.true)

pub put_back-requires : goal.put_back-requires
put_back-requires c =
    let p = c.requires in
    let valid = p.ready.0.held.valid in
    let linked = p.ready.1 in
    let l = c.loop-index in
    let g = l.invariant in
    let some = sym c.row.ensures ∙ c.in-Some.is in
    let low = row_low valid linked g some in
    record {
      height_bound = (c.try_row.ensures.size ∙ g.cells, some_high valid linked g some, g.low);
      rows_fit = ((p.ready.0.ok _ low).held.fits, task_fits p.ready.0.rows valid _ (omega (arith, low)));
    }

pub loop-index-preserved : goal.loop-index-preserved
loop-index-preserved c =
    let p = c.requires in
    let valid = p.ready.0.held.valid in
    let linked = p.ready.1 in
    let l = c.loop-index in
    let g = l.invariant in
    let some = sym c.row.ensures ∙ c.in-Some.is in
    let tries = c.in-Some-try_row.ensures in
    let on = row_on valid linked g some p.ready.0.rows tries _ refl in
    let low = row_low valid linked g some in
    let none : is_some (row_of c.top_row-next-in-loop-index.result) ≡ false = grind (arith, nat_tests) in
    going_again valid linked g some on.0 c.if-applied-budget.false _ _ on.1 (row_missing _ (ap is_some (sym c.top_row-next-in-loop-index.ensures) ∙ none)) (sym (c.is_complete.ensures _) ∙ c.if-is_complete.false)
    (tries.size ∙ g.cells) _ (c.put_back.ensures ∙ ap (set c.try_row.new.stack (l.at.height - 1)) (task_is p.ready.0.rows _ low)) _ c.next-next-in-loop-index.ensures
