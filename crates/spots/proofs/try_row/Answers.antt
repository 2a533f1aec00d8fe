use Rattle.spots.proofs.SpotLaws.{tries_not, tested_high, tested_needs, tries_on}
use Rattle.rows.specs.Stacks.{stack_of}
use Rattle.rows.specs.Rows.{row_at}
use Rattle.facts.specs.Sets.{set_of}
use Rattle.rules.specs.Facts.{holds, changed}
use native.Mathlib.Omega.{arith}
use mathlib.Core.Path.{sym, ap, ◌∙◌}
use Prim.Native.Nat.{ℕ, ◌+◌, ◌-◌, ◌≤◌}
use Rattle.spots.proofs.try_row.Goals as goal

pub returns-then-last-height : goal.returns-then-last-height
returns-then-last-height c =
    let a = c.args in
    let r = row_at a.rows.ops.now a.rows.cells.now a.index in
    tries_not r a.at a.stack.now (tested_high r a.at a.stack.now (omega (arith, c.last-last.ensures, c.if-last-height.true)))

pub returns-then-not-holds : goal.returns-then-not-holds
returns-then-not-holds c =
    let a = c.args in
    let r = row_at a.rows.ops.now a.rows.cells.now a.index in
    let h = c.holds.ensures ∙ ap (λ (n : ℕ). holds n (set_of a.at.facts)) c.needs-needs.ensures in
    tries_not r a.at a.stack.now (tested_needs r a.at a.stack.now (omega (arith, c.last-last.ensures, c.if-last-height.false)) (sym h ∙ c.if-not-holds.true))

pub left-requires : goal.left-requires
left-requires c = c.requires.3.held.fits

pub overflow_add-high : goal.overflow_add-high
overflow_add-high c = let ok = c.requires.3 in omega (arith, c.left.ensures, ok.held.few, c.requires.2)

pub returns : goal.returns
returns c =
    let a = c.args in
    let r = row_at a.rows.ops.now a.rows.cells.now a.index in
    let l : a.at.height ≤ r.last = omega (arith, c.last-last.ensures, c.if-last-height.false) in
    let h = c.holds.ensures ∙ ap (λ (n : ℕ). holds n (set_of a.at.facts)) c.needs-needs.ensures in
    let push = c.push.ensures in
    let ok = c.requires.3 in
    tries_on r a.at a.stack.now l (sym h ∙ c.if-not-holds.false) _ push.size _
    (record {
      facts = c.changed-facts.ensures ∙ (λ i. changed (c.dels-dels.ensures i) (c.adds-adds.ensures i) (set_of a.at.facts));
      stack = ap (λ (n : ℕ). stack_of c.push.new.stack (a.at.height - 1 + n)) c.left.ensures ∙ push.stack;
      low = omega (arith, c.left.ensures, ok.height, l, c.requires.1);
    })
