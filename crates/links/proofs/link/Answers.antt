use mathlib.Core.Path.{◌≡◌, refl, subst, ap₂}
use Prim.Native.Nat.{◌+◌, ◌-◌}
use native.Mathlib.Omega.{arith}
use lib.ListN.{get_or-replicate}
use Rattle.rules.specs.Limits.{most_tasks}
use Rattle.rows.specs.Sizes.{most_rows}
use Rattle.words.specs.Words.{table_of}
use Rattle.links.specs.Links.{LinkedTo}
use Rattle.links.proofs.LinkLaws.{few_rows, none_linked, all_linked}
use Rattle.links.proofs.link.Goals as goal

pub overflow_add-count : goal.overflow_add-count
overflow_add-count c =
    let few = few_rows _ c.requires.held.valid in
    omega (arith, c.method_count.ensures, c.action_count.ensures, few)

pub loop-i-init : goal.loop-i-init
loop-i-init c =
    none_linked _ _ _ c.requires.held.valid _ (record { next = refl; first = refl }) (λ k l. get_or-replicate most_tasks k most_rows 0 l) _
    (ap₂ ◌+◌ c.action_count.ensures c.method_count.ensures)

pub link_row-requires : goal.link_row-requires
link_row-requires c =
    let l = c.loop-i in
    let t = table_of c.args.words.all.now in
    let e : l.i ≡ l.i - 1 + 1 = omega (arith, c.loop-i-test.true) in
    (c.requires, subst (LinkedTo c.args.bound c.args.form t l.links) e l.invariant)

pub loop-i-preserved : goal.loop-i-preserved
loop-i-preserved c = c.link_row.ensures

pub returns : goal.returns
returns c =
    let l = c.loop-i in
    all_linked _ _ _ c.requires.held.valid l.links _ c.loop-i-test.false l.invariant
