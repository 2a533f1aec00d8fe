use mathlib.Core.Path.{◌≡◌}
use native.Mathlib.Omega.{arith}
use Rattle.std.proofs.lemmas.List.{length-take-le}
use lib.ListN.{length, take}
use Rattle.trail.specs.Trails.{marked}
use Rattle.rows.proofs.RowLaws.{row_ok}
use Rattle.words.specs.Words.{table_of}
use Rattle.finder.proofs.FinderLaws.{found_small, nothing_written}
use Rattle.finder.proofs.seek.Goals as goal

pub link-links-requires : goal.link-links-requires
link-links-requires c =
    let p = c.requires in
    let rows = c.prepare.ensures in
    record { held = c.args.words.held; low = p.0; high = p.1; rows = rows; ok = row_ok c.args.words.held.valid p.1 rows }

pub search-requires-clause-ready : goal.search-requires-clause-ready
search-requires-clause-ready c =
    let p = c.requires in
    let rows = c.prepare.ensures in
    (record { held = c.args.words.held; low = p.0; high = p.1; rows = rows; ok = row_ok c.args.words.held.valid p.1 rows }, c.link-links.ensures)

pub returns-in_err-plan-clause-text_after : goal.returns-in_err-plan-clause-text_after
returns-in_err-plan-clause-text_after c = nothing_written c.args.text.now _ c.in_err-plan.ensures.tells

pub hand_out-requires : goal.hand_out-requires
hand_out-requires c =
    let p = c.requires in
    let a = c.args in
    let t = table_of a.words.all.now in
    let q = c.in_ok-plan.ensures.tells in
    let trail = c.search.new.trail in
    let n = c.in_ok-plan.plan.count in
    let size : length (take n trail) ≡ n = length-take-le n trail (omega (arith, q.2, c.in_ok-plan.ensures.trail_len)) in
    (omega (arith, q.2, size), found_small a.bound a.form t c.args.words.held.valid p.1 a.limit (marked t (take n trail)) _ q.0)
