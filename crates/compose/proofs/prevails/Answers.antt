use Rattle.facts.specs.Sets.{set_of}
use native.Mathlib.Omega.{arith}
use Prim.Native.Nat.{ℕ, ◌*◌}
use mathlib.Core.Path.{ap, ◌∙◌}
use lib.Count.{ones}
use Rattle.rules.specs.Facts.{without}
use Rattle.rules.specs.Limits.{most_facts}
use Rattle.listing.specs.Listings.{hold_text, hold_bytes}
use Rattle.drawing.specs.Draws.{Draws}
use Rattle.compose.specs.Groups.{fact_lines, prevail_count}
use Rattle.compose.proofs.GroupLaws.{facts_as}
use Rattle.drawing.proofs.DrawLaws.{◌▹◌, draws_is}
use Rattle.compose.proofs.prevails.Goals as goal

pub returns : goal.returns
returns c =
    let a = c.args in
    let s = c.args.stack in
    let facts : Draws (fact_lines (prevail_count (ones (without (set_of a.needs) (set_of a.dels))) s.stay s.task s.bottom) (hold_text s.top (without (set_of a.needs) (set_of a.dels))) (hold_bytes * most_facts)) _ _ =
    draws_is (omega arith) (omega arith)
    (λ p. facts_as (c.prevail_count-n.ensures.value ∙ ap (λ (x : ℕ). prevail_count (ones x) s.stay s.task s.bottom) c.kept-set.ensures) (ap (hold_text s.top) c.kept-set.ensures))
    c.fact_lines.ensures.draws in
    facts ▹ c.top_stays.ensures ▹ c.task_stays.ensures
