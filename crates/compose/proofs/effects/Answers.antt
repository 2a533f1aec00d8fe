use Rattle.facts.specs.Sets.{set_of}
use native.Mathlib.Omega.{arith}
use Rattle.drawing.proofs.DrawLaws.{◌▹◌, draws_is}
use Prim.Native.Nat.{ℕ, ◌*◌}
use mathlib.Core.Path.{ap, ◌∙◌}
use lib.Bits.{bit_or}
use lib.Count.{ones}
use Rattle.rules.specs.Facts.{without}
use Rattle.rules.specs.Limits.{most_facts}
use Rattle.listing.specs.Listings.{change_text, change_bytes}
use Rattle.drawing.specs.Draws.{Draws}
use Rattle.compose.specs.Groups.{fact_lines, effect_count}
use Rattle.compose.proofs.GroupLaws.{facts_as}
use Rattle.compose.proofs.effects.Goals as goal

pub returns : goal.returns
returns c =
    let a = c.args in
    let s = c.args.stack in
    let set = bit_or (set_of a.dels) (without (set_of a.adds) (set_of a.needs)) in
    let facts : Draws (fact_lines (effect_count (ones set) s.stay s.task s.bottom) (change_text (set_of a.needs) (set_of a.dels) s.top set) (change_bytes * most_facts)) _ _ =
    draws_is (omega arith) (omega arith)
    (λ p. facts_as (c.effect_count-n.ensures.value ∙ ap (λ (x : ℕ). effect_count (ones x) s.stay s.task s.bottom) c.altered-set.ensures) (ap (change_text (set_of a.needs) (set_of a.dels) s.top) c.altered-set.ensures))
    c.fact_lines.ensures.draws in
    facts ▹ c.top_moves.ensures ▹ c.task_moves.ensures
