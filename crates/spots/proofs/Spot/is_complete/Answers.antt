use Rattle.words.specs.Words.{table_of}
use Rattle.facts.specs.Sets.{set_of}
use Rattle.rules.specs.Facts.{holds}
use Prim.Native.Nat.{ℕ}
use mathlib.Core.Path.{ap, ◌∙◌}
use Rattle.spots.proofs.SpotLaws.{complete_high, complete_empty}
use Rattle.spots.proofs.Spot.is_complete.Goals as goal

pub returns-then-self-ne0 : goal.returns-then-self-ne0
returns-then-self-ne0 c =
    λ cells.
    let a = c.args in
    complete_high (table_of a.words.all.now) (set_of a.self.facts) a.self.height cells c.if-self-ne0.true

pub returns : goal.returns
returns c =
    λ cells.
    let a = c.args in
    c.holds.ensures ∙ ap (λ (g : ℕ). holds g (set_of a.self.facts)) c.goal_facts.ensures
    ∙ complete_empty (table_of a.words.all.now) (set_of a.self.facts) a.self.height cells c.if-self-ne0.false
