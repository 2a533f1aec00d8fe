use mathlib.Core.Path.{sym, ap, ◌∙◌}
use Prim.Native.Nat.{ℕ}
use Rattle.rules.specs.Facts.{holds}
use Rattle.facts.specs.Sets.{set_of}
use Rattle.words.specs.Words.{table_of}
use Rattle.closing.proofs.EndLaws.{ends_high, ends_empty}
use Rattle.closing.proofs.conclude.Goals as goal

pub returns-then-left-clause-verdict : goal.returns-then-left-clause-verdict
returns-then-left-clause-verdict c =
    let a = c.args in
    rw c.at.ensures (λ stack. sym (ends_high (table_of a.words.all.now) a.lines a.t c.if-left.true stack))

pub returns-then-not-holds-clause-verdict : goal.returns-then-not-holds-clause-verdict
returns-then-not-holds-clause-verdict c =
    let a = c.args in
    let h = c.holds.ensures ∙ ap (λ (g : ℕ). holds g (set_of a.t.facts)) c.goal_facts.ensures in
    rw c.at-then-not-holds.ensures (λ stack. sym (ends_empty (table_of a.words.all.now) a.lines a.t c.if-left.false stack ∙ rw (sym h ∙ c.if-not-holds.true)))

pub returns-clause-verdict : goal.returns-clause-verdict
returns-clause-verdict c =
    let a = c.args in
    let h = c.holds.ensures ∙ ap (λ (g : ℕ). holds g (set_of a.t.facts)) c.goal_facts.ensures in
    λ stack. sym (ends_empty (table_of a.words.all.now) a.lines a.t c.if-left.false stack ∙ rw (sym h ∙ c.if-not-holds.false))
