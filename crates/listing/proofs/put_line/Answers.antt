use Rattle.facts.specs.Sets.{set_of}
use mathlib.Core.Path.{sym, ap, ◌∙◌}
use Rattle.text.proofs.PutLaws.{puts_is, puts_none}
use Rattle.listing.proofs.LineLaws.{line_there, line_missing}
use Rattle.listing.specs.declared.Says.{Says}
use Rattle.listing.specs.Listings.{fact_line}
use Rattle.listing.proofs.put_line.Goals as goal

pub returns-then-not-has-clause-puts : goal.returns-then-not-has-clause-puts
returns-then-not-has-clause-puts c =
    let a = c.args in
    puts_is (line_missing a.says (set_of a.set) a.k (sym c.has.ensures ∙ c.if-not-has.true)) (puts_none _ _)

pub returns-in-Holds-clause-puts : goal.returns-in-Holds-clause-puts
returns-in-Holds-clause-puts c =
    let a = c.args in
    let e = c.in-Holds.is in puts_is (line_there a.says (set_of a.set) a.k (sym c.has.ensures ∙ c.if-not-has.false) ∙ ap (λ (s : Says). fact_line s a.k) e) c.put_holds.ensures.puts

pub returns-in-Changes-clause-puts : goal.returns-in-Changes-clause-puts
returns-in-Changes-clause-puts c =
    let a = c.args in
    let e = c.in-Changes.is in puts_is (line_there a.says (set_of a.set) a.k (sym c.has.ensures ∙ c.if-not-has.false) ∙ ap (λ (s : Says). fact_line s a.k) e) c.put_change.ensures.puts
