use Rattle.spots.proofs.SpotLaws.{top_limit, top_empty, top_strange, top_first}
use Rattle.links.specs.Links.{some_row}
use mathlib.Core.Path.{ap, ◌∙◌}
use native.Mathlib.Omega.{arith}
use Rattle.spots.proofs.top_row.Goals as goal

pub returns-then-rest-eq0 : goal.returns-then-rest-eq0
returns-then-rest-eq0 c = let a = c.args in c.none.ensures ∙ ap some_row (top_limit a.links.now a.stack.now a.height a.rest c.if-rest-eq0.true)

pub returns-then-height-eq0 : goal.returns-then-height-eq0
returns-then-height-eq0 c = let a = c.args in c.none-then-height-eq0.ensures ∙ ap some_row (top_empty a.links.now a.stack.now a.height a.rest c.if-rest-eq0.false c.if-height-eq0.true)

pub returns-then-task : goal.returns-then-task
returns-then-task c =
    let a = c.args in
    c.none-then-task.ensures ∙ ap some_row (top_strange a.links.now a.stack.now a.height a.rest c.if-rest-eq0.false c.if-height-eq0.false (omega (arith, c.if-task.true)))

pub returns : goal.returns
returns c =
    let a = c.args in
    c.first.ensures ∙ ap some_row (top_first a.links.now a.stack.now a.height a.rest c.if-rest-eq0.false c.if-height-eq0.false (omega (arith, c.if-task.false)))
