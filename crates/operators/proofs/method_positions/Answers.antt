use mathlib.Core.Path.{sym, ap, ◌∙◌}
use native.Mathlib.Omega.{arith}
use Rattle.rules.specs.Facts.{Join}
use Rattle.words.specs.Words.{table_of}
use Rattle.laws.proofs.CountLaws.{prefix_short, method_positions}
use Rattle.operators.proofs.method_positions.Goals as goal

pub overflow_sub-stay : goal.overflow_sub-stay
overflow_sub-stay c =
    let a = c.args in
    omega (arith, c.width_of.ensures, c.prefix_of-count.ensures.count, prefix_short a.form (table_of a.words.all.now) a.k)

pub returns : goal.returns
returns c =
    let a = c.args in
    let p = c.prefix_of-count.ensures in
    c.highest_position.ensures
    ∙ rw (c.width_of.ensures, p.count, ap (λ (j : Join). j.dead) p.sets)
    (sym (method_positions a.bound a.form (table_of a.words.all.now) a.k c.requires.1))
