use Rattle.rules.specs.Facts.{join_one}
use Rattle.facts.proofs.join_one.Goals as goal

pub returns : goal.returns
unfolding join_one
returns c =
    rw (c.with.ensures, c.without-open.ensures, c.changed.ensures, c.without.ensures, c.with-gone.ensures, c.meets.ensures)
