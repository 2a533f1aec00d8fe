use borrow.Author.Tests.{eq-eqb, ne_eqb, lt-ltb, le-ltb}
use Rattle.rules.specs.Numbers.{sound}
use Rattle.numbers.proofs.shortest.Goals as goal

pub returns-then-k-eq0 : goal.returns-then-k-eq0
unfolding sound
returns-then-k-eq0 c = rw (eq-eqb _ _ c.if-k-eq0.true)

pub returns-then-b-eq0 : goal.returns-then-b-eq0
unfolding sound
returns-then-b-eq0 c = rw (ne_eqb _ _ c.if-k-eq0.false, eq-eqb _ _ c.if-b-eq0.true)

pub returns-then-k-lt9 : goal.returns-then-k-lt9
unfolding sound
returns-then-k-lt9 c = rw (ne_eqb _ _ c.if-k-eq0.false, ne_eqb _ _ c.if-b-eq0.false, lt-ltb _ _ c.if-k-lt9.true)

pub returns-then-k-eq9 : goal.returns-then-k-eq9
unfolding sound
returns-then-k-eq9 c = rw (ne_eqb _ _ c.if-k-eq0.false, ne_eqb _ _ c.if-b-eq0.false, le-ltb _ _ c.if-k-lt9.false, eq-eqb _ _ c.if-k-eq9.true)

pub returns : goal.returns
unfolding sound
returns c = rw (ne_eqb _ _ c.if-k-eq0.false, ne_eqb _ _ c.if-b-eq0.false, le-ltb _ _ c.if-k-lt9.false, ne_eqb _ _ c.if-k-eq9.false)
