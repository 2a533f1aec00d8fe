use Rattle.kinds.proofs.FitLaws.{fits_short, fits_put}
use Rattle.kinds.proofs.fit.Goals as goal

pub returns-then-short : goal.returns-then-short
returns-then-short g c x w = fits_short (w _ _ _ c.put-size.ensures) c.args.part.now c.if-short.true

pub returns : goal.returns
returns g c x w = fits_put (w _ _ _ c.put-size.ensures) c.if-short.false (w _ _ _ c.put.ensures)
