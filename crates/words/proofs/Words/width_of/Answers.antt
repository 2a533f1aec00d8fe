use mathlib.Core.Path.{sym}
use Rattle.words.proofs.ViewLaws.{width_is}
use Rattle.words.proofs.Words.width_of.Goals as goal

pub returns : goal.returns
returns c = sym (width_is c.args.self.all.now c.args.self.held c.args.k c.requires)
