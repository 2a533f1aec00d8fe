use mathlib.Core.Path.{sym, ap}
use Rattle.rules.specs.Tables.{Method}
use Rattle.words.proofs.ViewLaws.{method_is}
use Rattle.words.proofs.Words.head_of.Goals as goal

pub returns : goal.returns
returns c = ap (λ (m : Method). m.head) (sym (method_is c.args.self.all.now c.args.k c.requires))
