use borrow.Author.Rules.{rules}
use Rattle.kinds.proofs.put_last.Goals as goal

pub returns : goal.returns
returns c = c.fit.ensures _ (λ old new r e. search rules)
