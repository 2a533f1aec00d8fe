use mathlib.Core.Path.{sym}
use Rattle.words.proofs.ViewLaws.{subtask_is}
use Rattle.words.proofs.Words.subtask.Goals as goal

pub returns : goal.returns
returns c = sym (subtask_is c.args.self.all.now c.args.self.held c.args.k c.requires.0 c.args.j c.requires.1)
