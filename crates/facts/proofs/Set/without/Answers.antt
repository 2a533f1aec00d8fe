use native.Mathlib.Omega.{arith}
use Rattle.facts.proofs.SetLaws.{and_not}
use Rattle.facts.proofs.Set.without.Goals as goal

pub returns : goal.returns
returns c = and_not c.args.self.bits c.args.other.bits (omega arith) (omega arith)
