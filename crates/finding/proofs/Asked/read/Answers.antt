use native.Mathlib.Omega.{arith}
use mathlib.Core.Path.{◌∙◌}
use Prim.Native.Nat.{◌+◌, ◌*◌}
use Rattle.rules.specs.Programs.{limit_in, budget_in}
use Rattle.finding.proofs.Asked.read.Goals as goal

pub returns-clause-limits : goal.returns-clause-limits
unfolding limit_in budget_in
returns-clause-limits c = (
  c.two_bytes-limit.ensures.value ∙ (λ i. c.byte.ensures i + 256 * c.byte-2.ensures i),
  omega (arith, c.from_le_bytes-budget.ensures, c.byte-3.ensures, c.byte-4.ensures, c.byte-5.ensures, c.byte-6.ensures),
)
