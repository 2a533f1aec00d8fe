use mathlib.Core.Path.{refl, ◌∙◌}
use native.Mathlib.Omega.{arith}
use Rattle.lines.proofs.PlaceLaws.{told}
use Rattle.lines.proofs.LineLaws.{at_operator, at_other, at_comment}
use Rattle.lines.proofs.line_at.Goals as goal

pub returns-in-40 : goal.returns-in-40
returns-in-40 c = told c.requires (c.operator.ensures ∙ at_operator _ _ _ refl c.in-40.is)

pub returns-in-59 : goal.returns-in-59
returns-in-59 c = told c.requires (at_comment _ _ _ refl (λ h. omega (arith, h, c.in-59.is)) c.in-59.is _ c.feed_from.ensures.0)

pub returns-in_default : goal.returns-in_default
returns-in_default c = told c.requires (at_other _ _ _ refl (λ h. omega arith) (λ h. omega arith))
