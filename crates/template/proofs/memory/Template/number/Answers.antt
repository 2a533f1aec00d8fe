use mathlib.Core.Path.{refl}
use native.Mathlib.Omega.{arith}
use Rattle.template.proofs.TemplateLaws.{stands_number, rendered_number}
use Rattle.template.proofs.memory.Template.number.Goals as goal

pub returns-clause-stands : goal.returns-clause-stands
returns-clause-stands c s = stands_number c.args.self.now _ _ s c.requires.0 refl refl refl refl (omega (arith, c.requires.1))

pub returns-clause-text : goal.returns-clause-text
returns-clause-text c s =
    rendered_number c.args.self.now _ _ s c.requires.0 refl refl refl refl refl refl
