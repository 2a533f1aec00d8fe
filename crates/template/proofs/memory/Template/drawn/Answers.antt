use mathlib.Core.Path.{refl}
use Rattle.template.specs.Templates.{rendered}
use Rattle.template.specs.Views.{shown}
use Rattle.template.proofs.memory.Template.drawn.Goals as goal

pub returns-clause-text : goal.returns-clause-text
unfolding shown rendered
returns-clause-text c p = refl
