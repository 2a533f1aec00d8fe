use Prim.Native.Nat.{◌*◌, ◌-◌, ◌≤◌}
use mathlib.Core.Path.{◌≡◌}
use Rattle.template.specs.Sizes.{figure_count}
use Rattle.basics.specs.Lists.{upto}
use Rattle.text.specs.Appends.{Appends}
use Rattle.template.specs.Figures.{figure}
use Rattle.template.proofs.fill_figures.Given as goal

abbrev pub invariant-loop-n : goal.invariant-loop-n
invariant-loop-n l = (l.n ≤ figure_count) × (l.at ≡ 4 * l.n) × Appends l.initial.figures 0 (upto figure l.n) l.figures l.at

abbrev pub decreases-loop-n : goal.decreases-loop-n
decreases-loop-n l = figure_count - l.n
