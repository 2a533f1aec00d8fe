use native.Mathlib.Omega.{arith}
use Rattle.template.specs.Sizes.{figure_count}
use Rattle.template.proofs.FigureLaws.{figures_room, figure_size, figure_appends}
use Rattle.template.proofs.put_figure.Goals as goal

pub bounds-figures-k : goal.bounds-figures-k
bounds-figures-k c = omega (arith, figures_room _ figure_count c.requires.2)

pub bounds-figures-k-2 : goal.bounds-figures-k-2
bounds-figures-k-2 c = omega (arith, figures_room _ figure_count c.requires.2)

pub bounds-figures-k-3 : goal.bounds-figures-k-3
bounds-figures-k-3 c = omega (arith, figures_room _ figure_count c.requires.2)

pub bounds-figures-k-4 : goal.bounds-figures-k-4
bounds-figures-k-4 c = omega (arith, figures_room _ figure_count c.requires.2)

pub overflow_cast-result : goal.overflow_cast-result
overflow_cast-result c =
    omega (arith, figure_size c.args.figures.now c.args.n c.requires.2 c.requires.1)

pub overflow_add-result : goal.overflow_add-result
overflow_add-result c =
    omega (arith, figure_size c.args.figures.now c.args.n c.requires.2 c.requires.1)

pub returns : goal.returns
returns c =
    let size = figure_size c.args.figures.now c.args.n c.requires.2 c.requires.1 in
    record { appends = figure_appends c.args.figures.now c.args.n c.requires.2 c.requires.1 (omega arith) c.put_four.ensures.appends; upper_bound = omega arith }
