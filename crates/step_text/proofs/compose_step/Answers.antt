use mathlib.Core.Path.{◌∙◌}
use Rattle.words.specs.Words.{table_of}
use Rattle.step_text.proofs.StepLaws.{step_fit, step_count_lem, step_composed}
use Rattle.step_text.proofs.compose_step.Goals as goal

pub compose_row-requires-clause-held : goal.compose_row-requires-clause-held
compose_row-requires-clause-held c =
    let t = table_of c.args.words.all.now in
    let row = c.one_row in
    let ops = row.new.ops in
    let cells = row.new.cells in
    step_fit c.args.bound c.args.form t c.args.i ops cells row.ensures.cells_after c.args.words.held.valid c.requires.held.1 row.ensures.ops_len_unchanged.0 row.ensures.ops_len_unchanged.1

pub returns-clause-composed : goal.returns-clause-composed
returns-clause-composed c =
    let a = c.args in
    let t = table_of a.words.all.now in
    let row = c.one_row in
    let ops = row.new.ops in
    let cells = row.new.cells in
    let drawn = c.compose_row.ensures in
    record {
      stands = drawn.stands;
      text = λ p. drawn.text p ∙ step_composed a.bound a.form t a.i ops cells row.ensures.cells_after p;
      most = drawn.upper_bound;
      count = c.last.ensures ∙ step_count_lem a.bound a.form t a.i ops cells row.ensures.cells_after;
    }
