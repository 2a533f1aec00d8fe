use native.Mathlib.Omega.{arith}
use Rattle.words.specs.Words.{table_of}
use Rattle.laws.proofs.CountLaws.{operators_few, sections_length}
use Rattle.problem.proofs.section_count.Goals as goal

pub overflow_add-result : goal.overflow_add-result
overflow_add-result c =
    omega (arith, operators_few c.args.bound c.args.form (table_of c.args.words.all.now) c.args.words.held.valid c.requires)

pub overflow_add-result-2 : goal.overflow_add-result-2
overflow_add-result-2 c =
    omega (arith, operators_few c.args.bound c.args.form (table_of c.args.words.all.now) c.args.words.held.valid c.requires)

pub returns : goal.returns
returns c =
    let a = c.args in
    omega (arith, sections_length a.bound a.form (table_of a.words.all.now))
