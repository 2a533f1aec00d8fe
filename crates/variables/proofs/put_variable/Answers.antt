use Prim.Native.Nat.{ℕ, ◌<◌}
use mathlib.Core.Path.{◌≡◌, sym, ap, ◌∙◌}
use native.Mathlib.Omega.{arith}
use Rattle.rules.specs.Tables.{fact_count}
use Rattle.version3.specs.Spelling.{spell_variable}
use Rattle.words.specs.Words.{table_of}
use Rattle.text.proofs.PutLaws.{puts_is}
use Rattle.variables.specs.Variables.{variable, position_names}
use Rattle.variables.proofs.VariableLaws.{fact_variable, top_variable, position_variable}
use Rattle.variables.proofs.put_variable.Goals as goal

pub returns-then-v-facts-clause-puts : goal.returns-then-v-facts-clause-puts
returns-then-v-facts-clause-puts c =
    let a = c.args in
    let t = table_of a.words.all.now in
    let l : a.v < fact_count t = omega (arith, c.fact_count-facts.ensures) in
    puts_is (fact_variable a.bound t a.v l) c.put_fact_variable.ensures.puts

pub returns-then-v-facts-2-clause-puts : goal.returns-then-v-facts-2-clause-puts
returns-then-v-facts-2-clause-puts c =
    let a = c.args in
    let t = table_of a.words.all.now in
    let e : a.v ≡ fact_count t = omega (arith, c.fact_count-facts.ensures) in
    puts_is (top_variable a.bound t a.v e) c.put_top_variable.ensures.puts

pub returns-clause-puts : goal.returns-clause-puts
returns-clause-puts c =
    let a = c.args in
    let t = table_of a.words.all.now in
    let l : fact_count t < a.v = omega (arith, c.fact_count-facts.ensures) in puts_is (position_variable a.bound t a.v l ∙ ap (λ (n : ℕ). spell_variable (variable a.v (position_names n))) (sym c.task_count.ensures))
    c.put_position_variable.ensures.puts
