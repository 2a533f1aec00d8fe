-- How many values each variable of the emitted problem has.
use Prim.Native.Nat.{ℕ, suc, ◌+◌, ◌<◌}
use mathlib.Core.Path.{◌≡◌, refl, ap, ◌∙◌}
use mathlib.Core.List.{List, [], ◌∷◌, ◌++◌}
use native.Mathlib.Omega.{arith}
use borrow.Author.Tests.{eq-eqb, ne_eqb, lt-ltb, le-ltb}
use lib.ListN.{length, length-append}
use Rattle.basics.specs.Lists.{rows}
use Rattle.basics.specs.Texts.{bytes, digits}
use Rattle.rules.specs.Tables.{Table, fact_count, task_count}
use Rattle.rules.specs.Problems.{variable_count, height_names, task_names, value_names, variable_of, problem_of}
use Rattle.version3.specs.Problems.{Variable, no_variable, values_of}
use Rattle.laws.proofs.ListLaws.{rows_length, rows_at}
use Rattle.translation.specs.Counts.{ValueCounts}

pub names_many : (t : Table) → length (task_names t) ≡ task_count t + 1
names_many t =
    length-append (rows (λ k. bytes "t" ++ digits k) (task_count t)) (bytes "none" ∷ [])
    ∙ omega (arith, rows_length (λ k. bytes "t" ++ digits k) (task_count t))

pub heights_many : (b : ℕ) → length (height_names b) ≡ b + 1
heights_many b = rows_length (λ h. bytes "top" ++ digits h) (suc b) ∙ omega arith

abbrev pub variables_of : ℕ → Table → List Variable
variables_of b t = rows (variable_of b t) (variable_count b t)

module _ (b : ℕ) (t : Table) where
  pub values_are : (k : ℕ) → k < variable_count b t → values_of (variables_of b t) k ≡ length (value_names b t k)
  unfolding variable_of
  values_are k l = ap (λ (x : Variable). length x.values) (rows_at (variable_of b t) no_variable (variable_count b t) k l)

  pub values_counted : ValueCounts b t (variables_of b t)
  values_counted =
      let F = fact_count t in
      record {
        variables = rows_length (variable_of b t) (variable_count b t);
        fact = λ k l. values_are k (omega arith) ∙ rw (lt-ltb k F l);
        top = values_are F (omega arith) ∙ rw (le-ltb F F (omega arith), eq-eqb F F refl) (heights_many b);
        position = λ i l h.
            values_are (F + i) (omega arith) ∙ rw (le-ltb (F + i) F (omega arith), ne_eqb (F + i) F (λ q. omega arith)) (names_many t);
      }

pub problem_counted : (b f : ℕ) (t : Table) → ValueCounts b t (problem_of b f t).variables
unfolding problem_of
problem_counted b f t = values_counted b t
