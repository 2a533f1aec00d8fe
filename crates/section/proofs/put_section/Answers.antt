use mathlib.Core.Path.{◌≡◌, subst}
use Prim.Native.Nat.{◌+◌, ◌-◌, ◌≤◌}
use native.Mathlib.Omega.{arith}
use Rattle.rules.specs.Problems.{variable_count}
use Rattle.words.specs.Words.{table_of}
use Rattle.std.proofs.Common.{Result}
use Prim.Native.Nat.{ℕ}
use Rattle.problem.specs.declared.OperatorPlace.{OperatorPlace}
use Rattle.problem.specs.Places.{IsFound}
use Rattle.section.proofs.ChosenLaws.{chosen_first, chosen_variable, chosen_middle, chosen_operator, chosen_last, chosen_none}
use Rattle.kinds.proofs.FitLaws.{fits_chosen, none_chosen}
use Rattle.section.proofs.put_section.Goals as goal

pub returns-then-k-eq0 : goal.returns-then-k-eq0
returns-then-k-eq0 c =
    let a = c.args in let r = fits_chosen _ (chosen_first a.bound a.form (table_of a.words.all.now) a.k c.if-k-eq0.true) c.put_preamble.ensures in record { result_value = r.0; part_after = r.1 }

pub returns-then-k-variables : goal.returns-then-k-variables
returns-then-k-variables c =
    let a = c.args in
    let l : a.k ≤ variable_count a.bound (table_of a.words.all.now) = omega (arith, c.variable_count-variables.ensures, c.if-k-variables.true) in let r = fits_chosen _ (chosen_variable a.bound a.form (table_of a.words.all.now) a.k c.if-k-eq0.false l) c.put_variable.ensures in record { result_value = r.0; part_after = r.1 }

pub returns-then-k-variables-2 : goal.returns-then-k-variables-2
returns-then-k-variables-2 c =
    let a = c.args in
    let e : a.k ≡ variable_count a.bound (table_of a.words.all.now) + 1 = omega (arith, c.variable_count-variables.ensures, c.if-k-variables-2.true) in let r = fits_chosen _ (chosen_middle a.bound a.form (table_of a.words.all.now) a.k e) c.put_middle.ensures in record { result_value = r.0; part_after = r.1 }

pub put_operator-size-requires : goal.put_operator-size-requires
put_operator-size-requires c =
    let n = c.args.k - c.variable_count-variables.result - 2 in
    let found = subst (λ (r : Result OperatorPlace ℕ). IsFound c.args.bound c.args.form (table_of c.args.words.all.now) n r) c.in-Ok.is c.find.ensures in
    record { held = (c.requires.1, found.step); p_bound = found.position }

pub returns-then-over-eq0 : goal.returns-then-over-eq0
returns-then-over-eq0 c =
    let a = c.args in
    let t = table_of a.words.all.now in
    let n = a.k - c.variable_count-variables.result - 2 in
    let found = subst (λ (r : Result OperatorPlace ℕ). IsFound a.bound a.form t n r) c.in-Err.is c.find.ensures in
    let e : a.k ≡ variable_count a.bound t + 2 + n = omega (arith, c.variable_count-variables.ensures, c.if-k-variables.false, c.if-k-variables-2.false) in let r = fits_chosen _ (chosen_last a.bound a.form t a.k n e (omega (arith, found, c.if-over-eq0.true))) c.put_last.ensures in record { result_value = r.0; part_after = r.1 }

pub returns-in-Ok : goal.returns-in-Ok
returns-in-Ok c =
    let a = c.args in
    let t = table_of a.words.all.now in
    let n = a.k - c.variable_count-variables.result - 2 in
    let found = subst (λ (r : Result OperatorPlace ℕ). IsFound a.bound a.form t n r) c.in-Ok.is c.find.ensures in
    let e : a.k ≡ variable_count a.bound t + 2 + n = omega (arith, c.variable_count-variables.ensures, c.if-k-variables.false, c.if-k-variables-2.false) in let r = fits_chosen _ (chosen_operator a.bound a.form t a.k n e _ _ found) c.put_operator-size.ensures in record { result_value = r.0; part_after = r.1 }

pub returns-else-over-eq0 : goal.returns-else-over-eq0
returns-else-over-eq0 c =
    let a = c.args in
    let t = table_of a.words.all.now in
    let n = a.k - c.variable_count-variables.result - 2 in
    let found = subst (λ (r : Result OperatorPlace ℕ). IsFound a.bound a.form t n r) c.in-Err.is c.find.ensures in
    let e : a.k ≡ variable_count a.bound t + 2 + n = omega (arith, c.variable_count-variables.ensures, c.if-k-variables.false, c.if-k-variables-2.false) in let r = none_chosen a.part.now _ (chosen_none a.bound a.form t a.k n e _ found c.if-over-eq0.false) in record { result_value = rw c.at.ensures r.0; part_after = r.1 }
