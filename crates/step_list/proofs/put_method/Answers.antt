use Prim.Native.Nat.{◌-◌}
use mathlib.Core.Path.{◌≡◌, ◌∙◌}
use native.Mathlib.Omega.{arith}
use lib.ListN.{length}
use Rattle.rules.specs.Progression.{prefix}
use Rattle.words.specs.Words.{table_of}
use Rattle.step_list.proofs.StepListLaws.{method_put}
use Rattle.step_list.proofs.put_method.Goals as goal

pub returns : goal.returns
returns c = let a = c.args in
    let m = c.requires.held in
    let i = c.steps-steps.ensures ∙ m.steps in
    let p : length (prefix a.form (table_of a.words.all.now) a.k) ≡ c.steps-steps.result - 1 = omega (arith, i) in
    record { value = omega (arith, i, m.size); out_after = method_put m _ a.out.now _ _ a.at p c.put_word.ensures c.put_prefix.ensures }
