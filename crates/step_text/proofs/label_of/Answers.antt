use mathlib.Core.Path.{sym, ap, ◌∙◌}
use Prim.Native.Nat.{ℕ, ◌-◌}
use native.Mathlib.Omega.{arith}
use Rattle.rules.specs.Progression.{mth}
use Rattle.rules.specs.Problems.{name_of}
use Rattle.laws.proofs.StepNumbers.{step_action, step_past}
use Rattle.words.specs.Words.{table_of}
use Rattle.step_text.proofs.label_of.Goals as goal

pub returns-then-i-actions : goal.returns-then-i-actions
returns-then-i-actions c =
    let a = c.args in
    let step = step_action (table_of a.words.all.now) a.i (omega (arith, c.action_count-actions.ensures, c.if-i-actions.true)) in
    record { text = sym (ap name_of step); low = omega arith }

pub returns : goal.returns
returns c =
    let a = c.args in
    let n = c.action_count-actions.ensures in
    let step = step_past (table_of a.words.all.now) a.i (omega (arith, n, c.if-i-actions.false)) ∙ ap (λ (n : ℕ). mth (a.i - n)) (sym n) in
    record { text = sym (ap name_of step); low = omega arith }
