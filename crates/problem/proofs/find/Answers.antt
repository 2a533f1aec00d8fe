use mathlib.Core.Path.{◌≡◌, ap, subst}
use Prim.Native.Nat.{ℕ, ◌+◌, ◌-◌, ◌*◌}
use native.Mathlib.Omega.{arith}
use Rattle.rules.specs.Tables.{action_count}
use Rattle.words.specs.Words.{table_of}
use Rattle.problem.specs.Places.{IsFound}
use Rattle.problem.proofs.PlaceLaws.{action_place}
use Rattle.problem.proofs.find.Goals as goal

pub returns-then-n-actions : goal.returns-then-n-actions
returns-then-n-actions c =
    let a = c.args in
    action_place a.bound a.form (table_of a.words.all.now) a.n c.requires.1
    (omega (arith, ap (λ (m : ℕ). m * a.bound) c.action_count.ensures, c.if-n-actions.true))

pub returns : goal.returns
returns c =
    let a = c.args in
    let t = table_of a.words.all.now in
    let m = c.action_count in
    let e : action_count t * a.bound + (a.n - m.result * a.bound) ≡ a.n =
    omega (arith, ap (λ (i : ℕ). i * a.bound) m.ensures, c.if-n-actions.false) in
    subst (λ (i : ℕ). IsFound a.bound a.form t i c.method_at.result) e c.method_at.ensures
