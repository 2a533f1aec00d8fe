use mathlib.Core.Path.{sym, subst}
use Prim.Native.Nat.{ℕ, ◌+◌, ◌*◌}
use native.Mathlib.Omega.{arith}
use Rattle.basics.specs.Lists.{sum_to}
use Rattle.rules.specs.Tables.{action_count}
use Rattle.rules.specs.Progression.{mth}
use Rattle.rules.specs.Operators.{positions}
use Rattle.laws.proofs.ListLaws.{sum_more}
use Rattle.words.specs.Words.{table_of}
use Rattle.problem.specs.Places.{IsPlace}
use Rattle.problem.proofs.PlaceLaws.{method_place, past_all}
use Rattle.problem.proofs.method_at.Goals as goal

pub loop-k-init : goal.loop-k-init
unfolding sum_to
loop-k-init c = (c.action_count-first.ensures, omega arith, omega arith)

pub returns-then-left-count : goal.returns-then-left-count
returns-then-left-count c =
    let a = c.args in
    let l = c.loop-k in
    let t = table_of a.words.all.now in
    subst (λ (m : ℕ). IsPlace a.bound a.form t (action_count t * a.bound + a.n) (m + l.k) l.left) (sym l.invariant.0)
    (method_place a.bound a.form t a.n l.k l.left (omega (arith, c.method_count-k-end.ensures, c.loop-k-test.true)) (omega (arith, c.method_positions-count.ensures)) l.invariant.2)

pub loop-k-preserved : goal.loop-k-preserved
loop-k-preserved c =
    let a = c.args in
    let l = c.loop-k in (
      l.invariant.0,
      omega arith,
      omega (arith, c.method_positions-count.ensures, sum_more (λ j. positions a.bound a.form (table_of a.words.all.now) (mth j)) l.k),
    )

pub returns : goal.returns
returns c =
    let a = c.args in
    let l = c.loop-k in
    past_all a.bound a.form (table_of a.words.all.now) a.n l.k l.left (omega (arith, c.method_count-k-end.ensures, l.invariant.1)) l.invariant.2
