use Rattle.std.proofs.Common.{rules}
use mathlib.Core.Path.{◌≡◌, refl, sym, subst, ◌∙◌}
use Prim.Native.Nat.{ℕ, ◌+◌, ◌*◌}
use native.Mathlib.Omega.{arith}
use Rattle.basics.specs.Lists.{rows}
use Rattle.basics.specs.Readings.{got, many}
use Rattle.rules.specs.Tables.{read_method}
use Rattle.words.specs.Words.{method_of, per_method, first_method}
use Rattle.laws.proofs.ReadingLaws.{many_bad, turn}
use Rattle.methods.proofs.MethodLaws.{method_kept}
use Rattle.laws.proofs.StoreLaws.{kept_less}
use Rattle.methods.proofs.read_methods.Goals as goal

pub loop-k-init : goal.loop-k-init
unfolding many rows
loop-k-init c = (refl, refl, refl)

pub returns-in_err-p : goal.returns-in_err-p
returns-in_err-p c =
    let a = c.args in
    let l = c.loop-k in
    let m = c.read_method in
    let e = many_bad (read_method a.s.now a.lo a.hi) a.at a.n l.k c.loop-k-test.true l.invariant.2 (sym c.in_err-p.ensures.0) in (
      search (rules, e),
      kept_less l.words m.new.words first_method (first_method + per_method * l.k) (omega arith) m.ensures.1 ∙ l.invariant.1,
    )

pub loop-k-preserved : goal.loop-k-preserved
loop-k-preserved c =
    let a = c.args in
    let l = c.loop-k in
    let m = c.read_method in
    let w = m.new.words in (
      m.auto.words ∙ l.invariant.0,
      kept_less l.words w first_method (first_method + per_method * l.k) (omega arith) m.ensures.1 ∙ l.invariant.1,
      turn method_of (read_method a.s.now a.lo a.hi) a.at l.words w l.k l.invariant.2
          (sym c.in_ok-p.ensures.0)
          (method_kept a.s.now a.lo a.hi a.at l.words w l.k l.invariant.2 m.ensures.1),
    )

pub returns : goal.returns
returns c =
    let a = c.args in
    let l = c.loop-k in
    let e : l.k ≡ a.n = omega arith in (
      sym (subst (λ (m : ℕ). many (read_method a.s.now a.lo a.hi) m a.at ≡ got (rows (method_of l.words) m) l.p) e l.invariant.2),
      l.invariant.1,
    )
