use Rattle.std.proofs.Common.{rules}
use mathlib.Core.Path.{◌≡◌, refl, ap, sym, subst, ◌∙◌}
use Prim.Native.Nat.{ℕ, ◌+◌, ◌*◌}
use native.Mathlib.Omega.{arith}
use Rattle.basics.specs.Lists.{rows}
use Rattle.basics.specs.Readings.{got, many}
use Rattle.rules.specs.Tables.{Action, read_action}
use Rattle.words.specs.Words.{action_of, header_words, per_action}
use Rattle.laws.proofs.ReadingLaws.{many_bad, turn}
use Rattle.laws.proofs.StoreLaws.{kept_less}
use Rattle.table.proofs.WordLaws.{action_kept}
use Rattle.table.proofs.read_actions.Goals as goal

pub loop-k-init : goal.loop-k-init
unfolding many rows
loop-k-init c = (refl, refl, refl)

pub returns-in_err-action : goal.returns-in_err-action
returns-in_err-action c =
    let a = c.args in
    let l = c.loop-k in
    let e = many_bad (read_action a.s.now a.top) a.at a.n l.k c.loop-k-test.true l.invariant.2 (sym c.in_err-action.ensures) in
    (search (rules, e), l.invariant.1)

pub loop-k-preserved : goal.loop-k-preserved
loop-k-preserved c =
    let a = c.args in
    let l = c.loop-k in
    let put = c.put_action in
    let w = put.new.words in (
      put.auto.words ∙ l.invariant.0,
      kept_less l.words w header_words (header_words + per_action * l.k) (omega arith) put.ensures.0 ∙ l.invariant.1,
      turn action_of (read_action a.s.now a.top) a.at l.words w l.k l.invariant.2
          (sym c.in_ok-action.ensures ∙ ap (λ (x : Action). got x c.in_ok-action.next) (sym put.ensures.1))
          (action_kept l.words w l.k put.ensures.0),
    )

pub returns : goal.returns
returns c =
    let a = c.args in
    let l = c.loop-k in
    let e : l.k ≡ a.n = omega arith in (
      sym (subst (λ (m : ℕ). many (read_action a.s.now a.top) m a.at ≡ got (rows (action_of l.words) m) l.p) e l.invariant.2),
      l.invariant.1,
    )
