use Prim.Native.Nat.{ℕ}
use mathlib.Core.Path.{◌≡◌, refl, ap, ◌∙◌}
use native.Mathlib.Omega.{arith}
use lib.ListN.{take}
use Rattle.template.specs.Sizes.{figure_count, figure_bytes}
use Rattle.basics.specs.Lists.{upto}
use Rattle.laws.proofs.TextLaws.{upto_more}
use Rattle.text.proofs.AppendLaws.{appends_none, appends_is, ◌▸◌}
use Rattle.template.specs.Figures.{Figures, figure}
use Rattle.template.proofs.fill_figures.Goals as goal

pub loop-n-init : goal.loop-n-init
unfolding upto
loop-n-init c = (omega arith, refl, appends_none _ _)

pub loop-n-preserved : goal.loop-n-preserved
loop-n-preserved c =
    let put = c.fill_figure-at.ensures in
    let l = c.loop-n in
    (omega arith, omega (arith, put.value, l.invariant.1), appends_is (upto_more figure l.n) (l.invariant.2 ▸ put.appends))

pub returns : goal.returns
unfolding Figures
returns c =
    let l = c.loop-n in
    let n : l.n ≡ figure_count = omega arith in
    let a : figure_bytes ≡ l.at = omega (arith, l.invariant.1) in
    ap (λ (k : ℕ). take k l.figures) a ∙ l.invariant.2.text ∙ ap (upto figure) n
