use Prim.Native.Nat.{ℕ}
use mathlib.Core.Path.{sym, ap, ◌∙◌}
use mathlib.Core.List.{[], ◌∷◌}
use native.Mathlib.Omega.{arith}
use Rattle.text.proofs.AppendLaws.{appends_is}
use Rattle.template.proofs.FigureLaws.{figure_one, figure_two, figure_three}
use Rattle.template.proofs.fill_figure.Goals as goal

pub returns-then-n-lt10 : goal.returns-then-n-lt10
returns-then-n-lt10 c =
    let n = c.args.n in
    let put = c.put_four.ensures in
    record { appends = appends_is (figure_one n (omega arith) ∙ ap (λ (k : ℕ). k ∷ 0 ∷ 0 ∷ 1 ∷ []) (sym c.ascii.ensures)) put.appends; value = put.value }

pub returns-then-n-lt100 : goal.returns-then-n-lt100
returns-then-n-lt100 c =
    let n = c.args.n in
    let put = c.put_four-then-n-lt100.ensures in
    record { appends = appends_is (figure_two n (omega arith) (omega arith) ∙ rw (sym c.ascii-then-n-lt100.ensures, sym c.ascii-then-n-lt100-2.ensures)) put.appends; value = put.value }

pub returns : goal.returns
returns c =
    let n = c.args.n in
    let put = c.put_four-2.ensures in
    record { appends = appends_is (figure_three n (omega arith) ∙ rw (sym c.ascii-hundreds.ensures, sym c.ascii-tens.ensures, sym c.ascii-2.ensures)) put.appends; value = put.value }
