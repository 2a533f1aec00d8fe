use mathlib.Core.Path.{◌≡◌, sym, ap, ◌∙◌}
use Prim.Native.Nat.{ℕ, ◌+◌, ◌*◌}
use native.Mathlib.Omega.{arith}
use native.Mathlib.Nat.{add-zero}
use Rattle.basics.specs.Lists.{sum_to}
use Rattle.rules.specs.Tables.{action_count, method_count}
use Rattle.rules.specs.Progression.{mth}
use Rattle.rules.specs.Operators.{positions}
use Rattle.words.specs.Words.{table_of}
use Rattle.laws.proofs.ListLaws.{sum_more}
use Rattle.laws.proofs.CountLaws.{few_operators, operators_length}
use Rattle.operators.proofs.operator_count.Goals as goal

pub loop-k-init : goal.loop-k-init
unfolding sum_to
loop-k-init c =
    let a = c.args in (
      omega arith,
      ap (λ (n : ℕ). n * a.bound) c.action_count.ensures ∙ sym (add-zero _),
    )

pub overflow_add-count : goal.overflow_add-count
overflow_add-count c =
    let l = c.loop-k in
    let t = table_of c.args.words.all.now in
    omega (
      arith,
      c.method_positions-count.ensures,
      sum_more (λ i. positions c.args.bound c.args.form t (mth i)) l.k,
      few_operators c.args.bound c.args.form t (l.k + 1) c.args.words.held.valid c.requires (omega arith),
    )

pub loop-k-preserved : goal.loop-k-preserved
loop-k-preserved c =
    let a = c.args in
    let l = c.loop-k in (
      omega arith,
      omega (arith, c.method_positions-count.ensures, sum_more (λ i. positions a.bound a.form (table_of a.words.all.now) (mth i)) l.k),
    )

pub returns : goal.returns
returns c =
    let a = c.args in
    let l = c.loop-k in
    let t = table_of a.words.all.now in
    let e : l.k ≡ method_count t = omega (arith, c.method_count-k-end.ensures) in
    l.invariant.1
    ∙ ap (λ (n : ℕ). action_count t * a.bound + sum_to (λ i. positions a.bound a.form t (mth i)) n) e
    ∙ sym (operators_length a.bound a.form t)
