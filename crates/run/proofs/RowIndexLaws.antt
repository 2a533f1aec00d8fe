-- The row of an operator: what it says of the table.
use mathlib.Core.Path.{◌≡◌, sym, ap, ◌∙◌}
use mathlib.Core.Bool.{cond}
use mathlib.Core.List.{List}
use Prim.Native.Nat.{ℕ, ◌+◌, ◌-◌, ◌<◌}
use native.Mathlib.Omega.{arith}
use borrow.Author.Tests.{ltb-true, lt-ltb, le-ltb}
use lib.Dec.{ltb}
use Rattle.std.specs.Prelude.{Some, None}
use Rattle.std.proofs.lemmas.Option.{cond_some, none-some}
use Rattle.rules.specs.Tables.{Table, action_count, method_count}
use Rattle.rules.specs.Progression.{Step, mth}
use Rattle.rules.specs.declared.Kind.{Kind}
use Rattle.rules.specs.declared.Kind.TheVariants.{Action, Method}
use Rattle.laws.specs.Steps.{step_of}
use Rattle.rows.specs.Rows.{row_of, row_at, Prepared}
use Rattle.run.specs.Steps.{Known}
use Rattle.run.specs.Ready.{row_index, RowOf}

-- The row that is found is that of an operator the table has.
pub record RowFound (b f : ℕ) (t : Table) (ops cells : List ℕ) (x : Step) (i : ℕ) : Type 0 where
  pub known : Known t x
  pub row : row_at ops cells i ≡ row_of b f t x
  pub its : RowOf t x i

module _ {f : ℕ} {t : Table} {b : ℕ} {ops cells : List ℕ} (p : Prepared b f t ops cells) (k : ℕ) where
  pub row_found : (kind : Kind) {i : ℕ} → row_index kind k (action_count t) (method_count t) ≡ Some i → RowFound b f t ops cells (step_of kind k) i
  row_found Action h =
      let found = cond_some (ltb k (action_count t)) k _ h in
      let l : k < action_count t = ltb-true _ _ found.0 in
      rw (← found.1) (record { known = l; row = p.actions k l; its = record { low = omega arith; step = rw found.0 } })
  row_found Method h =
      let found = cond_some (ltb k (method_count t)) (action_count t + k) _ h in
      let l : k < method_count t = ltb-true _ _ found.0 in
      let o : action_count t + k - action_count t ≡ k = omega arith in
      rw (← found.1) (record {
        known = l;
        row = p.methods k l;
        its = record { low = omega arith; step = rw (le-ltb (action_count t + k) (action_count t) (omega arith)) (ap mth o) };
      })

-- Where none is found the table has no such action or method.
none_known : (a k i : ℕ) → cond (ltb k a) (Some i) None ≡ None → k < a → ⊥
none_known a k i h l = none-some i (sym h ∙ rw (lt-ltb k a l))

pub row_missing : (t : Table) (kind : Kind) (k : ℕ) → row_index kind k (action_count t) (method_count t) ≡ None → Known t (step_of kind k) → ⊥
row_missing t Action k h = none_known (action_count t) k k h
row_missing t Method k h = none_known (method_count t) k (action_count t + k) h
