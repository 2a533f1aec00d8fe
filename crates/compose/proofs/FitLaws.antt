-- Prepared rows: their lines are the operators' texts, and they keep to what composing asks.
use mathlib.Core.Path.{◌≡◌, sym, ap, subst}
use mathlib.Core.List.{List}
use Prim.Native.Nat.{ℕ, suc, ◌+◌, ◌≤◌, ◌<◌}
use native.Mathlib.Omega.{arith}
use lib.ListN.{length, get_or, length-drop}
use lib.Seq.{get_or-drop}
use Rattle.basics.specs.Texts.{ThreeDigits}
use Rattle.rules.specs.Limits.{most_subtasks}
use Rattle.rules.specs.Tables.{Table, action_count, method_count, fact_count, task_count, method}
use Rattle.rules.specs.Progression.{Step, prefix}
use Rattle.rules.specs.Operators.{task_of, leaves}
use Rattle.rules.specs.Problems.{name_of, oper_at, oper_of}
use Rattle.laws.specs.Valid.{Valid}
use Rattle.laws.specs.Steps.{step_at, operator_text}
use Rattle.laws.proofs.JoinSizes.{joined_low}
use Rattle.laws.proofs.StepNumbers.{by_step}
use Rattle.laws.proofs.StepSizes.{leaves_few}
use Rattle.rows.specs.Rows.{Row, row_at, row_of, RowsFit}
use Rattle.compose.specs.RowTexts.{row_text, Small, Fit}

pub row_text_lem : (b f : ℕ) (t : Table) (x : Step) (ops cells : List ℕ) (p : ℕ) → row_at ops cells 0 ≡ row_of b f t x
    → row_text (fact_count t) (task_count t) (name_of x) (row_at ops cells 0) p ≡ operator_text f t (record { what = x; at = suc p })
unfolding oper_of oper_at
row_text_lem b f t x ops cells p e = ap (λ (r : Row). row_text (fact_count t) (task_count t) (name_of x) r p) e

-- The task of a step and those that it leaves are tasks of the table.
module _ (f : ℕ) (t : Table) (v : Valid t) (i : ℕ) (l : i < action_count t + method_count t) where
  task_low : ThreeDigits (task_of t (step_at t i))
  task_low =
      by_step t (λ _ x. ThreeDigits (task_of t x)) i l
      (λ k h. omega (arith, v.head.actions))
      (λ k h. omega (arith, v.head.tasks, v.head.actions, v.head.abstracts, (v.method k h).high))

  left_low : (m : ℕ) → m < length (leaves f t (step_at t i)) → ThreeDigits (get_or (leaves f t (step_at t i)) m 0)
  left_low =
      by_step t (λ _ x. (m : ℕ) → m < length (leaves f t x) → ThreeDigits (get_or (leaves f t x) m 0)) i l
      (λ k h m u. absurd (omega arith))
      (λ k h m u.
      let p = length (prefix f t k) in
      let w : p + m < length (method t k).subs = omega (arith, u, length-drop p (method t k).subs) in
      rw (get_or-drop p (method t k).subs m 0) (omega (arith, v.head.tasks, v.head.actions, v.head.abstracts, (v.method k h).subs (p + m) w)))

pub row_fit : (b f : ℕ) (t : Table) (i k : ℕ) (ops cells : List ℕ) → Valid t → i < action_count t + method_count t → ThreeDigits k
    → row_at ops cells 0 ≡ row_of b f t (step_at t i) → RowsFit 1 ops cells → Fit (fact_count t) (task_count t) k ops cells
row_fit b f t i k ops cells v l h e fits =
    let low = joined_low t v f i in
    let small : Small (fact_count t) (row_of b f t (step_at t i)) = record { needs = low.needs; adds = low.adds; dels = low.dels; task = task_low f t v i l } in
    let rest : leaves f t (step_at t i) ≡ (row_at ops cells 0).rest = λ j. (sym e j).rest in
    record {
      facts = v.head.facts;
      none = omega (arith, v.head.tasks, v.head.actions);
      number = h;
      row = subst (Small (fact_count t)) (sym e) small;
      left = record {
        held = record { fits = fits; few = subst (λ (xs : List ℕ). length xs ≤ most_subtasks) rest (leaves_few f t v i l) };
        low = subst (λ (xs : List ℕ). (m : ℕ) → m < length xs → ThreeDigits (get_or xs m 0)) rest (left_low f t v i l);
      };
    }
