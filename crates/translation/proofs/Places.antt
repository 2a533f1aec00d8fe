-- What is known of an operator that is emitted, and how large its numbers are.
use Prim.Native.Nat.{ℕ, zero, suc, ◌+◌, ◌*◌, ◌≤◌, ◌<◌}
use mathlib.Core.Path.{sym, subst}
use mathlib.Core.List.{List, [], ◌∷◌, map}
use native.Mathlib.Omega.{arith}
use lib.ListN.{length, get_or}
use lib.Seq.{get_or-drop}
use lib.Dec.{T}
use Rattle.rules.specs.Limits.{most_subtasks, most_cost}
use Rattle.rules.specs.Tables.{Table, fact_count, action_count, task_count, method_count, method}
use Rattle.rules.specs.Progression.{Step, act, mth, prefix, total_cost}
use Rattle.rules.specs.Operators.{Operator, company, joined, task_of, leaves, emitted}
use Rattle.laws.specs.Valid.{Valid}
use Rattle.laws.specs.Joins.{Within}
use Rattle.laws.specs.Steps.{step_at}
use Rattle.laws.proofs.TableLaws.{head_low}
use Rattle.laws.proofs.JoinSizes.{joined_low}
use Rattle.laws.proofs.StepNumbers.{step_action, step_method}
use Rattle.laws.proofs.StepSizes.{stay_length, leaves_few, cost_low}
use Rattle.theorems.proofs.Emission.{action_emitted, method_emitted}
use Rattle.theorems.proofs.Heights.{Known}

-- Its step is one of the table's, its position one of the bound's, and there is room for the tasks that it leaves.
pub record There (b f : ℕ) (t : Table) (o : Operator) : Type 0 where
  pub known : Known t o.what
  pub low : 1 ≤ o.at
  pub high : o.at ≤ b
  pub room : o.at + length (leaves f t o.what) ≤ b + 1

pub there : (b f : ℕ) (t : Table) (o : Operator) → T (emitted b f t o) → There b f t o
there b f t o h = go o.what o.at h
  where
    go : (x : Step) (i : ℕ) → T (emitted b f t (record { what = x; at = i })) → There b f t (record { what = x; at = i })
    go (act k) i h =
        let q = (action_emitted b f t k i).0 h in
        record { known = q.0; low = q.1; high = q.2; room = omega (arith, q.2) }
    go (mth k) i h =
        let q = (method_emitted b f t k i).0 h in
        record { known = q.0; low = q.2; high = q.3; room = omega (arith, q.4, stay_length f t k) }

-- A bound of a list's numbers that holds of the number given for those that are not there holds everywhere.
at_most : (n : ℕ) (l : List ℕ) → ((j : ℕ) → j < length l → get_or l j 0 ≤ n) → (d : ℕ) → d ≤ n → (j : ℕ) → get_or l j d ≤ n
at_most n [] h d p j = p
at_most n (x ∷ l) h d p zero = h 0 (omega arith)
at_most n (x ∷ l) h d p (suc j) = at_most n l (λ i q. h (suc i) (omega arith)) d p j

module _ (f : ℕ) (t : Table) (v : Valid t) where
  -- The task that a step takes off the stack, and those that it leaves there.
  pub task_low : (x : Step) → Known t x → task_of t x < task_count t
  task_low (act k) l = omega (arith, v.head.abstracts)
  task_low (mth k) l = head_low t v k l

  pub leaf_low : (x : Step) → Known t x → (d : ℕ) → d ≤ task_count t → (j : ℕ) → get_or (leaves f t x) j d ≤ task_count t
  leaf_low (act k) l d h j = h
  leaf_low (mth k) l d h j =
      let n = length (prefix f t k) in
      let subs = (method t k).subs in
      subst (λ (x : ℕ). x ≤ task_count t) (sym (get_or-drop n subs j d))
      (at_most (task_count t) subs (λ i q. omega (arith, (v.method k l).subs i q)) d h (n + j))

  -- The laws of steps by one number.
  by_known : (P : Step → Type 0) → ((i : ℕ) → i < action_count t + method_count t → P (step_at t i)) → (x : Step) → Known t x → P x
  by_known P h (act k) l = subst P (step_action t k l) (h k (omega arith))
  by_known P h (mth k) l = subst P (step_method t k) (h (action_count t + k) (omega arith))

  pub leaves_most : (x : Step) → Known t x → length (leaves f t x) ≤ most_subtasks
  leaves_most = by_known (λ x. length (leaves f t x) ≤ most_subtasks) (leaves_few f t v)

  pub cost_most : (x : Step) → Known t x → total_cost t (x ∷ map act (company f t x)) ≤ most_subtasks * most_cost
  cost_most = by_known (λ x. total_cost t (x ∷ map act (company f t x)) ≤ most_subtasks * most_cost) (cost_low f t v)

  pub sets_low : (x : Step) → Known t x → Within (fact_count t) (joined f t x)
  sets_low = by_known (λ x. Within (fact_count t) (joined f t x)) (λ i l. joined_low t v f i)
