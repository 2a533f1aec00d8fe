-- What the prefix of a method costs, a subtask at a time.
use mathlib.Core.Path.{◌≡◌, sym, ap, ◌∙◌}
use mathlib.Core.List.{List, [], ◌∷◌, map}
use Prim.Native.Nat.{ℕ, zero, suc, ◌+◌, ◌*◌, ◌≤◌, ◌<◌}
use native.Mathlib.Numerals.{add-one}
use native.Mathlib.Omega.{arith}
use lib.Dec.{ltb→lt}
use lib.ListN.{length, get_or, drop, get_or-append}
use lib.Seq.{drop-cons}
use Rattle.rules.specs.Limits.{most_subtasks, most_cost}
use Rattle.rules.specs.Tables.{Table, action_count, method_count, action, method}
use Rattle.rules.specs.Progression.{act, prefix, stays, total_cost}
use Rattle.laws.specs.Valid.{Valid}
use Rattle.laws.proofs.JoinedPrefix.{Below, prefix_whole, prefix_below}
use Rattle.laws.proofs.CountLaws.{prefix_short}

below_at : (a : ℕ) (ks : List ℕ) → Below a ks → (j : ℕ) → j < length ks → get_or ks j 0 < a
below_at a [] b j l = absurd (omega arith)
below_at a (k ∷ ks) b zero l = ltb→lt k a b.0
below_at a (k ∷ ks) b (suc j) l = below_at a ks b.1 j (omega arith)

cost_most : (t : Table) → Valid t → (ks : List ℕ) → Below (action_count t) ks → total_cost t (map act ks) ≤ most_cost * length ks
cost_most t v [] b = omega arith
cost_most t v (k ∷ ks) b = omega (arith, cost_most t v ks b.1, (v.action k (below_at (action_count t) (k ∷ ks) b 0 (omega arith))).cost)

module _ (f : ℕ) (t : Table) (k : ℕ) (j : ℕ) (l : j < length (prefix f t k)) where
  pub prefix_at : get_or (method t k).subs j 0 ≡ get_or (prefix f t k) j 0
  prefix_at = ap (λ (xs : List ℕ). get_or xs j 0) (sym (prefix_whole f t k)) ∙ get_or-append (prefix f t k) (stays f t k) 0 j l

  pub prefix_action : get_or (method t k).subs j 0 < action_count t
  prefix_action = omega (arith, prefix_at, below_at (action_count t) (prefix f t k) (prefix_below f t k) j l)

  pub cost_more : total_cost t (map act (drop j (prefix f t k))) ≡ (action t (get_or (method t k).subs j 0)).cost + total_cost t (map act (drop (j + 1) (prefix f t k)))
  cost_more =
      ap (λ (xs : List ℕ). total_cost t (map act xs)) (drop-cons (prefix f t k) j 0 l)
      ∙ (λ i. (action t (sym prefix_at i)).cost + total_cost t (map act (drop (sym (add-one j) i) (prefix f t k))))

-- At most eight actions of 65,535 each.
pub prefix_cheap : (f : ℕ) (t : Table) (k : ℕ) → Valid t → k < method_count t → total_cost t (map act (prefix f t k)) ≤ most_subtasks * most_cost
prefix_cheap f t k v l = omega (arith, cost_most t v (prefix f t k) (prefix_below f t k), prefix_short f t k, (v.method k l).count)
