-- The least bounds that are handed back, from bytes: form beside form, and beside a plan that the check accepts.
use Prim.Native.Nat.{ℕ, ◌≤◌}
use mathlib.Core.Path.{◌≡◌, refl, sym, ap, subst, transport, ◌∙◌}
use mathlib.Core.List.{List}
use native.Mathlib.Omega.{arith}
use Rattle.basics.specs.Answers.{Answer, answer, refusal, value_of, itself, after}
use Rattle.rules.specs.Tables.{Table}
use Rattle.rules.specs.LeastBounds.{least_bound}
use Rattle.rules.specs.Checks.{Tally}
use Rattle.rules.specs.Refusals.{table_read, check_plan, find_least}
use Rattle.laws.specs.Valid.{Valid}
use Rattle.laws.proofs.RefusalLaws.{form_is, read_valid}
use Rattle.theorems.specs.Demand.{GivenForm, Completes, steps_of_plan}
use Rattle.theorems.specs.Hints.{SameStacks, Compared, Reaches}
use Rattle.theorems.proofs.Demand3.{form_given, in_form}
use Rattle.theorems.proofs.Completion.{least_is, accepted_completes}
use Rattle.theorems.proofs.LeastForms.{compared, run_reaches, facts_ignored}

-- The least bounds of both forms, of any bytes: 0 and 0 where the table is refused.
pub hints_compared : (s : List ℕ) → Compared (value_of itself (find_least 0 s)) (value_of itself (find_least 1 s))
unfolding find_least
hints_compared s =
    transport (λ i. Compared (value_of itself (sym (read_first 0 (omega arith)) i)) (value_of itself (sym (read_first 1 (omega arith)) i)))
    (go (table_read 0 s) refl)
  where
    read_first : (f : ℕ) → f ≤ 1 → find_least f s ≡ after (table_read 0 s) (λ t. answer (least_bound f t))
    read_first f h = ap (λ (a : Answer Table). after a (λ t. answer (least_bound f t))) (form_is 0 0 f s h refl)

    good : (t : Table) → table_read 0 s ≡ answer t → Valid t
    good t e = read_valid s t (form_given 0 0 0 s t (form_is 0 0 0 s (omega arith) refl ∙ e)).0.reads

    go : (a : Answer Table) → table_read 0 s ≡ a
        → Compared (value_of itself (after a (λ t. answer (least_bound 0 t)))) (value_of itself (after a (λ t. answer (least_bound 1 t))))
    go (answer t) e = compared 1 t (good t e)
    go (refusal number place) e =
        record { there = λ h. h; below = λ h. omega arith; near = λ h k. omega arith; back = λ h l. h }

-- Tables that differ in facts alone, or in what their actions need, change and cost, have the same.
pub facts_unseen : (f : ℕ) (s s' : List ℕ) (t u : Table) → GivenForm f s t → GivenForm f s' u → SameStacks t u → find_least f s ≡ find_least f s'
facts_unseen f s s' t u g h e = least_is f s t g ∙ ap answer (facts_ignored f t u e) ∙ sym (least_is f s' u h)

module _ (b f : ℕ) (s plan : List ℕ) where
  pub completes_reaches : Completes b f s plan → Reaches b (value_of itself (find_least f s))
  completes_reaches q =
      subst (Reaches b) (sym (ap (value_of itself) (least_is f s q.table (in_form q.given))))
      (run_reaches b f q.table (read_valid s q.table q.given.reads) q.given.high (steps_of_plan q) q.run)

  pub accepted_reaches : (y : Tally) → check_plan b f s plan ≡ answer y → Reaches b (value_of itself (find_least f s))
  accepted_reaches y e = completes_reaches (accepted_completes b f s plan y e)
