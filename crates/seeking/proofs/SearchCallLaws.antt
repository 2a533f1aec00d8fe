-- A search as a call: what its opening and its limits come to.
use Rattle.std.specs.Bool.{⊤}
use Rattle.std.proofs.Common.{Result}
use mathlib.Core.Path.{◌≡◌, refl, ap, sym, ◌∙◌}
use mathlib.Core.Bool.{Bool, true, false}
use mathlib.Core.List.{List}
use Prim.Native.Nat.{ℕ, ◌≤◌}
use borrow.Author.Tests.{eqb-true}
use lib.Dec.{eqb}
use Rattle.basics.specs.declared.Refusal.{Refusal}
use Rattle.basics.specs.Answers.{Answer, answer, check, after}
use Rattle.rules.specs.Limits.{most_limit, most_budget}
use Rattle.rules.specs.Tables.{Table}
use Rattle.rules.specs.Refusals.{Sought, passed, search_number, sought_in, room_for_plan, search_plan}
use Rattle.laws.proofs.AnswerLaws.{refused}
use Rattle.laws.proofs.RefusalLaws.{limits_held}
use Rattle.opening.specs.Openings.{Opens, opening_of, opened_after}
use Rattle.opening.proofs.OpeningLaws.{goes_on, opened_by}

module _ (l budget : ℕ) {early : Answer ⊤} (p : early ≡ passed (search_number l budget) (answer (tt {0}))) where
  -- Limits that passed are in their ranges.
  pub limits_passed : early ≡ answer (tt {0}) → (1 ≤ l) × (l ≤ most_limit) × (budget ≤ most_budget)
  limits_passed e = limits_held l budget (go (eqb (search_number l budget) 0) refl (sym p ∙ e))
    where
      go : (c : Bool) → eqb (search_number l budget) 0 ≡ c → check c (search_number l budget) 0 (answer (tt {0})) ≡ answer (tt {0}) → search_number l budget ≡ 0
      go true e x = eqb-true (search_number l budget) 0 e
      go false e x = refused (search_number l budget) 0 x

  -- What the call answers, from its opening on.
  module _ (b f : ℕ) (s : List ℕ) {K : Type 0} {r q : Result ⊤ Refusal} {w : List ℕ} (h : Opens (opened_after early (answer (tt {0})) b f s) K r w) (e : r ≡ q) where
    pub searches : (size : ℕ) → search_plan b f l budget s size ≡ after (opening_of q w) (λ t. after (sought_in b f t l budget) (room_for_plan size))
    unfolding search_plan
    searches size =
        let k : Table → Answer Sought = λ t. after (sought_in b f t l budget) (room_for_plan size) in
        sym (ap (λ (x : Answer Table). after x k) (opened_by s 0 refl (search_number l budget) p b f)) ∙ goes_on h e k
