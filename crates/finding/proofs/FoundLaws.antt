-- From what the search came to, to what is written.
use Prim.Native.Nat.{ℕ, ◌+◌, ◌≤◌}
use mathlib.Core.Path.{◌≡◌, refl, sym, ap, subst, ◌∙◌}
use mathlib.Core.List.{List}
use native.Mathlib.Omega.{arith}
use lib.ListN.{length}
use lib.Seq.{sets, length-sets}
use Rattle.basics.specs.Answers.{Answer, answer, refusal, value_of}
use Rattle.rules.specs.Refusals.{Sought, plan_text, plan_bytes, text_found, written}
use Rattle.rules.specs.Programs.{bound_in, form_in, limit_in, budget_in, refused_line, told, find_input, find_output}
use Rattle.laws.proofs.AnswerLaws.{refused}
use Rattle.laws.proofs.RefusalLaws.{stores_written}
use Rattle.sought.specs.Findings.{most_found_bytes}
use Rattle.sought.proofs.SearchAnswers.{search_is_find, search_answer}
use Rattle.replies.specs.Findings.{Figures, figures}
use Rattle.text.specs.Appends.{Appends}
use Rattle.text.proofs.AppendLaws.{appends_is, appends_sets}

-- There is room for the text of every plan found.
found_fits : (s : List ℕ) (y : Sought) → find_input s ≡ answer y → plan_bytes y ≤ most_found_bytes
unfolding find_input
found_fits s y e =
    let same = search_is_find (bound_in s) (form_in s) (limit_in s) (budget_in s) _ most_found_bytes (omega arith) in
    ((search_answer (bound_in s) (form_in s) (limit_in s) (budget_in s) _ most_found_bytes y).0 (same ∙ e)).1

module _ (s old new : List ℕ) (w : new ≡ written old 0 (text_found (find_input s))) where
  pub plan_put : (y : Figures) → most_found_bytes ≤ length old → answer y ≡ figures (find_input s)
      → Appends old 0 (find_output s) new y.bytes × (y.bytes ≤ most_found_bytes)
  unfolding find_output
  plan_put y h e = go (find_input s) refl e w
    where
      go : (a : Answer Sought) → find_input s ≡ a → answer y ≡ figures a → new ≡ written old 0 (text_found a)
          → Appends old 0 (told plan_text a) new y.bytes × (y.bytes ≤ most_found_bytes)
      go (refusal number place) p e w = refused number place (sym e)
      go (answer z) p e w =
          let k : y.bytes ≡ plan_bytes z = ap (value_of (λ (x : Figures). x.bytes)) e in
          let end : 0 + plan_bytes z ≡ y.bytes = omega (arith, k) in
          let fits = found_fits s z p in
          let put : new ≡ sets old 0 (plan_text z) = w ∙ sym (stores_written old (plan_text z) 0 (omega (arith, fits, h))) in
          let whole = appends_sets old (plan_text z) new 0 (omega (arith, fits, h)) put (ap length put ∙ length-sets old 0 (plan_text z)) in
          (subst (Appends old 0 (plan_text z) new) end whole, omega (arith, fits, k))

  -- A refusal leaves the bytes as they were, and its line is then put there.
  pub refusal_put : {number place : ℕ} {line : List ℕ} {r : ℕ} → refusal number place ≡ figures (find_input s)
      → Appends new 0 (refused_line number place) line r
      → Appends old 0 (find_output s) line r
  unfolding find_output written
  refusal_put {number} {place} {line} {r} e v = go (find_input s) e w
    where
      go : (a : Answer Sought) → refusal number place ≡ figures a → new ≡ written old 0 (text_found a) → Appends old 0 (told plan_text a) line r
      go (answer z) e w = refused number place e
      go (refusal n p) e w =
          subst (λ (l : List ℕ). Appends l 0 (told plan_text (refusal n p)) line r) w
          (appends_is (cc e) v)
