-- What the definitions' numbers say.
use Prim.Native.Nat.{ℕ, ◌+◌, ◌≤◌}
use mathlib.Core.Path.{◌≡◌, refl, ap, subst, ◌∙◌}
use mathlib.Core.Logic.{◌⊎◌, inl, inr}
use mathlib.Core.List.{List, ◌++◌}
use native.Mathlib.Omega.{arith}
use lib.ListN.{length, drop}
use Rattle.basics.specs.Answers.{Answer, answer, refusal, number_of, place_of, value_of, itself}
use Rattle.rules.specs.Reasons.{no_room}
use Rattle.rules.specs.Checks.{cost_of, operators_in, steps_in}
use Rattle.rules.specs.Refusals.{count_sections, one_section, check_plan, expand_plan, find_least, Sought, plan_text, plan_bytes, search_plan, text_found, written}
use Rattle.theorems.proofs.Demand3.{solves, expansion, expansion_length}
use Rattle.theorems.proofs.RefusalNumbers.{handed, no_value, count_numbers, section_numbers_lem, check_numbers_lem, expand_numbers_lem, least_numbers_lem}
use Rattle.theorems.proofs.Completion.{counted, count_zero, section_is, section_zero, least_zero, least_least, completes_accepted, check_zero, expand_zero}
use Rattle.theorems.specs.Numbers.{PlaceOf}
use Rattle.theorems.specs.Hints.{Reaches}
use Rattle.theorems.proofs.HintLaws.{completes_reaches, accepted_reaches}
use Rattle.sought.specs.Outcomes.{Finds, FindsNone, ShortPlan}
use Rattle.sought.proofs.SearchAnswers.{search_answer, search_says}
use Rattle.results.specs.Calls.{SectionsCalls, SectionCalls, LeastCalls, CheckCalls, ExpandCalls, SearchWrites}

module _ (b f : ℕ) (s : List ℕ) where
  pub sections_say :
      let a = count_sections b f s in
      SectionsCalls b f s (number_of a) (place_of a) (value_of itself a)
  sections_say =
      record {
        zero = count_zero b f s;
        counted = λ t g. ap (value_of itself) (counted b f s t g);
        refusal = handed (count_sections b f s) (count_numbers b f s);
        nothing = no_value itself (count_sections b f s);
      }

  pub section_says : (k all at : ℕ)
      → let a = one_section b f s k all at in
      SectionCalls b f s k all at (number_of a) (place_of a) (value_of length a)
  section_says k all at =
      record {
        zero = section_zero b f s k all at;
        size = λ q. ap (value_of length) (section_is b f s k all at q);
        refusal = handed (one_section b f s k all at) (section_numbers_lem b f s k all at);
        nothing = no_value length (one_section b f s k all at);
      }

pub least_says : (f : ℕ) (s : List ℕ)
    → let a = find_least f s in
    LeastCalls f s (number_of a) (place_of a) (value_of itself a)
least_says f s =
    record {
      zero = least_zero f s;
      least = least_least f s;
      refusal = handed (find_least f s) (least_numbers_lem f s);
      nothing = no_value itself (find_least f s);
    }

module _ (b f : ℕ) (s plan : List ℕ) where
  pub check_says :
      let a = check_plan b f s plan in
      CheckCalls b f s plan (number_of a) (place_of a) (value_of cost_of a) (value_of operators_in a) (value_of steps_in a)
  check_says =
      record {
        zero = check_zero b f s plan;
        accepted =
            λ q. let e = completes_accepted b f s plan q in
            record {
              shape = q.shape;
              heights = q.heights;
              run = q.run;
              cost = ap (value_of cost_of) e;
              operators = ap (value_of operators_in) e;
              steps = ap (value_of steps_in) e;
            };
        solution = λ q. (solves q.given plan q.size _ _ _ (completes_accepted b f s plan q)).0;
        priced =
            λ q. let e = completes_accepted b f s plan q in
            ap (value_of cost_of) e ∙ (solves q.given plan q.size _ _ _ e).1;
        refusal = handed (check_plan b f s plan) (check_numbers_lem b f s plan);
        nothing = (no_value cost_of (check_plan b f s plan), no_value operators_in (check_plan b f s plan), no_value steps_in (check_plan b f s plan));
      }

  pub expand_says : (all : ℕ)
      → let a = expand_plan b f s plan all in
      ExpandCalls b f s plan all (number_of a) (place_of a) (value_of length a)
  expand_says all =
      record {
        zero = expand_zero b f s plan all;
        size =
            λ q h. let e = completes_accepted b f s plan q in
            ap (value_of length) (expansion q.given plan q.size _ _ _ e all h) ∙ expansion_length q.given plan q.size _ _ _ e;
        refusal = handed (expand_plan b f s plan all) (expand_numbers_lem b f s plan all);
        nothing = no_value length (expand_plan b f s plan all);
      }

-- Where a plan is accepted, or found, its form has a least bound, and the plan's is not below it.
pub check_reaches : (b f : ℕ) (s plan : List ℕ) → number_of (check_plan b f s plan) ≡ 0 → Reaches b (value_of itself (find_least f s))
check_reaches b f s plan e = completes_reaches b f s plan ((check_zero b f s plan).0 e)

-- It is found where the search has a result, and also where only the room for its text is too little.
module _ (b f l budget : ℕ) (s : List ℕ) (room : ℕ) where
  finds_reaches : (y : Sought) → Finds b f l budget s y → Reaches b (value_of itself (find_least f s))
  finds_reaches y q = accepted_reaches b f s (plan_text y) _ ((search_says b f l budget s room).accepted y q)

  pub search_reaches : let n = number_of (search_plan b f l budget s room) in (n ≡ 0) ⊎ (n ≡ no_room) → Reaches b (value_of itself (find_least f s))
  search_reaches (inl e) = let q = (search_says b f l budget s room).zero.0 e in finds_reaches q.0 q.1
  search_reaches (inr e) =
      let place = place_of (search_plan b f l budget s room) in
      let h = ((search_says b f l budget s room).refusal.refused (λ z. omega (arith, e, z))).placed in
      let q : ShortPlan b f l budget s room place = subst (λ (n : ℕ). PlaceOf (length s) 0 (ShortPlan b f l budget s room) (FindsNone b f l budget s) n place) e h in
      finds_reaches q.plan q.finds

module _ (b f l budget : ℕ) (s old : List ℕ) where
  pub search_wrote :
      let a = search_plan b f l budget s (length old) in
      SearchWrites b f l budget s old (written old 0 (text_found a)) (value_of plan_bytes a)
  unfolding written
  search_wrote =
      record {
        text = λ y q h.
            let e = (search_answer b f l budget s (length old) y).1 (q, h) in
            let z : 0 + plan_bytes y ≡ plan_bytes y = omega arith in
            (ap (λ (a : Answer Sought). written old 0 (text_found a)) e ∙ (λ i. plan_text y ++ drop (z i) old), ap (value_of plan_bytes) e);
        nothing = go (search_plan b f l budget s (length old)) refl;
      }
    where
      go : (a : Answer Sought) → search_plan b f l budget s (length old) ≡ a → ((y : Sought) → Finds b f l budget s y → plan_bytes y ≤ length old → ⊥)
          → (written old 0 (text_found a) ≡ old) × (value_of plan_bytes a ≡ 0)
      go (answer y) e n = let q = (search_answer b f l budget s (length old) y).0 e in absurd (n y q.0 q.1)
      go (refusal number place) e n = (refl, refl)
