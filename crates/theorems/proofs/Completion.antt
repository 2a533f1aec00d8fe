-- Which bytes an entry's number is 0 of. Demand 3: the check's is 0 exactly with a complete run, the expansion's where there is room for
-- its steps too.
use Prim.Native.Nat.{ℕ, ◌+◌, ◌*◌, ◌≤◌}
use mathlib.Core.Path.{◌≡◌, refl, ap, sym, subst, ◌∙◌}
use mathlib.Core.Logic.{◌↔◌}
use mathlib.Core.List.{List, []}
use native.Mathlib.Decide.{dec_le}
use native.Mathlib.Omega.{arith}
use lib.ListN.{length, get_or}
use lib.Dec.{leb, ltb, leb→le, ltb→lt, lt→ltb}
use Rattle.basics.specs.Answers.{Answer, answer, refusal, number_of, value_of, itself, after}
use Rattle.rules.specs.Reasons.{no_such_section, no_room}
use Rattle.rules.specs.Tables.{Table}
use Rattle.rules.specs.Progression.{total_cost}
use Rattle.rules.specs.Sections.{sections_of}
use Rattle.rules.specs.Plans.{lines_of, opers_of}
use Rattle.rules.specs.Checks.{Tally, accepted, step_bytes}
use Rattle.rules.specs.LeastBounds.{Least, least_bound}
use Rattle.rules.specs.Refusals.{form_read, opened, room_of, room_for, count_sections, chosen, section_for, one_section, check_plan, expand_plan, find_least}
use Rattle.laws.proofs.TestLaws.{cond_true}
use Rattle.laws.proofs.AnswerLaws.{refused, check_passed, after_passed}
use Rattle.laws.proofs.StepLaws.{bytes_length}
use Rattle.laws.proofs.RefusalLaws.{read_valid, room_short, room_fits}
use Rattle.laws.proofs.RoundLaws.{computed}
use Rattle.theorems.specs.Demand.{Given, GivenForm, Completes, steps_of_plan}
use Rattle.theorems.specs.Numbers.{RoomForSection}
use Rattle.theorems.proofs.Demand3.{form_given, opened_given, accepted_given, form_opens, opens, accepts, expansion, expansion_is}
use Rattle.theorems.proofs.Expansion.{expansion_refused}
use Rattle.theorems.proofs.RefusalNumbers.{count_numbers, section_numbers_lem, check_numbers_lem, least_numbers_lem}

module _ (b f : ℕ) (s : List ℕ) where
  pub counted : (t : Table) → Given b f s t → count_sections b f s ≡ answer (length (sections_of b f t))
  unfolding count_sections
  counted t g = ap (λ (a : Answer Table). after a (λ t. answer (length (sections_of b f t)))) (opens g 0 0 refl refl)

  pub count_zero : (number_of (count_sections b f s) ≡ 0) ↔ ((t : Table) × Given b f s t)
  unfolding count_sections
  count_zero = (
    (λ e.
        let z = (count_numbers b f s).zero.0 e in
        let q = after_passed (opened 0 0 b f s) (λ t. answer (length (sections_of b f t))) z.1 in
        (q.0, (opened_given 0 0 b f s q.0 q.1).0)),
    (λ q. ap number_of (counted q.0 q.1)),
  )

  module _ (k all at : ℕ) where
    pub section_is : (q : RoomForSection b f s k all at) → one_section b f s k all at ≡ answer (get_or (sections_of b f q.table) k [])
    unfolding one_section
    section_is q =
        let x = get_or (sections_of b f q.table) k [] in
        let c : chosen (sections_of b f q.table) k ≡ answer x = cond_true (ltb k (length (sections_of b f q.table))) _ _ (lt→ltb _ _ q.there) in
        ap (λ (a : Answer Table). after a (λ t. section_for b f t k all at)) (opens q.given 0 0 refl refl)
        ∙ ap (λ (a : Answer (List ℕ)). after a (room_for all at)) c
        ∙ room_fits all at x q.room

    pub section_zero : (number_of (one_section b f s k all at) ≡ 0) ↔ RoomForSection b f s k all at
    unfolding one_section
    section_zero = (
      (λ e.
          let z = (section_numbers_lem b f s k all at).zero.0 e in
          let q = after_passed (opened 0 0 b f s) (λ t. section_for b f t k all at) z.1 in
          let x = after_passed (chosen (sections_of b f q.0) k) (room_for all at) q.2 in
          let c = check_passed (ltb k (length (sections_of b f q.0))) no_such_section 0 _ x.1 in
          let d : get_or (sections_of b f q.0) k [] ≡ x.0 = cc c.1 in
          let r = after_passed (room_of all at (length x.0)) (λ _. answer x.0) x.2 in
          let l = check_passed (leb (at + length x.0) all) no_room (length x.0) _ r.1 in
          record {
            table = q.0;
            given = (opened_given 0 0 b f s q.0 q.1).0;
            there = ltb→lt _ _ c.0;
            room = omega (arith, leb→le (at + length x.0) all l.0, ap length d);
          }),
      (λ q. ap number_of (section_is q)),
    )

-- The least bound handed back is the least of the table in that form.
module _ (f : ℕ) (s : List ℕ) where
  pub least_is : (t : Table) → GivenForm f s t → find_least f s ≡ answer (least_bound f t)
  unfolding find_least
  least_is t q = ap (λ (a : Answer Table). after a (λ t. answer (least_bound f t))) (form_opens q 0 0 refl refl)

  pub least_zero : (number_of (find_least f s) ≡ 0) ↔ ((t : Table) × GivenForm f s t)
  unfolding find_least
  least_zero = (
    (λ e.
        let z = (least_numbers_lem f s).zero.0 e in
        let q = after_passed (form_read 0 0 f s) (λ t. answer (least_bound f t)) z.1 in
        (q.0, (form_given 0 0 f s q.0 q.1).0)),
    (λ q. ap number_of (least_is q.0 q.1)),
  )

  pub least_least : (t : Table) → GivenForm f s t → Least f t (value_of itself (find_least f s))
  least_least t q = subst (Least f t) (sym (ap (value_of itself) (least_is t q))) (computed f t (read_valid s t q.reads))

module _ (b f : ℕ) (s plan : List ℕ) where
  -- What completes a run is accepted, with the run's numbers; and what is accepted completes one.
  pub completes_accepted : (q : Completes b f s plan)
      → check_plan b f s plan ≡ accepted (total_cost q.table (steps_of_plan q)) (length (opers_of (lines_of plan))) (length (steps_of_plan q))
  completes_accepted q =
      (accepts q.given plan q.size _ _ _).1
      (record { shape = q.shape; heights = q.heights; run = q.run; cost = refl; operators = refl; steps = refl })

  pub accepted_completes : (y : Tally) → check_plan b f s plan ≡ answer y → Completes b f s plan
  accepted_completes y e =
      let (t, g, l) = accepted_given b f s plan y.cost y.operators y.steps e in
      let q = (accepts g plan l y.cost y.operators y.steps).0 e in
      record { table = t; given = g; size = l; shape = q.shape; heights = q.heights; run = q.run }

  pub check_zero : (number_of (check_plan b f s plan) ≡ 0) ↔ Completes b f s plan
  check_zero = (
    (λ e. let z = (check_numbers_lem b f s plan).zero.0 e in accepted_completes z.0 z.1),
    (λ q. ap number_of (completes_accepted q)),
  )

  module _ (all : ℕ) where
    fits : number_of (expand_plan b f s plan all) ≡ 0 → (a : Answer Tally) → check_plan b f s plan ≡ a → (q : Completes b f s plan) × (2 * length (steps_of_plan q) ≤ all)
    fits n (refusal number place) e =
        let d = ap number_of (expansion_refused b f s plan all number place e) in
        let z = (check_numbers_lem b f s plan).zero.0 (ap number_of e ∙ sym d ∙ n) in
        refused number place (sym e ∙ z.1)
    fits n (answer y) e =
        let q = accepted_completes y e in
        elim (dec_le (2 * length (steps_of_plan q)) all) [
          | yes h ↦ (q, h)
          | no h ↦
              let x = step_bytes (steps_of_plan q) in
              let d = expansion_is q.given plan q.size _ _ _ (completes_accepted q) all ∙ room_short all 0 x (omega (arith, bytes_length (steps_of_plan q))) in
              let z = ap number_of d in
              absurd (omega arith)
        ]

    pub expand_zero : (number_of (expand_plan b f s plan all) ≡ 0) ↔ ((q : Completes b f s plan) × (2 * length (steps_of_plan q) ≤ all))
    expand_zero = (
      (λ e. fits e (check_plan b f s plan) refl),
      (λ q. ap number_of (expansion q.0.given plan q.0.size _ _ _ (completes_accepted q.0) all q.1)),
    )
