-- What finding a plan and searching answer, from bytes: each answer exactly where it is to be.
use Prim.Native.Nat.{ℕ, suc, ◌+◌, ◌≤◌, ◌<◌}
use mathlib.Core.Path.{◌≡◌, refl, sym, ap, subst, ◌∙◌}
use mathlib.Core.Logic.{◌⊎◌, inl, inr, ◌↔◌}
use mathlib.Core.Bool.{Bool, true, false, ◌&&◌, cond}
use mathlib.Core.List.{List, [], ◌∷◌}
use mathlib.Core.Option.{Option, none, some}
use native.Mathlib.Omega.{arith}
use native.Mathlib.Decide.{dec_le}
use borrow.Author.Tests.{le-leb, lt-leb, leb-true, leb-false}
use lib.ListN.{length}
use lib.Dec.{T, leb, nleb→lt}
use Rattle.basics.specs.Answers.{Answer, answer, refusal, number_of, place_of, value_of, check, after}
use Rattle.rules.specs.Limits.{most_limit, most_budget}
use Rattle.rules.specs.Reasons.{bad_limits, no_plan, over_budget, no_room}
use Rattle.rules.specs.Tables.{Table}
use Rattle.rules.specs.Progression.{begin}
use Rattle.rules.specs.Operators.{Operator}
use Rattle.rules.specs.Refusals.{opened, search_number, Sought, applied_in, plan_bytes, plan_of, judged, sought_in, find_plan, room_of, room_for_plan, search_plan, text_found, plan_text}
use Rattle.rules.specs.Searches.{Accepting, PlanWithin, NoneWithin, IsPlan, NumberApplied}
use Rattle.rules.specs.Walks.{Walked, walk}
use Rattle.laws.proofs.AnswerLaws.{refused, after_passed}
use Rattle.laws.proofs.RefusalLaws.{limits_in, limits_held}
use Rattle.theorems.specs.Numbers.{sections_numbers, Listed, Tells, Never}
use Rattle.theorems.proofs.Demand3.{opens, opened_given}
use Rattle.theorems.proofs.RefusalNumbers.{Refuses, check_refuses, after_refuses, within, in_row, of_opening, numbered, handed, no_value}
use Rattle.sought.specs.Findings.{most_found_bytes, NothingApplies}
use Rattle.sought.specs.Outcomes.{find_numbers, search_numbers, Posed, Finds, FindsNone, OverBudget, ShortPlan, SearchCalls}
use Rattle.sought.proofs.Search.{walk_plan, walk_count, walk_only, none_applied}
use Rattle.sought.proofs.Plans.{found_short, text_accepted}

-- The numbers that the opening refuses with.
abbrev open_numbers : List ℕ
open_numbers = bad_limits ∷ sections_numbers

limit_number : (l budget : ℕ) → (search_number l budget ≡ 0 → ⊥) → search_number l budget ≡ bad_limits
unfolding search_number
limit_number l budget n = go ((leb 1 l && leb l most_limit) && leb budget most_budget) n
  where
    go : (c : Bool) → (cond c 0 bad_limits ≡ 0 → ⊥) → cond c 0 bad_limits ≡ bad_limits
    go true n = absurd (n refl)
    go false n = refl

module _ (room : ℕ) (y : Sought) where
  pub plan_fits : plan_bytes y ≤ room → room_for_plan room y ≡ answer y
  plan_fits h = rw (le-leb (0 + plan_bytes y) room (omega arith))

  pub plan_short : room < plan_bytes y → room_for_plan room y ≡ refusal no_room (plan_bytes y)
  plan_short h = rw (lt-leb (0 + plan_bytes y) room (omega arith))

  fitted : (x : Sought) → room_for_plan room y ≡ answer x → (y ≡ x) × (plan_bytes x ≤ room)
  fitted x e =
      elim (dec_le (plan_bytes y) room) [
        | yes h ↦
            let same : y ≡ x = cc (sym (plan_fits h) ∙ e) in
            (same, subst (λ (z : Sought). plan_bytes z ≤ room) same h)
        | no h ↦ refused no_room (plan_bytes y) (sym (plan_short (omega arith)) ∙ e)
      ]

module _ (b f l budget : ℕ) (s : List ℕ) where
  -- ---- finding

  find_only : {t : Table} → Posed b f l budget s t → (p : Option (List Operator)) (n : ℕ) → IsPlan b f t l p → NumberApplied b f t l p n
      → find_plan b f l budget s ≡ judged budget (record { plan = p; count = n })
  unfolding find_plan
  find_only {t} q p n g h =
      ap (λ (a : Answer Table). after a (λ t. sought_in b f t l budget))
      (opens q.given (search_number l budget) 0 (limits_in l budget q.low q.high q.most) refl)
      ∙ ap (judged budget) (walk_only b f t l p n g h)

  posed : (t : Table) → opened (search_number l budget) 0 b f s ≡ answer t → Posed b f l budget s t
  posed t e =
      let q = opened_given (search_number l budget) 0 b f s t e in
      let h = limits_held l budget q.2 in
      record { given = q.0; low = h.0; high = h.1; most = h.2 }

  -- A refusal of the opening, for an entry with these words for its places.
  abbrev Opening : (ℕ → Type 0) → ℕ → ℕ → Type 0
  Opening Short = Listed open_numbers (length s) 0 Short (FindsNone b f l budget s)

  -- All that there is to say of an answer.
  abbrev Says : (ℕ → Type 0) → Answer Sought → Type 0
  Says Short (answer y) = Finds b f l budget s y
  Says Short (refusal number place) =
      Opening Short number place
      ⊎ (((number ≡ no_plan) × FindsNone b f l budget s place) ⊎ ((number ≡ over_budget) × (place ≡ 0) × OverBudget b f l budget s))

  find_says : (Short : ℕ → Type 0) → Says Short (find_plan b f l budget s)
  unfolding find_plan
  find_says Short = go (opened (search_number l budget) 0 b f s) refl refuses
    where
      limits : (search_number l budget ≡ 0 → ⊥) → Opening Short (search_number l budget) 0
      limits n =
          subst (λ (k : ℕ). Opening Short k 0) (sym (limit_number l budget n)) (record { listed = tt; placed = refl })

      refuses : Refuses (Opening Short) (opened (search_number l budget) 0 b f s)
      refuses = of_opening open_numbers s 0 Short (FindsNone b f l budget s) (search_number l budget) 0 limits (λ n. absurd (n refl)) tt b f

      judge : (t : Table) → Posed b f l budget s t → (c : Bool) (p : Option (List Operator)) (n : ℕ) → leb n budget ≡ c → IsPlan b f t l p
          → NumberApplied b f t l p n
          → Says Short (check c over_budget 0 (plan_of p n))
      judge t q true none n e g h = inr (inl (refl, record { table = t; posed = q; nowhere = g; number = h; allowed = leb-true n budget e }))
      judge t q true (some os) n e g h = record { table = t; posed = q; found = g; number = h; allowed = leb-true n budget e }
      judge t q false p n e g h =
          let a = leb-false n budget e in
          inr (inr (refl, refl, record { table = t; posed = q; plan = p; found = g; applied = n; number = h; above = omega (arith, a) }))

      go : (x : Answer Table) → opened (search_number l budget) 0 b f s ≡ x
          → Refuses (Opening Short) x
          → Says Short (after x (λ t. sought_in b f t l budget))
      go (answer t) e h =
          let w = walk b f t l (begin t) in
          judge t (posed t e) (leb w.count budget) w.plan w.count refl (walk_plan b f t l) (walk_count b f t l)
      go (refusal number place) e h = inl h

  pub find_answer : (y : Sought) → (find_plan b f l budget s ≡ answer y) ↔ Finds b f l budget s y
  find_answer y = (
    (λ e. subst (Says Never) e (find_says Never)),
    (λ q. find_only q.posed (some y.operators) y.applied q.found q.number ∙ rw (le-leb y.applied budget q.allowed)),
  )

  -- 18: "no plan of at most L operators, the number applied being its place".
  pub find_none : (n : ℕ) → (find_plan b f l budget s ≡ refusal no_plan n) ↔ FindsNone b f l budget s n
  find_none n = (
    (λ e. go (subst (Says Never) e (find_says Never))),
    (λ q. find_only q.posed none n q.nowhere q.number ∙ rw (le-leb n budget q.allowed)),
  )
    where
      go : Says Never (refusal no_plan n) → FindsNone b f l budget s n
      go (inl q) = absurd q.listed
      go (inr (inl q)) = q.1
      go (inr (inr q)) = absurd (omega (arith, q.0))

  -- 19: "that number is above the budget, before 18 and with place 0".
  pub find_over : (find_plan b f l budget s ≡ refusal over_budget 0) ↔ OverBudget b f l budget s
  find_over = (
    (λ e. go (subst (Says Never) e (find_says Never))),
    (λ q. find_only q.posed q.plan q.applied q.found q.number ∙ rw (lt-leb q.applied budget (omega (arith, q.above)))),
  )
    where
      go : Says Never (refusal over_budget 0) → OverBudget b f l budget s
      go (inl q) = absurd q.listed
      go (inr (inl q)) = absurd (omega (arith, q.0))
      go (inr (inr q)) = q.2

  listed : (row : List ℕ) → T (within find_numbers row) → (Short : ℕ → Type 0)
      → Refuses (Listed row (length s) 0 Short (FindsNone b f l budget s)) (find_plan b f l budget s)
  listed row w Short = go (find_plan b f l budget s) (find_says Short)
    where
      go : (a : Answer Sought) → Says Short a → Refuses (Listed row (length s) 0 Short (FindsNone b f l budget s)) a
      go (answer y) q = tt
      go (refusal number place) (inl q) =
          record { listed = in_row find_numbers row number w (in_row open_numbers find_numbers number tt q.listed); placed = q.placed }
      go (refusal number place) (inr (inl q)) =
          subst (λ (k : ℕ). Listed row (length s) 0 Short (FindsNone b f l budget s) k place) (sym q.0)
          (record { listed = in_row find_numbers row no_plan w tt; placed = q.1 })
      go (refusal number place) (inr (inr q)) =
          subst (λ (k : ℕ). Listed row (length s) 0 Short (FindsNone b f l budget s) k place) (sym q.0)
          (record { listed = in_row find_numbers row over_budget w tt; placed = q.1 })

  pub find_numbers_lem : Tells find_numbers (length s) 0 Never (FindsNone b f l budget s) (find_plan b f l budget s)
  find_numbers_lem = numbered find_numbers s 0 Never (FindsNone b f l budget s) tt (find_plan b f l budget s) (listed find_numbers tt Never)

  -- ---- searching

  -- Room for the text: asked for last.
  search_find : (room : ℕ) → search_plan b f l budget s room ≡ after (find_plan b f l budget s) (room_for_plan room)
  unfolding search_plan find_plan
  search_find room = go (opened (search_number l budget) 0 b f s)
    where
      go : (x : Answer Table)
          → after x (λ t. after (sought_in b f t l budget) (room_for_plan room)) ≡ after (after x (λ t. sought_in b f t l budget)) (room_for_plan room)
      go (answer t) = refl
      go (refusal number place) = refl

  within_most : {t : Table} → Posed b f l budget s t → (os : List Operator) → PlanWithin b f t l os → PlanWithin b f t most_limit os
  within_most p os q = record { accepted = q.accepted; short = omega (arith, q.short, p.high) }

  -- Every plan found has room in `most_found_bytes`, so with those the search answers as finding does.
  pub search_is_find : (room : ℕ) → most_found_bytes ≤ room → search_plan b f l budget s room ≡ find_plan b f l budget s
  search_is_find room h = search_find room ∙ go (find_plan b f l budget s) (find_says Never)
    where
      go : (a : Answer Sought) → Says Never a → after a (room_for_plan room) ≡ a
      go (answer y) q =
          let k = found_short q.posed.given y.operators (within_most q.posed y.operators q.found.plan) in
          plan_fits room y (omega (arith, k))
      go (refusal number place) q = refl

  module _ (room : ℕ) where
    pub search_answer : (y : Sought) → (search_plan b f l budget s room ≡ answer y) ↔ (Finds b f l budget s y × (plan_bytes y ≤ room))
    search_answer y = (
      (λ e.
          let q = after_passed (find_plan b f l budget s) (room_for_plan room) (sym (search_find room) ∙ e) in
          let r = fitted room q.0 y q.2 in
          ((find_answer y).0 (q.1 ∙ ap answer r.0), r.1)),
      (λ q.
          search_find room ∙ ap (λ (a : Answer Sought). after a (room_for_plan room)) ((find_answer y).1 q.0)
          ∙ plan_fits room y q.1),
    )

    pub search_numbers_lem :
        Tells search_numbers (length s) 0 (ShortPlan b f l budget s room) (FindsNone b f l budget s) (search_plan b f l budget s room)
    search_numbers_lem =
        numbered search_numbers s 0 Short None tt (search_plan b f l budget s room)
        (subst (Refuses (Listed search_numbers (length s) 0 Short None)) (sym (search_find room))
        (after_refuses _ (find_plan b f l budget s) (room_for_plan room) (listed search_numbers tt Short)
        (λ y e. after_refuses _ (room_of room 0 (plan_bytes y)) (λ _. answer y)
        (check_refuses _ (leb (0 + plan_bytes y) room) no_room (plan_bytes y) _
        (λ n. record {
          listed = tt;
          placed = record { plan = y; finds = (find_answer y).0 e; bytes = refl; short = omega (arith, nleb→lt (0 + plan_bytes y) room n) };
        })
        (λ _. tt))
        (λ n d. tt))))
      where
        Short : ℕ → Type 0
        Short = ShortPlan b f l budget s room

        None : ℕ → Type 0
        None = FindsNone b f l budget s

    -- 16 "stays last", at the "bytes to write".
    pub search_short : (n : ℕ) → (search_plan b f l budget s room ≡ refusal no_room n) ↔ ShortPlan b f l budget s room n
    search_short n = (
      (λ e. (search_numbers_lem.refused no_room n e).placed),
      (λ q.
          search_find room ∙ ap (λ (a : Answer Sought). after a (room_for_plan room)) ((find_answer q.plan).1 q.finds)
          ∙ plan_short room q.plan (omega (arith, q.short, q.bytes))
          ∙ ap (λ (k : ℕ). refusal no_room k) (sym q.bytes)),
    )

    -- What finding refuses the search refuses, and it refuses nothing else but for want of room.
    search_refused : (number place : ℕ) → (number ≡ no_room → ⊥)
        → (search_plan b f l budget s room ≡ refusal number place) ↔ (find_plan b f l budget s ≡ refusal number place)
    search_refused number place n = (
      (λ e. go (find_plan b f l budget s) (sym (search_find room) ∙ e)),
      (λ e. search_find room ∙ ap (λ (a : Answer Sought). after a (room_for_plan room)) e),
    )
      where
        go : (a : Answer Sought) → after a (room_for_plan room) ≡ refusal number place → a ≡ refusal number place
        go (refusal k p) e = cc e
        go (answer y) e =
            elim (dec_le (plan_bytes y) room) [
              | yes h ↦ refused number place (sym e ∙ plan_fits room y h)
              | no h ↦ absurd (n (ap number_of (sym e ∙ plan_short room y (omega arith))))
            ]

    pub search_none : (n : ℕ) → (search_plan b f l budget s room ≡ refusal no_plan n) ↔ FindsNone b f l budget s n
    search_none n = (
      (λ e. (find_none n).0 ((search_refused no_plan n (λ d. omega arith)).0 e)),
      (λ q. (search_refused no_plan n (λ d. omega arith)).1 ((find_none n).1 q)),
    )

    pub search_over : (search_plan b f l budget s room ≡ refusal over_budget 0) ↔ OverBudget b f l budget s
    search_over = (
      (λ e. find_over.0 ((search_refused over_budget 0 (λ d. omega arith)).0 e)),
      (λ q. (search_refused over_budget 0 (λ d. omega arith)).1 (find_over.1 q)),
    )

    -- What is written is the text of the plan found.
    pub search_text : (y : Sought) → Finds b f l budget s y → plan_bytes y ≤ room
        → text_found (search_plan b f l budget s room) ≡ answer (plan_text y)
    search_text y q h = ap text_found ((search_answer y).1 (q, h))

    handed_over : (a : Answer Sought) (number place : ℕ) → number_of a ≡ suc number → place_of a ≡ place → a ≡ refusal (suc number) place
    handed_over (answer y) number place e d = absurd (omega arith)
    handed_over (refusal k p) number place e d = λ i. refusal (e i) (d i)

    -- "how many operators were applied: exactly the number of applicable operator lists", from bytes, in the numbers handed back.
    pub search_says :
        let a = search_plan b f l budget s room in
        SearchCalls b f l budget s room (number_of a) (place_of a) (value_of applied_in a) (value_of plan_bytes a)
    search_says =
        record {
          zero = (
            (λ e. let z = search_numbers_lem.zero.0 e in let q = (search_answer z.0).0 z.1 in (z.0, q.0, q.1)),
            (λ q. ap number_of ((search_answer q.0).1 (q.1, q.2))),
          );
          numbers = λ y q h. let e = (search_answer y).1 (q, h) in (ap (value_of applied_in) e, ap (value_of plan_bytes) e);
          accepted =
              λ y q. text_accepted q.posed.given y.operators (within_most q.posed y.operators q.found.plan);
          nowhere = λ n. (
            (λ e. (search_none n).0 (handed_over (search_plan b f l budget s room) 17 n e.0 e.1)),
            (λ q. let e = (search_none n).1 q in (ap number_of e, ap place_of e)),
          );
          above = (
            (λ e. search_over.0 (handed_over (search_plan b f l budget s room) 18 0 e (no_place e))),
            (λ q. ap number_of (search_over.1 q)),
          );
          refusal = handed (search_plan b f l budget s room) search_numbers_lem;
          nothing = (no_value applied_in (search_plan b f l budget s room), no_value plan_bytes (search_plan b f l budget s room));
        }
      where
        no_place : number_of (search_plan b f l budget s room) ≡ over_budget → place_of (search_plan b f l budget s room) ≡ 0
        no_place e =
            let d = handed_over (search_plan b f l budget s room) 18 (place_of (search_plan b f l budget s room)) e refl in
            (search_numbers_lem.refused over_budget (place_of (search_plan b f l budget s room)) d).placed

-- Budget 0: 18 with place 0 where nothing applies, and 19 as soon as anything does.
module _ {b f l : ℕ} {s : List ℕ} {t : Table} (q : Posed b f l 0 s t) where
  pub zero_none : (find_plan b f l 0 s ≡ refusal no_plan 0) ↔ NothingApplies b f t
  zero_none = (
    (λ e.
        let z = (find_none b f l 0 s 0).0 e in
        let same : z.table ≡ t = cc (sym z.posed.given.reads ∙ q.given.reads) in
        subst (λ (u : Table). NothingApplies b f u) same ((none_applied b f z.table l q.low none z.nowhere).0 z.number)),
    (λ h.
        let n : NoneWithin b f t l = λ os p. no_plan_lem h os p.accepted in
        (find_none b f l 0 s 0).1
        (record { table = t; posed = q; nowhere = n; number = (none_applied b f t l q.low none n).1 h; allowed = omega arith })),
  )
    where
      no_plan_lem : NothingApplies b f t → (os : List Operator) → Accepting b f t (begin t) os → ⊥
      no_plan_lem h [] a = a.complete
      no_plan_lem h (o ∷ os) a = h o a.applicable.0

  pub zero_over : (find_plan b f l 0 s ≡ refusal over_budget 0) ↔ (NothingApplies b f t → ⊥)
  zero_over = (
    (λ e h. let d = ap number_of (sym e ∙ zero_none.1 h) in omega (arith, d)),
    (λ h. go h (walk b f t l (begin t)) (walk_plan b f t l) (walk_count b f t l)),
  )
    where
      go : (NothingApplies b f t → ⊥) → (w : Walked) → IsPlan b f t l w.plan → NumberApplied b f t l w.plan w.count
          → find_plan b f l 0 s ≡ refusal over_budget 0
      go h w p n =
          elim (dec_le w.count 0) [
            | yes k ↦
                let e : w.count ≡ 0 = omega arith in
                absurd (h ((none_applied b f t l q.low w.plan p).0 (subst (NumberApplied b f t l w.plan) e n)))
            | no k ↦
                (find_over b f l 0 s).1
                (record { table = t; posed = q; plan = w.plan; found = p; applied = w.count; number = n; above = omega arith })
          ]
