-- An input that is longer than what is read of it gets the same answer as what is read of it.
use Prim.Native.Nat.{ℕ, ◌+◌, ◌*◌, ◌-◌, ◌≤◌, ◌<◌}
use mathlib.Core.Path.{◌≡◌, refl, sym, ap, ap₂, ◌∙◌}
use mathlib.Core.Bool.{◌&&◌}
use mathlib.Core.List.{List}
use native.Mathlib.Decide.{dec_le}
use native.Mathlib.Omega.{arith}
use lib.Dec.{leb}
use lib.ListN.{length, take, drop, length-drop}
use lib.Seq.{take_all, take-take, length-take-le, get_or-take}
use Rattle.std.proofs.lemmas.List.{drop-take}
use Rattle.basics.specs.Answers.{Answer, answer, refusal, after}
use Rattle.rules.specs.Limits.{most_bound, most_table_bytes, most_plan_bytes}
use Rattle.rules.specs.Reasons.{bad_bound, bad_form, table_too_long, plan_too_long}
use Rattle.rules.specs.Tables.{Table}
use Rattle.rules.specs.Sections.{problem_text}
use Rattle.rules.specs.Plans.{lines_of}
use Rattle.rules.specs.Checks.{check_lines}
use Rattle.rules.specs.Refusals.{bounded, formed, passed, table_read, form_read, opened, plan_number, whole_problem, check_plan, search_number, plan_text, sought_in, find_plan}
use Rattle.rules.specs.Programs.{bound_in, form_in, pair_at, size_in, check_input, check_output, emit_input, emit_output, limit_in, budget_in, find_input, find_output, told, accepted_line, as_it_is}
use Rattle.laws.proofs.AnswerLaws.{check_passed, refused}
use Rattle.laws.proofs.RefusalLaws.{table_long, plan_long}
use Rattle.theorems.proofs.Demand3.{opened_given}
use Rattle.report.specs.declared.Input.{Input}
use Rattle.report.specs.Inputs.{most_size, most_check_input, most_emit_input, most_find_input, count_of, ReadFrom}

-- A part that is taken from what is left after a cut further on.
cut_later : (a n : ℕ) (l : List ℕ) → a ≤ n → drop a (take n l) ≡ take (n - a) (drop a l)
cut_later a n l h = let e : n ≡ a + (n - a) = omega arith in ap (λ (k : ℕ). drop a (take k l)) e ∙ drop-take a (n - a) l

-- What comes after a refusal is the same, whatever was to come.
same_refused : {A B : Type 0} (x : Answer A) → ((a : A) → x ≡ answer a → ⊥) → (g h : A → Answer B) → after x g ≡ after x h
same_refused (answer a) never g h = absurd (never a refl)
same_refused (refusal n l) never g h = refl

long_table : (b f : ℕ) (s x y : List ℕ) → most_table_bytes < length s → check_plan b f s x ≡ check_plan b f s y
unfolding check_plan opened form_read
long_table b f s x y h =
    let barred : (t : Table) → bounded b (formed f (refusal table_too_long 0)) ≡ answer t → ⊥ =
    λ t e.
    let q = check_passed (leb 1 b && leb b most_bound) bad_bound 0 _ e in
    refused table_too_long 0 (check_passed (leb f 1) bad_form 0 _ q.1).1 in
    rw (table_long (plan_number x) s h, table_long (plan_number y) s h)
    (same_refused (bounded b (formed f (refusal table_too_long 0))) barred (λ t. check_lines b f t (lines_of x)) (λ t. check_lines b f t (lines_of y)))

module _ (b f : ℕ) (s : List ℕ) (n : ℕ) where
  -- A table that is cut behind its limit is too long, as it was.
  table_cut : (late : ℕ) → most_table_bytes < n → table_read late (take n s) ≡ table_read late s
  table_cut late h =
      elim (dec_le (length s) n) [
        | yes l ↦ ap (table_read late) (take_all n s l)
        | no l ↦
            table_long late (take n s) (omega (arith, length-take-le n s (omega arith)))
            ∙ sym (table_long late s (omega arith))
      ]

  -- An entry that does what it does with the table alone answers as it did.
  opened_cut : {A : Type 0} (early late : ℕ) (g : Table → Answer A) → most_table_bytes < n
      → after (opened early late b f (take n s)) g ≡ after (opened early late b f s) g
  unfolding opened form_read
  opened_cut early late g h = ap (λ (x : Answer Table). after (bounded b (formed f (passed early x))) g) (table_cut late h)

  pub problem_cut : most_table_bytes < n → whole_problem b f (take n s) ≡ whole_problem b f s
  unfolding whole_problem
  problem_cut h = opened_cut 0 0 (λ t. answer (problem_text b f t)) h

  pub found_cut : (l budget : ℕ) → most_table_bytes < n → find_plan b f l budget (take n s) ≡ find_plan b f l budget s
  unfolding find_plan
  found_cut l budget h = opened_cut (search_number l budget) 0 (λ t. sought_in b f t l budget) h

  -- So is a plan; and of a plan that is too long, or behind a table that is, nothing else is looked at.
  long_plan : (x y : List ℕ) → most_plan_bytes < length x → most_plan_bytes < length y → check_plan b f s x ≡ check_plan b f s y
  unfolding check_plan
  long_plan x y h k =
      let barred : (t : Table) → opened 0 plan_too_long b f s ≡ answer t → ⊥ =
      λ t e. let z = (opened_given 0 plan_too_long b f s t e).1 in omega (arith, z) in
      ap (λ (m : ℕ). after (opened 0 m b f s) (λ t. check_lines b f t (lines_of x))) (plan_long x h)
      ∙ same_refused (opened 0 plan_too_long b f s) barred (λ t. check_lines b f t (lines_of x)) (λ t. check_lines b f t (lines_of y))
      ∙ ap (λ (m : ℕ). after (opened 0 m b f s) (λ t. check_lines b f t (lines_of y))) (sym (plan_long y k))

  pub plan_cut : (plan : List ℕ) → most_plan_bytes < n → check_plan b f s (take n plan) ≡ check_plan b f s plan
  plan_cut plan h =
      elim (dec_le (length plan) n) [
        | yes l ↦ ap (check_plan b f s) (take_all n plan l)
        | no l ↦ long_plan (take n plan) plan (omega (arith, length-take-le n plan (omega arith))) (omega arith)
      ]

module _ (s : List ℕ) (n : ℕ) where
  -- The emitting program's input.
  emit_cut : most_emit_input ≤ n → emit_input (take n s) ≡ emit_input s
  unfolding emit_input
  emit_cut h =
      (λ i. whole_problem (get_or-take n s 0 0 (omega arith) i) (get_or-take n s 1 0 (omega arith) i) (cut_later 2 n s (omega arith) i))
      ∙ problem_cut (bound_in s) (form_in s) (drop 2 s) (n - 2) (omega arith)

  pair_cut : (at : ℕ) → at + 1 < n → pair_at (take n s) at ≡ pair_at s at
  pair_cut at h = ap₂ (λ (low high : ℕ). low + 256 * high) (get_or-take n s at 0 (omega arith)) (get_or-take n s (at + 1) 0 h)

  -- The finding program's.
  find_cut : most_find_input ≤ n → find_input (take n s) ≡ find_input s
  unfolding find_input limit_in budget_in
  find_cut h =
      (λ i. find_plan (get_or-take n s 0 0 (omega arith) i) (get_or-take n s 1 0 (omega arith) i) (pair_cut 2 (omega arith) i)
      (pair_cut 4 (omega arith) i + 256 * 256 * pair_cut 6 (omega arith) i) (cut_later 8 n s (omega arith) i))
      ∙ found_cut (bound_in s) (form_in s) (drop 8 s) (n - 8) (limit_in s) (budget_in s) (omega arith)

  -- The checking program's, whose two bytes of length are bytes.
  size_cut : most_check_input ≤ n → size_in (take n s) ≡ size_in s
  unfolding size_in
  size_cut h = pair_cut 2 (omega arith)

  module _ (h : most_check_input ≤ n) (low : size_in s ≤ most_size) where
    there : drop 4 (take n s) ≡ take (n - 4) (drop 4 s)
    there = cut_later 4 n s (omega arith)

    table_there : take (size_in (take n s)) (drop 4 (take n s)) ≡ take (size_in s) (drop 4 s)
    table_there = ap₂ take (size_cut h) there ∙ take-take (size_in s) (n - 4) (drop 4 s) (omega arith)

    plan_there : drop (size_in (take n s)) (drop 4 (take n s)) ≡ take (n - 4 - size_in s) (drop (size_in s) (drop 4 s))
    plan_there = ap₂ drop (size_cut h) there ∙ cut_later (size_in s) (n - 4) (drop 4 s) (omega arith)

    -- The plan behind a table that is too long is not looked at.
    plan_same : n < length s
        → check_plan (bound_in s) (form_in s) (take (size_in s) (drop 4 s)) (take (n - 4 - size_in s) (drop (size_in s) (drop 4 s)))
        ≡ check_plan (bound_in s) (form_in s) (take (size_in s) (drop 4 s)) (drop (size_in s) (drop 4 s))
    plan_same l =
        elim (dec_le (size_in s) most_table_bytes) [
          | yes k ↦ plan_cut (bound_in s) (form_in s) (take (size_in s) (drop 4 s)) (n - 4 - size_in s) (drop (size_in s) (drop 4 s)) (omega arith)
          | no k ↦
              long_table (bound_in s) (form_in s) (take (size_in s) (drop 4 s)) _ _
              (omega (arith, length-take-le (size_in s) (drop 4 s) (omega (arith, length-drop 4 s))))
        ]

    check_cut : check_input (take n s) ≡ check_input s
    unfolding check_input
    check_cut =
        elim (dec_le (length s) n) [
          | yes l ↦ ap check_input (take_all n s l)
          | no l ↦
              (λ i. check_plan (get_or-take n s 0 0 (omega arith) i) (get_or-take n s 1 0 (omega arith) i) (table_there i) (plan_there i))
              ∙ plan_same (omega arith)
        ]

-- What has been read into a buffer that is large enough gets the input's answer.
module _ (s buffer : List ℕ) (n : Input) (r : ReadFrom s buffer n) where
  pub emit_read : most_emit_input ≤ length buffer → emit_output (take (count_of n) buffer) ≡ emit_output s
  unfolding emit_output
  emit_read h = ap (told as_it_is) (ap emit_input r ∙ emit_cut s (length buffer) h)

  pub find_read : most_find_input ≤ length buffer → find_output (take (count_of n) buffer) ≡ find_output s
  unfolding find_output
  find_read h = ap (told plan_text) (ap find_input r ∙ find_cut s (length buffer) h)

  pub check_read : most_check_input ≤ length buffer → size_in (take (count_of n) buffer) ≤ most_size → check_output (take (count_of n) buffer) ≡ check_output s
  unfolding check_output
  check_read h low =
      let same : size_in (take (count_of n) buffer) ≡ size_in s = ap size_in r ∙ size_cut s (length buffer) h in
      ap (told accepted_line) (ap check_input r ∙ check_cut s (length buffer) h (omega (arith, same, low)))
