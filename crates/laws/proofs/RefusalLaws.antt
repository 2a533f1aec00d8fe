-- The opening of a table, a check at a time: what is refused, and what passes. Room for a text.
use mathlib.Core.Path.{◌≡◌, refl, sym, ap, ◌∙◌}
use mathlib.Core.Bool.{Bool, true, false}
use mathlib.Core.List.{List}
use Prim.Native.Nat.{ℕ, ◌+◌, ◌≤◌, ◌<◌}
use native.Mathlib.Decide.{dec_le}
use native.Mathlib.Omega.{arith}
use borrow.Author.Tests.{le-leb, lt-leb, eq-eqb, ne_eqb}
use lib.Dec.{leb}
use lib.ListN.{length}
use lib.Seq.{sets}
use Rattle.basics.specs.Answers.{Answer, answer, refusal, check, after, length_of}
use Rattle.basics.specs.Readings.{Reading, got, bad}
use Rattle.rules.specs.Limits.{most_bound, most_table_bytes, most_plan_bytes, most_limit, most_budget}
use Rattle.rules.specs.Reasons.{bad_bound, bad_form, table_too_long, plan_too_long, no_room, bad_limits}
use Rattle.rules.specs.Tables.{Table, decode}
use Rattle.rules.specs.Refusals.{read_of, table_read, form_read, opened, plan_number, search_number, room_of, room_for, written}
use Rattle.laws.specs.Valid.{Valid}
use Rattle.laws.proofs.AnswerLaws.{refused}
use Rattle.laws.proofs.TableLaws.{valid}
use Rattle.laws.proofs.StoreLaws.{stored}

module _ (late : ℕ) (s : List ℕ) where
  pub table_long : most_table_bytes < length s → table_read late s ≡ refusal table_too_long 0
  unfolding table_read
  table_long h = rw (lt-leb (length s) most_table_bytes h)

  module _ (h : length s ≤ most_table_bytes) where
    pub late_refused : (late ≡ 0 → ⊥) → table_read late s ≡ refusal late 0
    unfolding table_read
    late_refused n = rw (le-leb (length s) most_table_bytes h, ne_eqb late 0 n)

    pub table_is : late ≡ 0 → table_read late s ≡ read_of (decode s)
    unfolding table_read
    table_is z = rw (le-leb (length s) most_table_bytes h, eq-eqb late 0 z)

-- A table that was read is valid.
pub read_valid : (s : List ℕ) (t : Table) → read_of (decode s) ≡ answer t → Valid t
read_valid s t e = go (decode s) refl e
  where
    go : (r : Reading Table) → decode s ≡ r → read_of r ≡ answer t → Valid t
    go (got t' n) d e = let q : t' ≡ t = cc in valid s t n (d ∙ ap (λ (x : Table). got x n) q)
    go (bad why at) d e = refused why at e

module _ (early late f : ℕ) (s : List ℕ) where
  pub form_bad : 1 < f → form_read early late f s ≡ refusal bad_form 0
  unfolding form_read
  form_bad k = rw (lt-leb f 1 k)

  module _ (k : f ≤ 1) where
    pub early_refused : (early ≡ 0 → ⊥) → form_read early late f s ≡ refusal early 0
    unfolding form_read
    early_refused n = rw (le-leb f 1 k, ne_eqb early 0 n)

    pub form_is : early ≡ 0 → form_read early late f s ≡ table_read late s
    unfolding form_read
    form_is z = rw (le-leb f 1 k, eq-eqb early 0 z)

module _ (early late b f : ℕ) (s : List ℕ) where
  pub bound_low : b < 1 → opened early late b f s ≡ refusal bad_bound 0
  unfolding opened
  bound_low h = rw (lt-leb 1 b h)

  module _ (l : 1 ≤ b) where
    pub bound_high : most_bound < b → opened early late b f s ≡ refusal bad_bound 0
    unfolding opened
    bound_high h = rw (le-leb 1 b l, lt-leb b most_bound h)

    pub opened_is : b ≤ most_bound → opened early late b f s ≡ form_read early late f s
    unfolding opened
    opened_is h = rw (le-leb 1 b l, le-leb b most_bound h)

module _ (l budget : ℕ) where
  pub limit_low : l < 1 → search_number l budget ≡ bad_limits
  unfolding search_number
  limit_low h = rw (lt-leb 1 l h)

  module _ (h : 1 ≤ l) where
    pub limit_high : most_limit < l → search_number l budget ≡ bad_limits
    unfolding search_number
    limit_high k = rw (le-leb 1 l h, lt-leb l most_limit k)

    module _ (k : l ≤ most_limit) where
      pub budget_high : most_budget < budget → search_number l budget ≡ bad_limits
      unfolding search_number
      budget_high g = rw (le-leb 1 l h, le-leb l most_limit k, lt-leb budget most_budget g)

      pub limits_in : budget ≤ most_budget → search_number l budget ≡ 0
      unfolding search_number
      limits_in g = rw (le-leb 1 l h, le-leb l most_limit k, le-leb budget most_budget g)

  pub limits_held : search_number l budget ≡ 0 → (1 ≤ l) × (l ≤ most_limit) × (budget ≤ most_budget)
  limits_held e =
      elim (dec_le 1 l) [
        | yes h ↦ elim (dec_le l most_limit) [
          | yes k ↦ elim (dec_le budget most_budget) [
            | yes g ↦ (h, k, g)
            | no g ↦ let z = budget_high h k (omega arith) in absurd (omega (arith, z))
          ]
          | no k ↦ let z = limit_high h (omega arith) in absurd (omega (arith, z))
        ]
        | no h ↦ let z = limit_low (omega arith) in absurd (omega (arith, z))
      ]

module _ (plan : List ℕ) where
  pub plan_long : most_plan_bytes < length plan → plan_number plan ≡ plan_too_long
  unfolding plan_number
  plan_long h = rw (lt-leb (length plan) most_plan_bytes h)

  pub plan_fits : length plan ≤ most_plan_bytes → plan_number plan ≡ 0
  unfolding plan_number
  plan_fits h = rw (le-leb (length plan) most_plan_bytes h)

  pub plan_small : plan_number plan ≡ 0 → length plan ≤ most_plan_bytes
  plan_small e =
      elim (dec_le (length plan) most_plan_bytes) [
        | yes h ↦ h
        | no h ↦ let z = plan_long (omega arith) in absurd (omega (arith, z))
      ]

module _ (size at : ℕ) (x : List ℕ) where
  pub room_short : size < at + length x → room_for size at x ≡ refusal no_room (length x)
  room_short h = rw (lt-leb (at + length x) size h)

  pub room_fits : at + length x ≤ size → room_for size at x ≡ answer x
  room_fits h = rw (le-leb (at + length x) size h)

-- What is stored from a place on is written.
pub stores_written : (old x : List ℕ) (at : ℕ) → at + length x ≤ length old → sets old at x ≡ written old at (answer x)
unfolding written
stores_written old x at h = stored old x at h

-- A refusal leaves what was lent as it was.
pub kept : (old : List ℕ) (at : ℕ) (x : Answer (List ℕ)) {number place : ℕ} → x ≡ refusal number place → old ≡ written old at x
unfolding written
kept old at x e = sym (ap (written old at) e)

-- What there is to write has room by its length alone.
pub room_length : (size at : ℕ) (x : List ℕ) → length_of (room_for size at x) ≡ room_of size at (length x)
room_length size at x = go (leb (at + length x) size)
  where
    go : (c : Bool) → length_of (after (check c no_room (length x) (answer (length x))) (λ _. answer x)) ≡ check c no_room (length x) (answer (length x))
    go true = refl
    go false = refl
