-- The operator at a number: actions have as many as the bound, methods as many as they have positions.
use mathlib.Core.Path.{◌≡◌, sym, ap, ap₂, ◌∙◌}
use Prim.Native.Nat.{ℕ, ◌+◌, ◌*◌, ◌/◌, ◌%◌, ◌≤◌, ◌<◌}
use native.Mathlib.Nat.{mul_comm, mod-lt, div-add-mod', div-lt_iff_lt-mul}
use native.Mathlib.Omega.{arith}
use lib.ListN.{length, get_or}
use Rattle.basics.specs.Lists.{sum_to}
use Rattle.rules.specs.Tables.{Table, action_count, method_count}
use Rattle.rules.specs.Progression.{mth}
use Rattle.rules.specs.Operators.{positions, operators_of}
use Rattle.laws.specs.Steps.{step_at}
use Rattle.laws.proofs.ListLaws.{sum_same, sum_even, sum_split, sum_part}
use Rattle.laws.proofs.CountLaws.{action_positions, operators_length}
use Rattle.laws.proofs.StepNumbers.{step_action, step_method}
use Rattle.laws.proofs.SectionLaws.{operator_at_lem, operators_count}
use Rattle.problem.specs.Places.{IsPlace}

module _ (b f : ℕ) (t : Table) where
  abbrev count : ℕ → ℕ
  count i = positions b f t (step_at t i)

  place : (n i p : ℕ) → i < action_count t + method_count t → p < count i → sum_to count i + p ≡ n → IsPlace b f t n i p
  place n i p l h e =
      record {
        step = l;
        position = h;
        within = omega (arith, operators_count b f t, sum_part count (action_count t + method_count t) i l);
        operator = λ d. ap (λ (m : ℕ). get_or (operators_of b f t) m d) (sym e) ∙ operator_at_lem b f t d i p l h;
      }

  action_count_lem : (k : ℕ) → k < action_count t → count k ≡ b
  action_count_lem k l = ap (positions b f t) (step_action t k l) ∙ action_positions b f t k l

  before_action : (i : ℕ) → i ≤ action_count t → sum_to count i ≡ i * b
  before_action i h = sum_same count (λ _. b) i (λ k l. action_count_lem k (omega arith)) ∙ sum_even b i ∙ mul_comm b i

  before_method : (k : ℕ) → sum_to count (action_count t + k) ≡ action_count t * b + sum_to (λ j. positions b f t (mth j)) k
  before_method k =
      sum_split count (action_count t) k
      ∙ ap₂ ◌+◌ (before_action (action_count t) (omega arith))
      (sum_same (λ j. count (action_count t + j)) (λ j. positions b f t (mth j)) k (λ j l. ap (positions b f t) (step_method t j)))

  pub action_place : (n : ℕ) → 0 < b → n < action_count t * b → IsPlace b f t n (n / b) (n % b)
  action_place n h l =
      let q : n / b < action_count t = (div-lt_iff_lt-mul h).1 l in
      place n (n / b) (n % b) (omega arith) (omega (arith, action_count_lem (n / b) q, mod-lt n h))
      (ap (λ (m : ℕ). m + n % b) (before_action (n / b) (omega arith)) ∙ div-add-mod' n b)

  pub method_place : (n k p : ℕ) → k < method_count t → p < positions b f t (mth k) → n ≡ sum_to (λ j. positions b f t (mth j)) k + p
      → IsPlace b f t (action_count t * b + n) (action_count t + k) p
  method_place n k p l h e =
      place (action_count t * b + n) (action_count t + k) p (omega arith) (omega (arith, ap (positions b f t) (step_method t k)))
      (omega (arith, before_method k))

  pub past_all : (n k over : ℕ) → k ≡ method_count t → n ≡ sum_to (λ j. positions b f t (mth j)) k + over
      → action_count t * b + n ≡ length (operators_of b f t) + over
  past_all n k over e s = omega (arith, operators_length b f t, ap (sum_to (λ j. positions b f t (mth j))) e)
