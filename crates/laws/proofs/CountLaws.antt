-- How many operators and sections there are.
use mathlib.Core.Path.{◌≡◌, ap₂, ◌∙◌}
use mathlib.Core.Bool.{Bool, true, false, cond}
use mathlib.Core.List.{List, [], ◌∷◌}
use Prim.Native.Nat.{ℕ, zero, suc, ◌+◌, ◌*◌, ◌≤◌, ◌<◌}
use native.Mathlib.Nat.{mul_comm, mul-le-mul_right}
use native.Mathlib.Omega.{arith}
use borrow.Author.Tests.{lt-ltb, ne_eqb}
use lib.Dec.{ltb}
use lib.ListN.{length, length-append, length-map}
use Rattle.rules.specs.Limits.{most_actions, most_methods, most_bound}
use Rattle.basics.specs.Lists.{upto, sum_to}
use Rattle.rules.specs.Tables.{Table, action_count, method_count, method}
use Rattle.rules.specs.Progression.{Step, act, mth, leading, prefix, remain}
use Rattle.rules.specs.Operators.{joined, highest, positions, rising_from1, operators_of}
use Rattle.rules.specs.Problems.{variable_count, problem_of}
use Rattle.rules.specs.Sections.{sections_of}
use Rattle.version3.specs.Spelling.{spell}
use Rattle.laws.specs.Valid.{Valid}
use Rattle.laws.proofs.ListLaws.{rows_length, upto_length, sum_same, sum_even, sum_most}

leading_short : (a : ℕ) (xs : List ℕ) → length (leading a xs) ≤ length xs
leading_short a [] = omega arith
leading_short a (x ∷ xs) = go (ltb x a) (leading_short a xs)
  where
    go : (c : Bool) → length (leading a xs) ≤ length xs → length (cond c (x ∷ leading a xs) []) ≤ suc (length xs)
    go true h = omega arith
    go false h = omega arith

-- A prefix is no longer than its method.
pub prefix_short : (f : ℕ) (t : Table) (k : ℕ) → length (prefix f t k) ≤ length (method t k).subs
prefix_short zero t k = omega arith
prefix_short (suc f) t k = leading_short (action_count t) (method t k).subs

module _ (b f : ℕ) (t : Table) (k : ℕ) where
  pub action_positions : k < action_count t → positions b f t (act k) ≡ b
  unfolding positions
  action_positions l = rw (lt-ltb k (action_count t) l)

  pub method_positions : k < method_count t → positions b f t (mth k) ≡ cond (joined f t (mth k)).dead 0 (highest b (remain f t k))
  unfolding positions
  method_positions l = rw (lt-ltb k (method_count t) l)

pub highest_low : (b r : ℕ) → highest b r ≤ b
highest_low b zero = omega arith
highest_low b (suc r) = rw (ne_eqb (suc r) 0 (omega arith)) (omega arith)

-- No method has more positions than the bound.
pub method_positions_low : (b f : ℕ) (t : Table) (k : ℕ) → positions b f t (mth k) ≤ b
unfolding positions
method_positions_low b f t k = go (ltb k (method_count t)) (joined f t (mth k)).dead
  where
    go : (c d : Bool) → cond c (cond d 0 (highest b (remain f t k))) 0 ≤ b
    go true true = omega arith
    go true false = highest_low b (remain f t k)
    go false d = omega arith

pub methods_low : (b f : ℕ) (t : Table) (n : ℕ) → sum_to (λ k. positions b f t (mth k)) n ≤ b * n
methods_low b f t n = sum_most (λ k. positions b f t (mth k)) b (method_positions_low b f t) n

-- So many positions for each action and each method.
pub few_operators : (b f : ℕ) (t : Table) (n : ℕ) → Valid t → b ≤ most_bound → n ≤ method_count t
    → action_count t * b + sum_to (λ k. positions b f t (mth k)) n ≤ most_bound * (most_actions + most_methods)
few_operators b f t n v h l =
    omega (
      arith,
      mul-le-mul_right b v.head.actions,
      methods_low b f t n,
      mul-le-mul_right n h,
      v.head.methods,
    )

kind_length : (b f : ℕ) (t : Table) (kind : ℕ → Step) (n : ℕ)
    → length (upto (λ k. rising_from1 (kind k) (positions b f t (kind k))) n) ≡ sum_to (λ k. positions b f t (kind k)) n
kind_length b f t kind n =
    upto_length (λ k. rising_from1 (kind k) (positions b f t (kind k))) n
    ∙ sum_same (λ k. length (rising_from1 (kind k) (positions b f t (kind k)))) (λ k. positions b f t (kind k)) n
    (λ k l. rows_length (λ i. record { what = kind k; at = suc i }) (positions b f t (kind k)))

-- b operators for each action, and the positions of each method.
pub operators_length : (b f : ℕ) (t : Table)
    → length (operators_of b f t) ≡ action_count t * b + sum_to (λ k. positions b f t (mth k)) (method_count t)
unfolding operators_of
operators_length b f t =
    length-append (upto (λ k. rising_from1 (act k) (positions b f t (act k))) (action_count t)) _
    ∙ ap₂ ◌+◌
    (kind_length b f t act (action_count t)
    ∙ sum_same (λ k. positions b f t (act k)) (λ _. b) (action_count t) (λ k l. action_positions b f t k l)
    ∙ sum_even b (action_count t)
    ∙ mul_comm b (action_count t))
    (kind_length b f t mth (method_count t))

pub operators_few : (b f : ℕ) (t : Table) → Valid t → b ≤ most_bound → length (operators_of b f t) ≤ most_bound * (most_actions + most_methods)
operators_few b f t v h = rw (operators_length b f t) (few_operators b f t (method_count t) v h (omega arith))

-- One section, one for each variable, one, one for each operator, and one.
pub sections_length : (b f : ℕ) (t : Table) → length (sections_of b f t) ≡ variable_count b t + length (operators_of b f t) + 3
unfolding sections_of spell problem_of
sections_length b f t =
    simp (length-append, length-map, rows_length) (omega arith)
