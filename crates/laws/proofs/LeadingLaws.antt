-- The run of actions at the start of a method's subtasks, counted a subtask at a time.
use Prim.Native.Nat.{ℕ, zero, suc, ◌+◌, ◌≤◌, ◌<◌}
use mathlib.Core.Path.{◌≡◌, refl, sym, ap, ◌∙◌}
use mathlib.Core.List.{List, [], ◌∷◌}
use native.Mathlib.Numerals.{add-one}
use native.Mathlib.Omega.{arith}
use borrow.Author.Tests.{lt-ltb, le-ltb}
use lib.ListN.{length, get_or, drop, drop_of_length-le}
use lib.Seq.{drop-cons}
use Rattle.rules.specs.Tables.{Table, action_count, method}
use Rattle.rules.specs.Progression.{leading, prefix}

-- The first i of the tasks belong to the run.
abbrev pub Counted : ℕ → List ℕ → ℕ → Type 0
Counted a tasks i = i + length (leading a (drop i tasks)) ≡ length (leading a tasks)

module _ (a : ℕ) (tasks : List ℕ) (i : ℕ) where
  next_task : i < length tasks → drop i tasks ≡ get_or tasks i 0 ∷ drop (i + 1) tasks
  next_task l = drop-cons tasks i 0 l ∙ ap (λ (n : ℕ). get_or tasks i 0 ∷ drop n tasks) (sym (add-one i))

  -- The next task is an action, or none is, or none is left.
  pub leading_more : i < length tasks → get_or tasks i 0 < a → leading a (drop i tasks) ≡ get_or tasks i 0 ∷ leading a (drop (i + 1) tasks)
  leading_more l h = ap (leading a) (next_task l) ∙ rw (lt-ltb _ _ h)

  pub leading_stops : i < length tasks → a ≤ get_or tasks i 0 → leading a (drop i tasks) ≡ []
  leading_stops l h = ap (leading a) (next_task l) ∙ rw (le-ltb _ _ h)

  pub leading_ends : length tasks ≤ i → leading a (drop i tasks) ≡ []
  leading_ends l = ap (leading a) (drop_of_length-le tasks l)

  pub counted_more : i < length tasks → get_or tasks i 0 < a → Counted a tasks i → Counted a tasks (i + 1)
  counted_more l h c = omega (arith, ap length (leading_more l h), c)

  pub counted_all : leading a (drop i tasks) ≡ [] → Counted a tasks i → i ≡ length (leading a tasks)
  counted_all e c = omega (arith, ap length e, c)

-- What a method takes with it in any form but the plain one.
pub prefix_leads : (f : ℕ) (t : Table) (k : ℕ) → (f ≡ 0 → ⊥) → prefix f t k ≡ leading (action_count t) (method t k).subs
prefix_leads zero t k z = absurd (z refl)
prefix_leads (suc f) t k z = refl
