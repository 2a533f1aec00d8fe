-- A row of cells put on a stack, a cell at a time.
use mathlib.Core.Path.{◌≡◌, refl, sym, ap, subst, ◌∙◌}
use mathlib.Core.List.{List, ◌∷◌, ◌++◌}
use Prim.Native.Nat.{ℕ, ◌+◌, ◌≤◌, ◌<◌}
use native.Mathlib.Numerals.{add-one}
use native.Mathlib.Decide.{dec_le}
use native.Mathlib.Omega.{arith}
use lib.ListN.{length, get_or, set, length-set}
use Rattle.rows.specs.Stacks.{stack_of}
use Rattle.rows.specs.Rows.{Pushed}
use Rattle.rows.proofs.StackLaws.{stack_height, stack_frame, stack_push}

-- The first n cells of a row stand on top of the first `below` cells, however many of them are counted.
pub record Pushing (old new : List ℕ) (below : ℕ) (row : List ℕ) (n : ℕ) : Type 0 where
  pub size : length new ≡ length old
  pub stack : (k : ℕ) → k ≤ n → stack_of new (below + k) ≡ stack_of row k ++ stack_of old below

pub pushed_none : (cells row : List ℕ) (below : ℕ) → Pushing cells cells below row 0
unfolding stack_of
pushed_none cells row below = record { size = refl; stack = go }
  where
    go : (k : ℕ) → k ≤ 0 → stack_of cells (below + k) ≡ stack_of row k ++ stack_of cells below
    go k l =
        let z : k ≡ 0 = omega arith in
        let y : below + 0 ≡ below = omega arith in
        subst (λ (n : ℕ). stack_of cells (below + n) ≡ stack_of row n ++ stack_of cells below) (sym z) (ap (stack_of cells) y)

module _ (old new row : List ℕ) (below i : ℕ) (p : Pushing old new below row i) (h : below + i < length new) where
  next : stack_of (set new (below + i) (get_or row i 0)) (below + (i + 1)) ≡ stack_of row (i + 1) ++ stack_of old below
  unfolding stack_of
  next =
      let x : below + (i + 1) ≡ below + i + 1 = omega arith in
      ap (stack_of (set new (below + i) (get_or row i 0))) x
      ∙ stack_push new (below + i) (get_or row i 0) h
      ∙ ap (λ (l : List ℕ). get_or row i 0 ∷ l) (p.stack i (omega arith))
      ∙ rw (add-one i)

  pub pushed_more : Pushing old (set new (below + i) (get_or row i 0)) below row (i + 1)
  pushed_more = record { size = simp length-set p.size; stack = λ k l. go k l (dec_le k i) }
    where
      go : (k : ℕ) → k ≤ i + 1 → Dec (k ≤ i) → stack_of (set new (below + i) (get_or row i 0)) (below + k) ≡ stack_of row k ++ stack_of old below
      go k l (yes m) = stack_frame new (below + k) (below + i) (get_or row i 0) (omega arith) ∙ p.stack k m
      go k l (no m) =
          let e : i + 1 ≡ k = omega arith in
          subst (λ (n : ℕ). stack_of (set new (below + i) (get_or row i 0)) (below + n) ≡ stack_of row n ++ stack_of old below) e next

-- As many of them as are left.
pub pushed_all : (old new : List ℕ) (below : ℕ) (row : List ℕ) (m n : ℕ) → Pushing old new below row n → length (stack_of row m) ≤ n → Pushed old below (stack_of row m) new
pushed_all old new below row m n p l =
    let e = stack_height row m in
    record { size = p.size; stack = ap (λ (k : ℕ). stack_of new (below + k)) e ∙ p.stack m (omega (arith, e)) }
