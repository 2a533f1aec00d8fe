-- Cells against the stack that they hold: its height, a push, what is kept.
use mathlib.Core.Path.{◌≡◌, refl, sym, ap, ap₂, ◌∙◌}
use mathlib.Core.List.{List, ◌∷◌}
use Prim.Native.Nat.{ℕ, zero, suc, ◌+◌, ◌-◌, ◌≤◌, ◌<◌}
use native.Mathlib.Nat.{not-suc-le-zero, le_refl}
use native.Mathlib.Numerals.{add-one}
use native.Mathlib.Decide.{dec_lt}
use native.Mathlib.Omega.{arith}
use lib.ListN.{length, get_or, set, take, drop, length-drop, drop_of_length-le}
use lib.Seq.{drop-cons, drop-set-add, get_or-drop, get_or-set_same, get_or-set_other}
use Rattle.laws.proofs.StoreLaws.{below, kept_less}
use Rattle.rows.specs.Stacks.{stack_of}

pub stack_height : (cells : List ℕ) (h : ℕ) → length (stack_of cells h) ≡ h
unfolding stack_of
stack_height cells zero = refl
stack_height cells (suc h) = ap suc (stack_height cells h)

-- The top, and what is under it.
pub stack_pop : (cells : List ℕ) (h : ℕ) → 0 < h → stack_of cells h ≡ get_or cells (h - 1) 0 ∷ stack_of cells (h - 1)
unfolding stack_of
stack_pop cells zero p = absurd (not-suc-le-zero p)
stack_pop cells (suc h) p =
    let e : h ≡ suc h - 1 = omega arith in
    ap (λ (k : ℕ). get_or cells k 0 ∷ stack_of cells k) e

-- The task in cell h, of a stack of n.
stack_at : (cells : List ℕ) (n h d : ℕ) → h < n → get_or (stack_of cells n) (n - 1 - h) d ≡ get_or cells h 0
unfolding stack_of
stack_at cells zero h d l = absurd (omega arith)
stack_at cells (suc n) h d l =
    elim (dec_lt h n) [
      | yes m ↦
          let e : suc n - 1 - h ≡ suc (n - 1 - h) = omega arith in
          ap (λ (k : ℕ). get_or (get_or cells n 0 ∷ stack_of cells n) k d) e ∙ stack_at cells n h d m
      | no m ↦
          let e : suc n - 1 - h ≡ 0 = omega arith in
          let k : n ≡ h = omega arith in
          ap (λ (k : ℕ). get_or (get_or cells n 0 ∷ stack_of cells n) k d) e ∙ ap (λ (k : ℕ). get_or cells k 0) k
    ]

-- The task in cell h of those from c on, of a stack that stands there.
pub stack_cell : (cells : List ℕ) (c n h : ℕ) → h < length (stack_of (drop c cells) n)
    → get_or cells (c + h) 0 ≡ get_or (stack_of (drop c cells) n) (length (stack_of (drop c cells) n) - 1 - h) 0
stack_cell cells c n h l =
    let e = stack_height (drop c cells) n in
    sym (ap (λ (m : ℕ). get_or (stack_of (drop c cells) n) (m - 1 - h) 0) e ∙ stack_at (drop c cells) n h 0 (omega (arith, e)) ∙ get_or-drop c cells h 0)

-- A store at or above the stack.
pub stack_frame : (cells : List ℕ) (h i v : ℕ) → h ≤ i → stack_of (set cells i v) h ≡ stack_of cells h
unfolding stack_of
stack_frame cells zero i v l = refl
stack_frame cells (suc h) i v l = ap₂ {C = List ℕ} ◌∷◌ (get_or-set_other cells i h v 0 (omega arith)) (stack_frame cells h i v (omega arith))

pub stack_push : (cells : List ℕ) (h v : ℕ) → h < length cells → stack_of (set cells h v) (h + 1) ≡ v ∷ stack_of cells h
unfolding stack_of
stack_push cells h v l = rw add-one (ap₂ {C = List ℕ} ◌∷◌ (get_or-set_same cells h v 0 l) (stack_frame cells h h v (le_refl h)))

-- The stack in n cells from c on, where all up to them is kept.
pub stack_kept : (cells cells' : List ℕ) (c n : ℕ) → take (c + n) cells' ≡ take (c + n) cells → stack_of (drop c cells') n ≡ stack_of (drop c cells) n
unfolding stack_of
stack_kept cells cells' c zero q = refl
stack_kept cells cells' c (suc n) q =
    ap₂ {C = List ℕ} ◌∷◌
    (get_or-drop c cells' n 0 ∙ below cells cells' (c + suc n) q (c + n) (omega arith) ∙ sym (get_or-drop c cells n 0))
    (stack_kept cells cells' c n (kept_less cells cells' (c + n) (c + suc n) (omega arith) q))

-- A row of tasks, from its end on, in the cells from c on: none yet, and one more.
pub push_none : (cells tasks : List ℕ) (c : ℕ) → stack_of (drop c cells) 0 ≡ drop (length tasks - 0) tasks
unfolding stack_of
push_none cells tasks c = sym (drop_of_length-le tasks {i = length tasks - 0} (omega arith))

pub push_more : (cells tasks : List ℕ) (c h v : ℕ) → h < length tasks → c + h < length cells → v ≡ get_or tasks (length tasks - (h + 1)) 0
    → stack_of (drop c cells) h ≡ drop (length tasks - h) tasks → stack_of (drop c (set cells (c + h) v)) (h + 1) ≡ drop (length tasks - (h + 1)) tasks
push_more cells tasks c h v l s u e =
    let k : suc (length tasks - (h + 1)) ≡ length tasks - h = omega arith in
    let d : drop (length tasks - (h + 1)) tasks ≡ v ∷ drop (length tasks - h) tasks =
    drop-cons tasks (length tasks - (h + 1)) 0 (omega arith) ∙ (λ j. sym u j ∷ drop (k j) tasks) in
    ap (λ (x : List ℕ). stack_of x (h + 1)) (drop-set-add c cells h v)
    ∙ stack_push (drop c cells) h v (simp length-drop (omega arith))
    ∙ ap (λ (x : List ℕ). v ∷ x) e
    ∙ sym d
