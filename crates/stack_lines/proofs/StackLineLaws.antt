-- The lines of the stack as they are written, word by word.
use Prim.Native.Nat.{ℕ, suc, ◌+◌, ◌-◌, ◌≤◌}
use mathlib.Core.Path.{◌≡◌, sym, ap, ◌∙◌}
use mathlib.Core.Bool.{Bool, cond}
use mathlib.Core.List.{List, [], ◌∷◌, ◌++◌, append_assoc}
use mathlib.Core.Option.{none}
use native.Mathlib.Numerals.{add-one}
use native.Mathlib.Omega.{arith}
use lib.Dec.{eqb}
use lib.ListN.{length, get_or}
use borrow.Author.Tests.{eq-eqb, ne_eqb}
use Rattle.basics.specs.Lists.{upto}
use Rattle.basics.specs.Texts.{bytes, digits, line}
use Rattle.version3.specs.Spelling.{spell_setting, spell_effect}
use Rattle.rules.specs.Problems.{set, change}
use Rattle.stack_lines.specs.StackLines.{top_stays_text, task_stays_text, top_moves_text, task_moves_text, raised, pushed}

-- ---- words in a row

effect_words : (v b x : List ℕ) → bytes "0 " ++ v ++ (bytes " " ++ b) ++ (bytes " " ++ x ++ bytes "\n") ≡ line (bytes "0" ∷ v ∷ b ∷ x ∷ [])
effect_words v b x = append_assoc (bytes "0 " ++ v) (bytes " " ++ b) (bytes " " ++ x ++ bytes "\n")

pub push_words : (top j task p : ℕ)
    → bytes "0 " ++ digits (p + (top + j + 2)) ++ (bytes " -1 " ++ digits task ++ bytes "\n") ≡ spell_effect (raised top p j task)
push_words top j task p =
    let e : p + (top + j + 2) ≡ top + suc p + suc j = omega arith in
    ap (λ (n : ℕ). spell_effect (record { variable = n; before = none; after = task })) e

-- One task more.
pub pushes_more : (top : ℕ) (rest : List ℕ) (h p task : ℕ) → 1 ≤ h → task ≡ get_or rest (length rest - 1 - h) 0
    → upto (pushed top rest p) (h - 1) ++ spell_effect (raised top p (h - 1) task) ≡ upto (pushed top rest p) (h + 1 - 1)
unfolding upto pushed
pushes_more top rest h p task l e =
    let m : length rest - 1 - h ≡ length rest - 2 - (h - 1) = omega arith in
    let n : suc (h - 1) ≡ h + 1 - 1 = omega arith in
    ap (λ (x : ℕ). upto (pushed top rest p) (h - 1) ++ spell_effect (raised top p (h - 1) x)) (e ∙ ap (λ (k : ℕ). get_or rest k 0) m)
    ∙ ap (λ (k : ℕ). upto (pushed top rest p) k) n

-- ---- lines that are there or not

pub if_same : {A : Type 0} (m n : ℕ) (a b : A) → m ≡ n → cond (eqb m n) a b ≡ a
if_same m n a b e = ap (λ (c : Bool). cond c a b) (eq-eqb m n e)

pub if_other : {A : Type 0} (m n : ℕ) (a b : A) → (m ≡ n → ⊥) → cond (eqb m n) a b ≡ b
if_other m n a b d = ap (λ (c : Bool). cond c a b) (ne_eqb m n d)

module _ (top stay p : ℕ) where
  pub top_stays_lem : stay ≡ 1 → digits top ++ (bytes " " ++ digits (p + 1) ++ bytes "\n") ≡ top_stays_text top stay p
  unfolding top_stays_text
  top_stays_lem e =
      ap (λ (n : ℕ). spell_setting (set top n)) (add-one p)
      ∙ sym (if_same stay 1 (spell_setting (set top (suc p))) [] e)

  pub top_stays_not : (stay ≡ 1 → ⊥) → top_stays_text top stay p ≡ []
  unfolding top_stays_text
  top_stays_not d = if_other stay 1 (spell_setting (set top (suc p))) [] d

  pub top_moves_lem : (stay ≡ 1 → ⊥)
      → bytes "0 " ++ digits top ++ (bytes " " ++ digits (p + 1)) ++ (bytes " " ++ digits (p + stay) ++ bytes "\n") ≡ top_moves_text top stay p
  unfolding top_moves_text
  top_moves_lem d =
      let n : p + stay ≡ suc p + stay - 1 = omega arith in
      (λ i. bytes "0 " ++ digits top ++ (bytes " " ++ digits (add-one p i)) ++ (bytes " " ++ digits (n i) ++ bytes "\n"))
      ∙ effect_words (digits top) (digits (suc p)) (digits (suc p + stay - 1))
      ∙ sym (if_other stay 1 [] (spell_effect (change top (suc p) (suc p + stay - 1))) d)

  pub top_moves_not : stay ≡ 1 → top_moves_text top stay p ≡ []
  unfolding top_moves_text
  top_moves_not e = if_same stay 1 [] (spell_effect (change top (suc p) (suc p + stay - 1))) e

module _ (top task bottom p : ℕ) where
  place : p + (top + 1) ≡ top + suc p
  place = omega arith

  pub task_stays_lem : bottom ≡ task → digits (p + (top + 1)) ++ (bytes " " ++ digits task ++ bytes "\n") ≡ task_stays_text top task bottom p
  unfolding task_stays_text
  task_stays_lem e =
      ap (λ (n : ℕ). spell_setting (set n task)) place
      ∙ sym (if_same bottom task (spell_setting (set (top + suc p) task)) [] e)

  pub task_stays_not : (bottom ≡ task → ⊥) → task_stays_text top task bottom p ≡ []
  unfolding task_stays_text
  task_stays_not d = if_other bottom task (spell_setting (set (top + suc p) task)) [] d

  pub task_moves_lem : (bottom ≡ task → ⊥)
      → bytes "0 " ++ digits (p + (top + 1)) ++ (bytes " " ++ digits task) ++ (bytes " " ++ digits bottom ++ bytes "\n") ≡ task_moves_text top task bottom p
  unfolding task_moves_text
  task_moves_lem d =
      ap (λ (n : ℕ). bytes "0 " ++ digits n ++ (bytes " " ++ digits task) ++ (bytes " " ++ digits bottom ++ bytes "\n")) place
      ∙ effect_words (digits (top + suc p)) (digits task) (digits bottom)
      ∙ sym (if_other bottom task [] (spell_effect (change (top + suc p) task bottom)) d)

  pub task_moves_not : bottom ≡ task → task_moves_text top task bottom p ≡ []
  unfolding task_moves_text
  task_moves_not e = if_same bottom task [] (spell_effect (change (top + suc p) task bottom)) e
