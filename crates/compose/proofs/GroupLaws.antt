-- The two groups of an operator's lines, cut as they are written; what the stack's lines say, by the tasks that a row leaves.
use mathlib.Core.Path.{◌≡◌, refl, sym, ap, ap₂, ◌∙◌}
use mathlib.Core.Bool.{Bool, true, false, cond}
use mathlib.Core.List.{List, [], ◌∷◌, ◌++◌, map, append-nil, append_assoc, map-append}
use Prim.Native.Nat.{ℕ, suc, ◌+◌, ◌-◌, ◌^◌, ◌<◌}
use native.Mathlib.Decide.{ℕ_discrete}
use native.Mathlib.Numerals.{add-one}
use native.Mathlib.Omega.{arith}
use lib.Bits.{or_lt}
use lib.Count.{ones}
use lib.Dec.{eqb}
use lib.ListN.{length, get_or, length-append, length-map, get_or-eq_default}
use borrow.Author.Tests.{eq-eqb, ne_eqb}
use Rattle.basics.specs.Lists.{rows, concat}
use Rattle.basics.specs.Texts.{bytes, digits}
use Rattle.version3.specs.Problems.{Setting, Effect}
use Rattle.version3.specs.Spelling.{number_line, counted, spell_setting, spell_effect, spell_oper}
use Rattle.rules.specs.Facts.{Join, members_of}
use Rattle.rules.specs.Problems.{set, holding, kept, altered, fact_effect, change, push, bottom_next, prevails, effects, oper_at}
use Rattle.laws.proofs.JoinSizes.{without_lt}
use Rattle.laws.proofs.ListLaws.{there, rows_length, map_rows}
use Rattle.laws.proofs.MemberLaws.{members_ones}
use Rattle.laws.proofs.TextLaws.{concat_append, concat_rows}
use Rattle.stack_lines.specs.StackLines.{top_stays_text, task_stays_text, top_moves_text, task_moves_text, pushed, push_all}
use Rattle.rows.specs.Rows.{Row}
use Rattle.compose.specs.Groups.{name_piece, cost_piece, prevail_group, effect_group, whole}
use Rattle.compose.specs.RowTexts.{sets_of, Small}

-- The top stays where one task is left.
top_same : (p stay : ℕ) → eqb (suc p + stay - 1) (suc p) ≡ eqb stay 1
top_same p stay =
    elim (ℕ_discrete stay 1) [
      | yes e ↦ eq-eqb (suc p + stay - 1) (suc p) (omega arith) ∙ sym (eq-eqb stay 1 e)
      | no d ↦ ne_eqb (suc p + stay - 1) (suc p) (λ e. d (omega arith)) ∙ sym (ne_eqb stay 1 d)
    ]

-- ---- words in a row

name_flat : (b n s d f : List ℕ) → b ++ n ++ (s ++ d ++ f) ≡ b ++ ((n ++ (s ++ d)) ++ f)
name_flat b n s d f = simp append_assoc

pub name_words : (letter k p : ℕ)
    → bytes "begin_operator\n" ++ (letter ∷ digits k) ++ (bytes " " ++ digits (p + 1) ++ bytes "\n") ≡ (name_piece letter k).text p
name_words letter k p =
    name_flat (bytes "begin_operator\n") (letter ∷ digits k) (bytes " ") (digits (p + 1)) (bytes "\n")
    ∙ ap (λ (n : ℕ). bytes "begin_operator\n" ++ (((letter ∷ digits k) ++ (bytes " " ++ digits n)) ++ bytes "\n")) (add-one p)

pub cost_words : (cost : ℕ) → number_line cost ++ bytes "end_operator\n" ≡ digits cost ++ bytes "\nend_operator\n"
cost_words cost = append_assoc (digits cost) (bytes "\n") (bytes "end_operator\n")

-- A group's count and facts, in words of the code.
pub facts_as : {m n : ℕ} {x y : List ℕ} → m ≡ n → x ≡ y → number_line m ++ x ≡ number_line n ++ y
facts_as p q = λ i. number_line (p i) ++ q i

-- ---- groups of lines

module _ {A : Type 0} (g : A → List ℕ) where
  joined : (a b : List A) → concat (map g (a ++ b)) ≡ concat (map g a) ++ concat (map g b)
  joined a b = ap concat (map-append g a b) ∙ concat_append (map g a) (map g b)

  counted_three : (a b c : List A)
      → counted (map g (a ++ b ++ c)) ≡ number_line (length a + length b + length c) ++ concat (map g a) ++ concat (map g b) ++ concat (map g c)
  counted_three a b c =
      ap₂ (λ (n : ℕ) (x : List ℕ). number_line n ++ x)
      (length-map (a ++ b ++ c) g ∙ simp length-append)
      (joined (a ++ b) c ∙ ap (λ (x : List ℕ). x ++ concat (map g c)) (joined a b))
      ∙ flat (number_line (length a + length b + length c)) (concat (map g a)) (concat (map g b)) (concat (map g c))
    where
      flat : (x a b c : List ℕ) → x ++ (a ++ b ++ c) ≡ x ++ a ++ b ++ c
      flat x a b c = simp append_assoc

  counted_four : (a b c d : List A)
      → counted (map g (a ++ b ++ c ++ d))
      ≡ number_line (length a + length b + length c + length d) ++ concat (map g a) ++ concat (map g b) ++ concat (map g c) ++ concat (map g d)
  counted_four a b c d =
      ap₂ (λ (n : ℕ) (x : List ℕ). number_line n ++ x)
      (length-map (a ++ b ++ c ++ d) g ∙ simp length-append)
      (joined (a ++ b ++ c) d
      ∙ ap (λ (x : List ℕ). x ++ concat (map g d)) (joined (a ++ b) c ∙ ap (λ (x : List ℕ). x ++ concat (map g c)) (joined a b)))
      ∙ flat (number_line (length a + length b + length c + length d)) (concat (map g a)) (concat (map g b)) (concat (map g c)) (concat (map g d))
    where
      flat : (x a b c d : List ℕ) → x ++ (a ++ b ++ c ++ d) ≡ x ++ a ++ b ++ c ++ d
      flat x a b c d = simp append_assoc

  -- A line that is there or not.
  when_text : (c : Bool) (x : A) → concat (map g (cond c (x ∷ []) [])) ≡ cond c (g x) []
  unfolding concat
  when_text true x = append-nil (g x)
  when_text false x = refl

  unless_text : (c : Bool) (x : A) → concat (map g (cond c [] (x ∷ []))) ≡ cond c [] (g x)
  unfolding concat
  unless_text true x = refl
  unless_text false x = append-nil (g x)

when_count : {A : Type 0} (c : Bool) (x : A) → length (cond c (x ∷ []) []) ≡ cond c 1 0
when_count true x = refl
when_count false x = refl

unless_count : {A : Type 0} (c : Bool) (x : A) → length (cond c [] (x ∷ [])) ≡ cond c 0 1
unless_count true x = refl
unless_count false x = refl

-- ---- an operator's two groups

module _ (top free : ℕ) (j : Join) (task : ℕ) (rest : List ℕ) (p bottom : ℕ) (e : bottom ≡ bottom_next free rest) where
  abbrev stay : ℕ
  stay = length rest

  prevails_cut : kept j < 2 ^ top
      → counted (map spell_setting (prevails top free j task (suc p) rest)) ≡ (prevail_group top j.needs j.dels stay task bottom).text p
  unfolding top_stays_text task_stays_text
  prevails_cut low =
      let facts : List Setting = holding (members_of top (kept j)) in
      let x : Setting = set top (suc p) in
      let y : Setting = set (top + suc p) task in
      let n : length facts ≡ ones (kept j) = length-map (members_of top (kept j)) (λ k. set k 0) ∙ members_ones top (kept j) low in
      (λ i. counted (map spell_setting (facts ++ cond (top_same p stay i) (x ∷ []) [] ++ cond (eqb (sym e i) task) (y ∷ []) [])))
      ∙ counted_three spell_setting facts (cond (eqb stay 1) (x ∷ []) []) (cond (eqb bottom task) (y ∷ []) [])
      ∙ (λ i. number_line (n i + when_count (eqb stay 1) x i + when_count (eqb bottom task) y i)
      ++ concat (map spell_setting facts) ++ when_text spell_setting (eqb stay 1) x i ++ when_text spell_setting (eqb bottom task) y i)

  push_text : concat (map spell_effect (rows (push top (suc p) rest) (stay - 1))) ≡ (push_all top rest).text p
  unfolding pushed
  push_text = ap concat (map_rows spell_effect (push top (suc p) rest) (stay - 1)) ∙ concat_rows (pushed top rest p) (stay - 1)

  effects_cut : altered j < 2 ^ top
      → counted (map spell_effect (effects top free j task (suc p) rest))
      ≡ (effect_group top j.needs j.adds j.dels stay task bottom).text p ++ (push_all top rest).text p
  unfolding top_moves_text task_moves_text
  effects_cut low =
      let facts : List Effect = map (fact_effect j.needs j.dels) (members_of top (altered j)) in
      let x : Effect = change top (suc p) (suc p + stay - 1) in
      let y : Effect = change (top + suc p) task bottom in
      let higher : List Effect = rows (push top (suc p) rest) (stay - 1) in
      let n : length facts ≡ ones (altered j) =
      length-map (members_of top (altered j)) (fact_effect j.needs j.dels) ∙ members_ones top (altered j) low in
      (λ i. counted (map spell_effect (facts ++ cond (top_same p stay i) [] (x ∷ []) ++ cond (eqb (sym e i) task) [] (change (top + suc p) task (sym e i) ∷ []) ++ higher)))
      ∙ counted_four spell_effect facts (cond (eqb stay 1) [] (x ∷ [])) (cond (eqb bottom task) [] (y ∷ [])) higher
      ∙ (λ i. number_line (n i + unless_count (eqb stay 1) x i + unless_count (eqb bottom task) y i + rows_length (push top (suc p) rest) (stay - 1) i)
      ++ concat (map spell_effect facts) ++ unless_text spell_effect (eqb stay 1) x i ++ unless_text spell_effect (eqb bottom task) y i ++ push_text i)

  -- All of it.
  pub operator_cut : (letter k cost : ℕ) → kept j < 2 ^ top → altered j < 2 ^ top
      → (whole top letter k j.needs j.adds j.dels stay task bottom rest cost).text p
      ≡ spell_oper (oper_at top free (letter ∷ digits k) j task (suc p) rest cost)
  unfolding spell_oper oper_at
  operator_cut letter k cost low high =
      let first : List ℕ = (name_piece letter k).text p ++ (prevail_group top j.needs j.dels stay task bottom).text p in
      let second : List ℕ = (effect_group top j.needs j.adds j.dels stay task bottom).text p in
      ap (λ (x : List ℕ). x ++ (cost_piece cost).text p) (append_assoc first second ((push_all top rest).text p))
      ∙ (λ i. (name_piece letter k).text p ++ sym (prevails_cut low) i ++ sym (effects_cut high) i ++ (cost_piece cost).text p)
      ∙ sym (append_assoc
      ((name_piece letter k).text p ++ counted (map spell_setting (prevails top free j task (suc p) rest)) ++ counted (map spell_effect (effects top free j task (suc p) rest)))
      (number_line cost) (bytes "end_operator\n"))

-- ---- what stands in the place of the task

pub bottom_none : (free : ℕ) (rest : List ℕ) → length rest ≡ 0 → free ≡ bottom_next free rest
bottom_none free rest e = sym (get_or-eq_default rest free (omega arith))

pub bottom_last : (free : ℕ) (rest : List ℕ) (task : ℕ) → 0 < length rest → task ≡ get_or rest (length rest - 1 - 0) 0 → task ≡ bottom_next free rest
bottom_last free rest task l e =
    let n : length rest - 1 - 0 ≡ length rest - 1 = omega arith in
    e ∙ ap (λ (k : ℕ). get_or rest k 0) n ∙ there rest (length rest - 1) 0 free (omega arith)

-- ---- the sets of a row

module _ {top : ℕ} {r : Row} (s : Small top r) where
  pub kept_low : kept (sets_of r) < 2 ^ top
  kept_low = without_lt top _ _ s.needs s.dels

  pub altered_low : altered (sets_of r) < 2 ^ top
  altered_low = or_lt top _ _ s.dels (without_lt top _ _ s.adds s.needs)
