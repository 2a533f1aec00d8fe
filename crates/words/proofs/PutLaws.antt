-- An action and a header that are stored.
use mathlib.Core.Path.{◌≡◌, ap, sym, ◌∙◌}
use mathlib.Core.List.{List, [], ◌∷◌}
use Prim.Native.Nat.{ℕ, ◌+◌, ◌≤◌, ◌<◌}
use native.Mathlib.Nat.{add-zero}
use native.Mathlib.Numerals.{towards_suc}
use native.Mathlib.Omega.{arith}
use lib.ListN.{length, get_or, take, set}
use lib.Dec.{lit<}
use lib.Seq.{sets}
use Rattle.rules.specs.Tables.{Header, Action}
use Rattle.laws.proofs.StoreLaws.{held, kept}
use Rattle.words.specs.Words.{start_word, goal_word, header_words, header_of, action_at}

pub put_action : (w : List ℕ) (b : ℕ) (a : Action) → b + 4 ≤ length w → (w' : List ℕ) → w' ≡ set (set (set (set w b a.needs) (b + 1) a.adds) (b + 2) a.dels) (b + 3) a.cost → (take b w' ≡ take b w) × (action_at w' b ≡ a)
put_action w b a h w' q =
    let vs : List ℕ = a.needs ∷ a.adds ∷ a.dels ∷ a.cost ∷ [] in
    let e : w' ≡ sets w b vs = q ∙ simp towards_suc in
    let at : (i : ℕ) → i < 4 → get_or w' (b + i) 0 ≡ get_or vs i 0 = λ i l. ap (λ (x : List ℕ). get_or x (b + i) 0) e ∙ held w vs b h i l in
    let at0 : get_or w' b 0 ≡ a.needs = ap (λ (n : ℕ). get_or w' n 0) (sym (add-zero b)) ∙ at 0 (lit< tt) in (
      ap (take b) e ∙ kept w vs b h,
      λ i. record { needs = at0 i; adds = at 1 (lit< tt) i; dels = at 2 (lit< tt) i; cost = at 3 (lit< tt) i },
    )

-- A header is its words.
pub same_header : (w w' : List ℕ) → ((i : ℕ) → i < header_words → get_or w' i 0 ≡ get_or w i 0) → header_of w' ≡ header_of w
same_header w w' at =
    λ i. record {
      facts = at 0 (lit< tt) i;
      actions = at 1 (lit< tt) i;
      abstracts = at 2 (lit< tt) i;
      methods = at 3 (lit< tt) i;
      start = at 4 (lit< tt) i;
      init = at start_word (lit< tt) i;
      goal = at goal_word (lit< tt) i;
    }

-- One that is stored.
pub put_header : (w : List ℕ) (h : Header) → header_words ≤ length w → (w' : List ℕ)
    → w' ≡ sets w 0 (h.facts ∷ h.actions ∷ h.abstracts ∷ h.methods ∷ h.start ∷ h.init ∷ h.goal ∷ []) → header_of w' ≡ h
put_header w h l w' q =
    let vs : List ℕ = h.facts ∷ h.actions ∷ h.abstracts ∷ h.methods ∷ h.start ∷ h.init ∷ h.goal ∷ [] in
    same_header vs w' (λ i k.
    let o : i ≡ 0 + i = omega arith in
    ap (λ (n : ℕ). get_or w' n 0) o ∙ ap (λ (x : List ℕ). get_or x (0 + i) 0) q ∙ held w vs 0 l i k)
