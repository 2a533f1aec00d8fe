-- Actions and header that are kept in the words, and the table that they hold.
use mathlib.Core.Path.{◌≡◌, ap, ◌∙◌}
use mathlib.Core.List.{List}
use Prim.Native.Nat.{ℕ, ◌+◌, ◌*◌, ◌≤◌, ◌<◌}
use native.Mathlib.Omega.{arith}
use lib.ListN.{get_or, take}
use Rattle.rules.specs.Limits.{most_actions}
use Rattle.basics.specs.Lists.{rows}
use Rattle.words.specs.Words.{header_of, action_of, method_of, table_of, header_words, per_action, first_method}
use Rattle.rules.specs.Tables.{Header}
use Rattle.words.proofs.PutLaws.{same_header}
use Rattle.laws.proofs.StoreLaws.{below, kept_less}
use Rattle.laws.proofs.ListLaws.{rows_same}

-- The actions before the k-th are kept.
pub action_kept : (w w' : List ℕ) (k : ℕ) → take (header_words + per_action * k) w' ≡ take (header_words + per_action * k) w → (j : ℕ) → j < k → action_of w' j ≡ action_of w j
action_kept w w' k q j l =
    let at : (i : ℕ) → i < header_words + per_action * k → get_or w' i 0 ≡ get_or w i 0 = below w w' (header_words + per_action * k) q in
    λ i. record { needs = at (header_words + per_action * j) (omega arith) i; adds = at (header_words + per_action * j + 1) (omega arith) i; dels = at (header_words + per_action * j + 2) (omega arith) i; cost = at (header_words + per_action * j + 3) (omega arith) i }

-- The header is kept.
header_kept : (w w' : List ℕ) → take header_words w' ≡ take header_words w → header_of w' ≡ header_of w
header_kept w w' q = same_header w w' (below w w' header_words q)

-- The table that the words hold, from what each part left in them.
pub table_held : (w₁ w₂ w₃ : List ℕ) (h : Header) → header_of w₁ ≡ h → take header_words w₂ ≡ take header_words w₁ → take first_method w₃ ≡ take first_method w₂ → h.actions ≤ most_actions → table_of w₃ ≡ record { head = h; actions = rows (action_of w₂) h.actions; methods = rows (method_of w₃) h.methods }
table_held w₁ w₂ w₃ h e p q l =
    let hd : header_of w₃ ≡ h = header_kept w₂ w₃ (kept_less w₂ w₃ header_words first_method (omega arith) q) ∙ header_kept w₁ w₂ p ∙ e in
    let acts : rows (action_of w₃) (get_or w₃ 1 0) ≡ rows (action_of w₂) h.actions =
    ap (λ (x : Header). rows (action_of w₃) x.actions) hd
    ∙ rows_same (action_of w₃) (action_of w₂) h.actions (action_kept w₂ w₃ h.actions (kept_less w₂ w₃ (header_words + per_action * h.actions) first_method (omega arith) q)) in
    λ i. record { head = hd i; actions = acts i; methods = rows (method_of w₃) (hd i).methods }
