-- Parts that follow one another join to the whole.
use Prim.Native.Nat.{ℕ, zero, suc, ◌≤◌, ◌<◌}
use mathlib.Core.Path.{◌≡◌, sym, ap, ◌∙◌}
use mathlib.Core.List.{List, [], ◌∷◌, ◌++◌, map, append_assoc, append-nil}
use native.Mathlib.Omega.{arith}
use lib.ListN.{length, take}
use Rattle.basics.specs.Lists.{upto, concat}
use Rattle.text.specs.Appends.{Appends}
use Rattle.report.specs.declared.Part.{Part}
use Rattle.report.specs.Parts.{next_of, size_of, Moves, Says, Sent, Follow}

-- What was sent.
abbrev pub sent : List Sent → List ℕ
sent ps = concat (map (λ (p : Sent). p.text) ps)

module _ (f : ℕ → List ℕ) where
  joined_from : (n m : ℕ) (ps : List Sent) → Follow f n m ps → upto f n ≡ upto f m ++ sent ps
  unfolding Follow concat
  joined_from n m [] e = ap (upto f) (sym e) ∙ sym (append-nil (upto f m))
  joined_from n m (p ∷ ps) h =
      joined_from n p.next ps h.1 ∙ ap (λ (x : List ℕ). x ++ sent ps) h.0 ∙ append_assoc (upto f m) p.text (sent ps)

  pub joined : (n : ℕ) (ps : List Sent) → Follow f n 0 ps → sent ps ≡ upto f n
  unfolding upto
  joined n ps h = sym (joined_from n 0 ps h)

-- One part that is all there is to write.
pub only_part : (x : List ℕ) {old new : List ℕ} (next size : ℕ) → next < 1 → Appends old 0 x new size
    → upto (λ _. x) 1 ≡ upto (λ _. x) next ++ take size new
unfolding upto
only_part x zero size h w = sym w.text
only_part x (suc n) size h w = absurd (omega arith)

-- What a part says, and how it moves, by its two numbers.
pub part_says : (f : ℕ → List ℕ) (from n size : ℕ) (out : List ℕ) (r : Part) → (next_of r ≡ n) × (size_of r ≡ size)
    → upto f n ≡ upto f from ++ take size out
    → Says f from out r
part_says f from n size out r e w = rw (e.0, e.1) w

pub part_moves : (all from n size : ℕ) (out : List ℕ) (r : Part) → (next_of r ≡ n) × (size_of r ≡ size) → from < n → n ≤ all → size ≤ length out
    → Moves all from out r
part_moves all from n size out r e h k l = record { some = omega (arith, e.0); most = omega (arith, e.0); size = omega (arith, e.1) }

-- One part that is all there is to write, as its writer left it.
pub only_sent : {x old new : List ℕ} {n size : ℕ} {r : Part} → (next_of r ≡ n) × (size_of r ≡ size) → Appends old 0 x new size → take (size_of r) new ≡ x
only_sent {new = new} e w = ap (λ (k : ℕ). take k new) e.1 ∙ w.text
