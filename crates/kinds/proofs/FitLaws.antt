-- A section that was measured and then written where it fits, and what that says of the section that was asked for.
use mathlib.Core.Path.{◌≡◌, sym, ap, ◌∙◌}
use mathlib.Core.List.{List}
use Prim.Native.Nat.{ℕ, ◌+◌, ◌≤◌, ◌<◌}
use native.Mathlib.Omega.{arith}
use lib.ListN.{length}
use Rattle.basics.specs.Answers.{Answer, answer, refusal, after, length_of}
use Rattle.rules.specs.Refusals.{room_for, written}
use Rattle.laws.proofs.RefusalLaws.{stores_written, room_short, room_fits}
use Rattle.text.specs.Puts.{Puts}
use Rattle.kinds.specs.Fits.{Fits}

-- Measured by a writer that is lent nothing.
module _ {none x none' : List ℕ} {n : ℕ} (m : Puts none 0 x none' n) where
  pub fits_short : (old : List ℕ) → length old < n → Fits old x old n
  unfolding written
  fits_short old l =
      record { long = omega (arith, m.next); text = sym (ap (written old 0) (room_short (length old) 0 x (omega (arith, m.next)))) }

  pub fits_put : {old new : List ℕ} {r : ℕ} → n ≤ length old → Puts old 0 x new r → Fits old x new r
  fits_put {old} {new} {r} l w =
      let room : 0 + length x ≤ length old = omega (arith, m.next) in
      record {
        long = omega (arith, w.next);
        text = w.text (omega (arith, w.next)) ∙ stores_written old x 0 room ∙ sym (ap (written old 0) (room_fits (length old) 0 x room));
      }

-- The section that was asked for.
pub fits_chosen : {old x new : List ℕ} {r : ℕ} (y : Answer (List ℕ)) → y ≡ answer x → Fits old x new r
    → (answer r ≡ length_of y) × (new ≡ written old 0 (after y (room_for (length old) 0)))
fits_chosen {old} y e w =
    (ap answer w.long ∙ sym (ap length_of e), w.text ∙ sym (ap (λ (z : Answer (List ℕ)). written old 0 (after z (room_for (length old) 0))) e))

-- No such section.
pub none_chosen : (old : List ℕ) (y : Answer (List ℕ)) {number place : ℕ} → y ≡ refusal number place
    → (refusal number place ≡ length_of y) × (old ≡ written old 0 (after y (room_for (length old) 0)))
unfolding written
none_chosen old y e =
    (sym (ap length_of e), sym (ap (λ (z : Answer (List ℕ)). written old 0 (after z (room_for (length old) 0))) e))
