-- One section, measured or written: what its length, and what a writer left, say of the call's answer.
use mathlib.Core.Path.{◌≡◌, refl, sym, ap, ◌∙◌}
use mathlib.Core.Bool.{Bool}
use mathlib.Core.List.{List, [], ◌++◌, append-nil}
use Prim.Native.Nat.{ℕ, ◌+◌, ◌-◌, ◌≤◌, ◌<◌}
use native.Mathlib.Nat.{le_refl}
use native.Mathlib.Decide.{dec_le}
use native.Mathlib.Omega.{arith}
use borrow.Author.Tests.{le-leb, lt-leb}
use borrow.Rule.Slice.PartMut.{put_mid}
use lib.Dec.{leb}
use lib.ListN.{length, take, drop, length-drop, take-append-drop, drop_of_length-le}
use lib.Seq.{take_all, drop-drop}
use Rattle.basics.specs.Answers.{Answer, answer, refusal, check, after, length_of}
use Rattle.rules.specs.Reasons.{no_room}
use Rattle.rules.specs.Refusals.{room_of, room_for, written}
use Rattle.laws.proofs.RefusalLaws.{room_short, room_length}

-- ---- room

-- A section has room where its length has.
measured_length : (size at : ℕ) (x : Answer (List ℕ)) → length_of (after x (room_for size at)) ≡ after (length_of x) (room_of size at)
measured_length size at (answer x) = room_length size at x
measured_length size at (refusal number place) = refl

pub room_told : (size at : ℕ) (x : Answer (List ℕ)) {y r : Answer ℕ} → y ≡ length_of x → r ≡ after y (room_of size at) → r ≡ length_of (after x (room_for size at))
room_told size at x e q = q ∙ ap (λ (z : Answer ℕ). after z (room_of size at)) e ∙ sym (measured_length size at x)

-- ---- the part of a text from a place on

module _ (old : List ℕ) (at : ℕ) (l : at ≤ length old) where
  abbrev part : List ℕ
  part = take (length old - at) (drop at old)

  part_is : part ≡ drop at old
  part_is = take_all (length old - at) (drop at old) (rw length-drop (le_refl (length old - at)))

  part_test : (n : ℕ) → leb (0 + n) (length part) ≡ leb (at + n) (length old)
  part_test n =
      let m : length part ≡ length old - at = ap length part_is ∙ length-drop at old in
      elim (dec_le (at + n) (length old)) [
        | yes h ↦ le-leb (0 + n) (length part) (omega arith) ∙ sym (le-leb (at + n) (length old) h)
        | no h ↦ lt-leb (0 + n) (length part) (omega arith) ∙ sym (lt-leb (at + n) (length old) (omega arith))
      ]

  -- The part has room where the text has.
  pub part_room : (x : Answer (List ℕ)) → after x (room_for (length part) 0) ≡ after x (room_for (length old) at)
  part_room (answer x) = ap (λ (c : Bool). after (check c no_room (length x) (answer (length x))) (λ _. answer x)) (part_test (length x))
  part_room (refusal number place) = refl

  part_text : (x : Answer (List ℕ)) → take at old ++ written (drop at old) 0 x ≡ written old at x
  unfolding written
  part_text (answer x) =
      let e : at + (0 + length x) ≡ at + length x = omega arith in
      ap (λ (r : List ℕ). take at old ++ (x ++ r)) (drop-drop (0 + length x) at old ∙ ap (λ (n : ℕ). drop n old) e)
  part_text (refusal number place) = take-append-drop at old

  -- What is written into the part is written into the text.
  pub part_back : (x : Answer (List ℕ)) → put_mid at (length old - at) old (written part 0 x) ≡ written old at x
  part_back x =
      let gone : drop (length old - at) (drop at old) ≡ [] = drop_of_length-le (drop at old) {i = length old - at} (rw length-drop (le_refl (length old - at))) in
      rw (part_is, gone, append-nil (written (drop at old) 0 x)) (part_text x)

-- ---- a place past the end of the text

-- Nothing is written.
pub kept_past : (old : List ℕ) (at : ℕ) → length old < at → (x : Answer (List ℕ)) → written old at (after x (room_for (length old) at)) ≡ old
unfolding written
kept_past old at l (answer x) = rw (room_short (length old) at x (omega arith))
kept_past old at l (refusal number place) = refl
