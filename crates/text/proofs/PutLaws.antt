-- Laws of writers that count where there is no room: two, one after the other, write one text.
use mathlib.Core.Path.{◌≡◌, refl, sym, ap, ◌∙◌}
use mathlib.Core.List.{List, [], ◌∷◌, ◌++◌}
use Prim.Native.Nat.{ℕ, ◌+◌, ◌/◌, ◌%◌, ◌≤◌, ◌<◌}
use native.Mathlib.Omega.{arith}
use lib.ListN.{length, length-append}
use lib.Seq.{sets}
use Rattle.basics.specs.Texts.{digits}
use Rattle.laws.proofs.StepLaws.{sets_append}
use Rattle.laws.proofs.TextLaws.{digits_one, digits_more}
use Rattle.text.specs.Appends.{Appends}
use Rattle.text.specs.Puts.{Puts}
use Rattle.text.proofs.AppendLaws.{appends_sets}

-- Nothing.
pub puts_none : (o : List ℕ) (a : ℕ) → Puts o a [] o a
puts_none o a = record { next = omega arith; size = refl; text = λ _. refl }

-- One text and then another.
pub ◌▹◌ : {o x n y m : List ℕ} {a r s : ℕ} → Puts o a x n r → Puts n r y m s → Puts o a (x ++ y) m s
◌▹◌ {o} {x} {n} {y} {m} {a} {r} {s} w v =
    record {
      next = v.next ∙ rw (length-append, w.next) (omega arith);
      size = v.size ∙ w.size;
      text = λ (h : s ≤ length o).
          v.text (omega (arith, w.size))
          ∙ ap (λ (l : List ℕ). sets l r y) (w.text (omega (arith, v.next)))
          ∙ ap (λ (k : ℕ). sets (sets o a x) k y) w.next
          ∙ sets_append x y o a;
    }

infixl 20 ◌▹◌
-- The same text, said otherwise.
pub puts_is : {o x y n : List ℕ} {a r : ℕ} → y ≡ x → Puts o a x n r → Puts o a y n r
puts_is e w = rw e w

-- A number, by its last digit b.
module _ {o n : List ℕ} {a r b : ℕ} (k : ℕ) where
  pub number_one : k < 10 → b ≡ 48 + k % 10 → Puts o a (b ∷ []) n r → Puts o a (digits k) n r
  number_one h e w = puts_is (digits_one k h ∙ ap (λ (c : ℕ). c ∷ []) (sym e)) w

  pub number_more : {m : List ℕ} {q : ℕ} → 10 ≤ k → Puts o a (digits (k / 10)) m q → b ≡ 48 + k % 10 → Puts m q (b ∷ []) n r
      → Puts o a (digits k) n r
  number_more h w e v = puts_is (digits_more k h ∙ ap (λ (c : ℕ). digits (k / 10) ++ (c ∷ [])) (sym e)) (w ▹ v)

-- Where there is room, the text stands after what was before it.
pub appended : {o x n : List ℕ} {a r : ℕ} → Puts o a x n r → r ≤ length o → Appends o a x n r
appended {o} {x} {n} {a} {r} w h =
    rw w.next (appends_sets o x n a (omega (arith, w.next)) (w.text h) w.size)
