-- Steps of composing, one after the other.
use Prim.Native.Nat.{ℕ, ◌+◌, ◌≤◌}
use mathlib.Core.Path.{◌≡◌, refl, ap, ◌∙◌}
use mathlib.Core.List.{List, [], ◌++◌, append_assoc, append-nil}
use native.Mathlib.Omega.{arith}
use lib.ListN.{length}
use Rattle.basics.specs.Texts.{digits}
use Rattle.text.specs.Puts.{Puts}
use Rattle.text.proofs.PutLaws.{appended}
use Rattle.template.specs.declared.memory.Template.{Template}
use Rattle.template.specs.Templates.{Blank, Stands, Keeps, rendered}
use Rattle.template.proofs.TemplateLaws.{stands_none, rendered_none, stands_text, rendered_text}
use Rattle.drawing.specs.Pieces.{Piece, ◌then◌, fixed, moving}
use Rattle.drawing.specs.Draws.{Room, Draws, Writes}

-- Nothing.
pub draws_none : {x : Piece} {t : Template} → ((p : ℕ) → x.text p ≡ []) → Draws x t t
draws_none {x} {t} e =
    record {
      stands = λ s. s;
      text = λ _ p. append_nil_of (rendered t p) (x.text p) (e p);
      most = omega arith;
      count = omega arith;
      memory = record { text = refl; numbers = refl; text_length = refl; numbers_length = refl };
    }
  where
    append_nil_of : (x y : List ℕ) → y ≡ [] → x ≡ x ++ y
    append_nil_of x y e = rw (e, append-nil)

-- Text in which nothing moves.
pub writes_text : {t t' : Template} {y : List ℕ} {b : ℕ} → t'.text.ghost_name ≡ t.text.ghost_name → t'.numbers ≡ t.numbers → t'.from ≡ t.from
    → t'.count ≡ t.count → t.at + b ≤ length t.text.now → t'.at ≤ t.at + b → Puts t.text.now t.at y t'.text.now t'.at → Writes (fixed y b) t t'
writes_text {t} {t'} m n f c s k w =
    let numbers : t'.numbers.now ≡ t.numbers.now = λ i. (n i).now in
    record {
      draws = record {
        stands = stands_text numbers f c;
        text = λ h. rendered_text t t' h numbers f c (appended w (omega (arith, s, k)));
        most = k;
        count = omega (arith, c);
        memory = record { text = m; numbers = λ i. (n i).ghost_name; text_length = w.size; numbers_length = ap length numbers };
      };
      numbers = numbers;
    }

-- A number that moves.
pub draws_number : {t t' : Template} (o : ℕ) → (Stands t → Stands t')
    → (Stands t → (p : ℕ) → rendered t' p ≡ rendered t p ++ digits (p + o))
    → (t'.at ≡ t.at) × (t'.count ≡ t.count + 1) → Keeps t t' → Draws (moving [] o) t t'
draws_number o s d m k = record { stands = s; text = d; most = omega (arith, m.0); count = omega (arith, m.1); memory = k }

pub keeps_both : {t q r : Template} → Keeps t q → Keeps q r → Keeps t r
keeps_both d e =
    record {
      text = e.text ∙ d.text;
      numbers = e.numbers ∙ d.numbers;
      text_length = e.text_length ∙ d.text_length;
      numbers_length = e.numbers_length ∙ d.numbers_length;
    }

-- One step and then another.
pub ◌▹◌ : {x y : Piece} {t q r : Template} → Draws x t q → Draws y q r → Draws (x then y) t r
◌▹◌ {x} {y} {t} d e =
    record {
      stands = λ s. e.stands (d.stands s);
      text = λ s p. e.text (d.stands s) p ∙ ap (λ (l : List ℕ). l ++ y.text p) (d.text s p) ∙ append_assoc (rendered t p) (x.text p) (y.text p);
      most = omega (arith, d.most, e.most);
      count = omega (arith, d.count, e.count);
      memory = keeps_both d.memory e.memory;
    }

infixl 20 ◌▹◌
-- The same text, said otherwise, within wider bounds.
pub draws_is : {x y : Piece} {t t' : Template} → x.bytes ≤ y.bytes → x.numbers ≤ y.numbers → ((p : ℕ) → x.text p ≡ y.text p)
    → Draws x t t' → Draws y t t'
draws_is {t = t} h k e d =
    record {
      stands = d.stands;
      text = λ s p. d.text s p ∙ ap (λ (l : List ℕ). rendered t p ++ l) (e p);
      most = omega (arith, d.most);
      count = omega (arith, d.count);
      memory = d.memory;
    }

-- Less room than there is, and the room that is left after a step.
pub room_less : {x y : Piece} {t : Template} → Room x t → y.bytes ≤ x.bytes → y.numbers ≤ x.numbers → Room y t
room_less r h k = record { bytes = omega (arith, r.bytes); numbers = omega (arith, r.numbers) }

pub room_after : {x y z : Piece} {t t' : Template} → Room x t → Draws y t t' → y.bytes + z.bytes ≤ x.bytes
    → y.numbers + z.numbers ≤ x.numbers → Room z t'
room_after r d h k =
    record {
      bytes = omega (arith, r.bytes, d.most, d.memory.text_length);
      numbers = omega (arith, r.numbers, d.count, d.memory.numbers_length);
    }

-- All that a template says, where nothing was drawn before.
pub drawn_stands : {x : Piece} {t t' : Template} → Blank t → Draws x t t' → Stands t'
drawn_stands b d = d.stands (stands_none b)

pub drawn_all : {x : Piece} {t t' : Template} → Blank t → Draws x t t' → (p : ℕ) → rendered t' p ≡ x.text p
drawn_all {x} b d p = d.text (stands_none b) p ∙ ap (λ (l : List ℕ). l ++ x.text p) (rendered_none b p)
