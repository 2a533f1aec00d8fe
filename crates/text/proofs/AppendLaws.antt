-- Laws of what writers leave: two, one after the other, write one text.
use mathlib.Core.Path.{◌≡◌, refl, sym, ap, ◌∙◌}
use mathlib.Core.List.{List, [], ◌∷◌, ◌++◌, append-nil, append_assoc}
use Prim.Native.Nat.{ℕ, ◌+◌, ◌-◌, ◌≤◌, ◌<◌}
use native.Mathlib.Numerals.{add-one}
use native.Mathlib.Omega.{arith}
use lib.ListN.{length, take, drop, set, get_or, length-append, length-set}
use lib.Seq.{
  drop_at,
  length-take-le,
  sets,
  sets-eq,
  take-add,
  take-append-add,
  take_at,
  take-suc,
  take-suc-set,
  take-take,
}
use Rattle.laws.proofs.StepLaws.{sets_append}
use Rattle.text.specs.Appends.{Appends}

-- Nothing.
pub appends_none : (o : List ℕ) (a : ℕ) → Appends o a [] o a
appends_none o a = record { next = omega arith; size = refl; text = sym (append-nil (take a o)) }

-- One text and then another.
pub ◌▸◌ : {o x n y m : List ℕ} {a r s : ℕ} → Appends o a x n r → Appends n r y m s → Appends o a (x ++ y) m s
◌▸◌ {o} {x} {n} {y} {m} {a} {r} {s} w v =
    record {
      next = v.next ∙ rw (length-append, w.next) (omega arith);
      size = v.size ∙ w.size;
      text = v.text ∙ ap (λ (l : List ℕ). l ++ y) w.text ∙ append_assoc (take a o) x y;
    }

infixl 20 ◌▸◌
-- The same text, said otherwise.
pub appends_is : {o x y n : List ℕ} {a r : ℕ} → y ≡ x → Appends o a x n r → Appends o a y n r
appends_is e w = rw e w

-- More was put than is counted.
pub appends_less : {o y n : List ℕ} {a s : ℕ} (k : ℕ) → a ≤ length o → k ≤ length y → Appends o a y n s
    → Appends o a (take k y) n (a + k)
appends_less {o} {y} {n} {a} {s} k h p w =
    let l : length (take a o) ≡ a = length-take-le a o h in
    record {
      next = rw (length-take-le k y p);
      size = w.size;
      text = sym (take-take (a + k) s n (omega (arith, w.next)))
          ∙ ap (take (a + k)) w.text
          ∙ ap (λ (q : ℕ). take (q + k) (take a o ++ y)) (sym l)
          ∙ take-append-add (take a o) y k;
    }

-- A writer that leaves all else as it was.
pub appends_sets : (o x n : List ℕ) (a : ℕ) → a + length x ≤ length o → n ≡ sets o a x → length n ≡ length o
    → Appends o a x n (a + length x)
appends_sets o x n a h e l =
    let front : length (take a o ++ x) ≡ a + length x =
    length-append (take a o) x ∙ ap (λ (q : ℕ). q + length x) (length-take-le a o (omega arith)) in
    record {
      next = refl;
      size = l;
      text = ap (take (a + length x)) (e ∙ sets-eq x o a h)
          ∙ take_at (take a o ++ x) (drop (a + length x) o) (a + length x) front;
    }

-- One byte, and the same with its next place said otherwise.
pub appends_one : (o : List ℕ) (a b : ℕ) → a < length o → Appends o a (b ∷ []) (set o a b) (a + 1)
appends_one o a b h =
    record { next = refl; size = length-set o a b; text = rw (add-one a) (take-suc-set o a b h) }

pub appends_at : (o : List ℕ) (a b r : ℕ) → a < length o → r ≡ a + 1 → Appends o a (b ∷ []) (set o a b) r
appends_at o a b r h e = rw e (appends_one o a b h)

-- A part of a list, from a longer front of it.
pub drop_take : (l : List ℕ) (a b c : ℕ) → a ≤ length l → a + b ≤ c → take b (drop a (take c l)) ≡ take b (drop a l)
drop_take l a b c h p =
    let e : c ≡ a + (c - a) = omega arith in
    ap (λ (k : ℕ). take b (drop a (take k l))) e
    ∙ ap (λ (x : List ℕ). take b (drop a x)) (take-add a (c - a) l)
    ∙ ap (take b) (drop_at (take a l) (take (c - a) (drop a l)) a (length-take-le a l h))
    ∙ take-take b (c - a) (drop a l) (omega arith)

-- ---- a copy, byte by byte

-- One byte more of s.
pub sets_more : (l s : List ℕ) (at i : ℕ) → i < length s
    → set (sets l at (take i s)) (at + i) (get_or s i 0) ≡ sets l at (take (i + 1) s)
sets_more l s at i h =
    ap (λ (k : ℕ). set (sets l at (take i s)) (at + k) (get_or s i 0)) (sym (length-take-le i s (omega arith)))
    ∙ sets_append (take i s) (get_or s i 0 ∷ []) l at
    ∙ ap (sets l at) (sym (ap (λ (k : ℕ). take k s) (add-one i) ∙ take-suc s i 0 h))
