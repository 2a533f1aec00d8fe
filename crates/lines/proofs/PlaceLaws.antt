-- A line read byte by byte from a place on is the first line of the text from there on.
use Rattle.std.specs.Prelude.{Option, None, Some}
use Prim.Native.Nat.{ℕ, zero, suc, ◌+◌, ◌-◌, ◌*◌, ◌≤◌, ◌<◌}
use mathlib.Core.Path.{◌≡◌, refl, sym, ap, subst, ◌∙◌}
use mathlib.Core.Bool.{Bool, true, false, ◌&&◌, not, cond, false≢true}
use mathlib.Core.List.{List, [], ◌∷◌, ◌++◌}
use mathlib.Core.Logic.{◌≢◌}
use native.Mathlib.Omega.{arith}
use lib.Dec.{T, eqb}
use lib.ListN.{length, get_or, drop, length-append, length-drop, drop_of_length-le}
use lib.Seq.{get_or-drop, drop-drop, drop-cons, drop-append-add}
use borrow.Author.Tests.{eqb-true, eqb-false, ne_eqb}
use Rattle.rules.specs.Plans as plans
use Rattle.rules.specs.Plans.{note, oper, other, is_digit, read, unread, more, number, at_end, ending, position, space, named, letter, line_of, leftover, lines_of}
use Rattle.laws.proofs.TestLaws.{and_l, and_r, and_i}
use Rattle.line_ends.specs.Ends.{end_bytes, feed_at, Fed, Whole}
use Rattle.line_ends.proofs.EndLaws.{end_feed, end_none, end_both}
use Rattle.laws.proofs.PlanLaws.{no_more, no_feed, not_feed, no_feed_at, by_feed_lem, fed, unfed}
use Rattle.rules.specs.declared.Kind.{Kind}
use Rattle.rules.specs.declared.Kind.TheVariants.{Action, Method}
use Rattle.rules.specs.declared.Operator.{Operator as OperatorInCode}
use Rattle.lines.specs.declared.Line.{Line}
use Rattle.lines.specs.declared.Line.TheVariants.{Operator, Comment}
use Rattle.lines.specs.Places.{shortest_line, small_at, bracketed, positioned, kind_of, operator_at, line_at}
use Rattle.laws.specs.Steps.{step_of, operator_of}
use Rattle.lines.specs.Lines.{IsLine}
use Rattle.lines.proofs.LineLaws.{small_none, small_one, small_zero, small_two, small_three, close_other, close_on, close_ends, no_kind, after_kind, at_operator, at_other, at_comment}

-- The bytes from p on: cs, a line feed, rest.
abbrev Ahead : List ℕ → List ℕ → ℕ → List ℕ → Type 0
Ahead s rest p cs = drop p s ≡ cs ++ (10 ∷ rest)

-- The first of them.
abbrev first : List ℕ → ℕ
first [] = 10
first (c ∷ cs) = c

not_digit : (c d : ℕ) → is_digit c ≡ true → is_digit d ≡ false → c ≢ d
not_digit c d h k e = false≢true (sym k ∙ ap is_digit (sym e) ∙ h)

module _ (s rest : List ℕ) (p : ℕ) where
  byte_at : (cs : List ℕ) → Ahead s rest p cs → first cs ≡ get_or s p 0
  byte_at cs h =
      let e : p + 0 ≡ p = omega arith in
      go cs ∙ ap (λ (ds : List ℕ). get_or ds 0 0) (sym h) ∙ get_or-drop p s 0 0 ∙ ap (λ (n : ℕ). get_or s n 0) e
    where
      go : (cs : List ℕ) → first cs ≡ get_or (cs ++ (10 ∷ rest)) 0 0
      go [] = refl
      go (c ∷ cs) = refl

  step_on : (c : ℕ) (cs : List ℕ) → Ahead s rest p (c ∷ cs) → (q : ℕ) → q ≡ p + 1 → Ahead s rest q cs
  step_on c cs h q e = ap (λ (n : ℕ). drop n s) e ∙ sym (drop-drop 1 p s) ∙ ap (λ (ds : List ℕ). drop 1 ds) h

  rest_at : (cs : List ℕ) → Ahead s rest p cs → (q : ℕ) → q ≡ p + length cs + 1 → drop q s ≡ rest
  rest_at cs h q o =
      let e : q ≡ p + (length cs + 1) = omega arith in
      ap (λ (n : ℕ). drop n s) e ∙ sym (drop-drop (length cs + 1) p s) ∙ ap (λ (ds : List ℕ). drop (length cs + 1) ds) h
      ∙ drop-append-add cs (10 ∷ rest) 1

  feed_inside : (cs : List ℕ) → Ahead s rest p cs → p + length cs < length s
  feed_inside cs h = omega (arith, length-drop p s, ap length h, length-append cs (10 ∷ rest))

-- A number read at a place, and the number that the bytes of the line begin with.
data Alike (s rest : List ℕ) (p : ℕ) : Option (ℕ × ℕ) → plans.Digits → Type 0 where
  neither : Alike s rest p None unread
  zero_led : (d : ℕ) (cs : List ℕ) → is_digit d ≡ true → Alike s rest p None (read 0 (d ∷ cs))
  both : (v q : ℕ) (cs : List ℕ) → p < q → Ahead s rest q cs → T (no_feed cs) → Alike s rest p (Some (v, q)) (read v cs)

ended : (j n : ℕ) (cs : List ℕ) → is_digit (first cs) ≡ false → more j n cs ≡ read n cs
ended zero n [] h = refl
ended (suc j) n [] h = refl
ended j n (c ∷ cs) h = no_more j n c cs (rw h tt)

module _ (s rest : List ℕ) (p : ℕ) where
  alike : {d e : Option (ℕ × ℕ)} {x y : plans.Digits} → d ≡ e → x ≡ y → Alike s rest p d x → Alike s rest p e y
  alike {d} {e} {x} {y} f g h = subst (λ (w : plans.Digits). Alike s rest p e w) g (subst (λ (w : Option (ℕ × ℕ)). Alike s rest p w x) f h)

  -- Two digits, three, and what they are after the first two and after the first.
  two_digits : (c b : ℕ) (cs : List ℕ) → Ahead s rest p (c ∷ b ∷ cs) → T (no_feed cs) → is_digit c ≡ true → is_digit b ≡ true → c ≢ 48
      → is_digit (first cs) ≡ false → Alike s rest p (small_at s p) (more 1 ((c - 48) * 10 + (b - 48)) cs)
  two_digits c b cs h n dc db z e =
      let on-1 : Ahead s rest (p + 1) (b ∷ cs) = step_on s rest p c (b ∷ cs) h (p + 1) refl in
      let on-2 : Ahead s rest (p + 2) cs = step_on s rest (p + 1) b cs on-1 (p + 2) (omega arith) in
      alike
      (small_two s p c (byte_at s rest p (c ∷ b ∷ cs) h) dc b (byte_at s rest (p + 1) (b ∷ cs) on-1) db z (first cs) (byte_at s rest (p + 2) cs on-2) e)
      (sym (ended 1 ((c - 48) * 10 + (b - 48)) cs e))
      (both ((c - 48) * 10 + (b - 48)) (p + 2) cs (omega arith) on-2 n)

  three_digits : (c b d : ℕ) (cs : List ℕ) → Ahead s rest p (c ∷ b ∷ d ∷ cs) → T (no_feed (d ∷ cs)) → is_digit c ≡ true → is_digit b ≡ true → c ≢ 48
      → is_digit d ≡ true → Alike s rest p (small_at s p) (more 1 ((c - 48) * 10 + (b - 48)) (d ∷ cs))
  three_digits c b d cs h n dc db z dd =
      let on-1 : Ahead s rest (p + 1) (b ∷ d ∷ cs) = step_on s rest p c (b ∷ d ∷ cs) h (p + 1) refl in
      let on-2 : Ahead s rest (p + 2) (d ∷ cs) = step_on s rest (p + 1) b (d ∷ cs) on-1 (p + 2) (omega arith) in
      alike
      (small_three s p c (byte_at s rest p (c ∷ b ∷ d ∷ cs) h) dc b (byte_at s rest (p + 1) (b ∷ d ∷ cs) on-1) db z d (byte_at s rest (p + 2) (d ∷ cs) on-2) dd)
      (rw dd)
      (both (((c - 48) * 10 + (b - 48)) * 10 + (d - 48)) (p + 3) cs (omega arith)
      (step_on s rest (p + 2) d cs on-2 (p + 3) (omega arith)) (and_r (not (eqb d 10)) (no_feed cs) n))

  after_two : (c b : ℕ) (cs : List ℕ) → Ahead s rest p (c ∷ b ∷ cs) → T (no_feed cs) → is_digit c ≡ true → is_digit b ≡ true → c ≢ 48
      → (x : Bool) → is_digit (first cs) ≡ x → Alike s rest p (small_at s p) (more 1 ((c - 48) * 10 + (b - 48)) cs)
  after_two c b cs h n dc db z false e = two_digits c b cs h n dc db z e
  after_two c b [] h n dc db z true e = absurd (false≢true e)
  after_two c b (d ∷ cs) h n dc db z true e = three_digits c b d cs h n dc db z e

  begun : (c : ℕ) (cs : List ℕ) → is_digit (first cs) ≡ false → (x : Bool) → eqb c 48 ≡ x → read (c - 48) cs ≡ cond x (read 0 cs) (more 2 (c - 48) cs)
  begun c cs e true z = let o : c - 48 ≡ 0 = omega (arith, eqb-true c 48 z) in ap (λ (v : ℕ). read v cs) o
  begun c cs e false z = sym (ended 2 (c - 48) cs e)

  after_one : (c : ℕ) (cs : List ℕ) → Ahead s rest p (c ∷ cs) → T (no_feed cs) → is_digit c ≡ true → (x : Bool) → is_digit (first cs) ≡ x
      → (y : Bool) → eqb c 48 ≡ y → Alike s rest p (small_at s p) (cond y (read 0 cs) (more 2 (c - 48) cs))
  after_one c cs h n dc false e y z =
      let on-1 : Ahead s rest (p + 1) cs = step_on s rest p c cs h (p + 1) refl in
      alike
      (small_one s p c (byte_at s rest p (c ∷ cs) h) dc (first cs) (byte_at s rest (p + 1) cs on-1) e)
      (begun c cs e y z)
      (both (c - 48) (p + 1) cs (omega arith) on-1 n)
  after_one c [] h n dc true e y z = absurd (false≢true e)
  after_one c (b ∷ cs) h n dc true e true z =
      alike
      (small_zero s p c (byte_at s rest p (c ∷ b ∷ cs) h) dc b (byte_at s rest (p + 1) (b ∷ cs) (step_on s rest p c (b ∷ cs) h (p + 1) refl)) e (eqb-true c 48 z))
      refl
      (zero_led b cs e)
  after_one c (b ∷ cs) h n dc true e false z =
      alike refl (rw e) (after_two c b cs h (and_r (not (eqb b 10)) (no_feed cs) n) dc e (eqb-false c 48 z) (is_digit (first cs)) refl)

  number_read : (cs : List ℕ) → Ahead s rest p cs → T (no_feed cs) → Alike s rest p (small_at s p) (number cs)
  number_read [] h n = alike (small_none s p 10 (byte_at s rest p [] h) refl) refl neither
  number_read (c ∷ cs) h n = go (is_digit c) refl
    where
      go : (x : Bool) → is_digit c ≡ x → Alike s rest p (small_at s p) (number (c ∷ cs))
      go true e = rw e (after_one c cs h (and_r (not (eqb c 10)) (no_feed cs) n) e (is_digit (first cs)) refl (eqb c 48) refl)
      go false e = alike (small_none s p c (byte_at s rest p (c ∷ cs) h) e) (rw e) neither

-- What the code says of a line, and what the document does.
data Agrees (s rest : List ℕ) (at : ℕ) : Option Line → plans.Line → Type 0 where
  operators : (o : OperatorInCode) (next : ℕ) → drop next s ≡ rest → at + shortest_line ≤ next → next ≤ length s
      → Agrees s rest at (Some (Operator o next)) (oper (operator_of o))
  comments : (next : ℕ) → drop next s ≡ rest → at < next → next ≤ length s → Agrees s rest at (Some (Comment next)) note
  shapes : Agrees s rest at None other

agreed : (s rest : List ℕ) (at : ℕ) {c d : Option Line} {l m : plans.Line} → c ≡ d → l ≡ m → Agrees s rest at c l → Agrees s rest at d m
agreed s rest at {c} {d} {l} {m} f g h =
    subst (λ (w : plans.Line). Agrees s rest at d w) g (subst (λ (w : Option Line). Agrees s rest at w l) f h)

-- The bytes of the line's end at a place, where the document has it ended there.
data Ends (s rest : List ℕ) (p : ℕ) : Bool → Type 0 where
  ended_by : (n : ℕ) → end_bytes s p ≡ suc n → drop (p + suc n) s ≡ rest → p + suc n ≤ length s → Ends s rest p true
  no_end : end_bytes s p ≡ 0 → Ends s rest p false

module _ (s rest : List ℕ) (p : ℕ) where
  -- A test of the byte at a place is one of the line's first byte.
  tested : (cs : List ℕ) → Ahead s rest p cs → (b : ℕ) {x : Bool} → eqb (first cs) b ≡ x → x ≡ eqb (get_or s p 0) b
  tested cs h b e = sym e ∙ ap (λ (c : ℕ). eqb c b) (byte_at s rest p cs h)

  other_byte : (c : ℕ) (cs : List ℕ) → Ahead s rest p (c ∷ cs) → T (no_feed (c ∷ cs)) → false ≡ eqb (get_or s p 0) 10
  other_byte c cs h n = tested (c ∷ cs) h 10 (ne_eqb c 10 (not_feed c (and_l (not (eqb c 10)) (no_feed cs) n)))

-- A line's end at a place, and what is left of the line there.
end_read : (s rest : List ℕ) (p : ℕ) (cs : List ℕ) → Ahead s rest p cs → T (no_feed cs) → Ends s rest p (at_end cs)
end_read s rest p [] h n =
    ended_by 0 (sym (end_feed s p (tested s rest p [] h 10 refl) refl)) (rest_at s rest p [] h (p + 1) (omega arith)) (omega (arith, feed_inside s rest p [] h))
end_read s rest p (c ∷ []) h n = go (eqb c 13) refl
  where
    on : Ahead s rest (p + 1) []
    on = step_on s rest p c [] h (p + 1) refl

    both : {x : Bool} → eqb c 13 ≡ x → (x && true) ≡ (eqb (get_or s p 0) 13 && eqb (get_or s (p + 1) 0) 10)
    both e = λ i. tested s rest p (c ∷ []) h 13 e i && tested s rest (p + 1) [] on 10 {x = true} refl i

    go : (x : Bool) → eqb c 13 ≡ x → Ends s rest p x
    go true e =
        ended_by 1 (sym (end_both s p (other_byte s rest p c [] h n) refl (both e) refl)) (rest_at s rest p (c ∷ []) h (p + 2) (omega arith))
        (omega (arith, feed_inside s rest p (c ∷ []) h))
    go false e = no_end (sym (end_none s p (other_byte s rest p c [] h n) refl (both e) refl))
end_read s rest p (c ∷ d ∷ cs) h n = no_end (sym (end_none s p (other_byte s rest p c (d ∷ cs) h n) refl both refl))
  where
    none : (x : Bool) → false ≡ (x && false)
    none true = refl
    none false = refl

    both : false ≡ (eqb (get_or s p 0) 13 && eqb (get_or s (p + 1) 0) 10)
    both =
        none (eqb (get_or s p 0) 13)
        ∙ ap (λ (x : Bool). eqb (get_or s p 0) 13 && x)
        (other_byte s rest (p + 1) d cs (step_on s rest p c (d ∷ cs) h (p + 1) refl) (and_r (not (eqb c 10)) (no_feed (d ∷ cs)) n))

module _ (s rest : List ℕ) (at : ℕ) (kind : Kind) where
  -- The bytes after a position.
  bracket_read : (number i q : ℕ) (cs : List ℕ) → at + 5 ≤ q → Ahead s rest q cs → T (no_feed cs)
      → Agrees s rest at (bracketed s kind number (Some (i, q))) (ending (step_of kind number) i cs)
  bracket_read number i q [] lq h n = agreed s rest at (close_other s kind number i q 10 (byte_at s rest q [] h) (λ e. omega arith)) refl shapes
  bracket_read number i q (c ∷ cs) lq h n = go (eqb c 41) refl
    where
      byte : c ≡ get_or s q 0
      byte = byte_at s rest q (c ∷ cs) h

      by_end : eqb c 41 ≡ true → {x : Bool} → at_end cs ≡ x → Ends s rest (q + 1) x
          → Agrees s rest at (bracketed s kind number (Some (i, q))) (ending (step_of kind number) i (c ∷ cs))
      by_end e a (ended_by m g b w) =
          agreed s rest at (close_ends s kind number i q c byte (eqb-true c 41 e) (sym g) (λ z. omega arith) _ refl) (rw (e, a))
          (operators (record { kind = kind; number = number; position = i }) (q + 1 + suc m) b (omega arith) w)
      by_end e a (no_end g) = agreed s rest at (close_on s kind number i q c byte (eqb-true c 41 e) (sym g) refl) (rw (e, a)) shapes

      go : (x : Bool) → eqb c 41 ≡ x → Agrees s rest at (bracketed s kind number (Some (i, q))) (ending (step_of kind number) i (c ∷ cs))
      go true e = by_end e refl (end_read s rest (q + 1) cs (step_on s rest q c cs h (q + 1) refl) (and_r (not (eqb c 10)) (no_feed cs) n))
      go false e = agreed s rest at (close_other s kind number i q c byte (eqb-false c 41 e)) (rw e) shapes

  position_read : (number p : ℕ) {d : Option (ℕ × ℕ)} {e : plans.Digits} → at + 4 ≤ p → Alike s rest p d e
      → Agrees s rest at (bracketed s kind number d) (position (step_of kind number) e)
  position_read number p lp neither = shapes
  position_read number p lp (zero_led d cs h) = rw (ne_eqb d 41 (not_digit d 41 h refl)) shapes
  position_read number p lp (both i q cs lq h n) = bracket_read number i q cs (omega arith) h n

  space_read : (number q : ℕ) (cs : List ℕ) → at + 3 ≤ q → Ahead s rest q cs → T (no_feed cs)
      → Agrees s rest at (positioned s kind (Some (number, q))) (space (step_of kind number) cs)
  space_read number q [] lq h n = agreed s rest at (rw (← byte_at s rest q [] h)) refl shapes
  space_read number q (c ∷ cs) lq h n = go (eqb c 32) refl
    where
      go : (x : Bool) → eqb c 32 ≡ x → Agrees s rest at (positioned s kind (Some (number, q))) (space (step_of kind number) (c ∷ cs))
      go true e =
          agreed s rest at (rw (← byte_at s rest q (c ∷ cs) h, e)) (rw e)
          (position_read number (q + 1) (omega arith)
          (number_read s rest (q + 1) cs (step_on s rest q c cs h (q + 1) refl) (and_r (not (eqb c 10)) (no_feed cs) n)))
      go false e = agreed s rest at (rw (← byte_at s rest q (c ∷ cs) h, e)) (rw e) shapes

  name_read : (p : ℕ) {d : Option (ℕ × ℕ)} {e : plans.Digits} → at + 2 ≤ p → Alike s rest p d e → Agrees s rest at (positioned s kind d) (named (step_of kind) e)
  name_read p lp neither = shapes
  name_read p lp (zero_led d cs h) = rw (ne_eqb d 32 (not_digit d 32 h refl)) shapes
  name_read p lp (both number q cs lq h n) = space_read number q cs (omega arith) h n

-- What follows the opening bracket.
module _ (s rest : List ℕ) (at : ℕ) where
  operator_read : (cs : List ℕ) → Ahead s rest (at + 1) cs → T (no_feed cs) → Agrees s rest at (operator_at s at) (letter cs)
  operator_read [] h n = agreed s rest at (no_kind s at 10 (byte_at s rest (at + 1) [] h) refl) refl shapes
  operator_read (c ∷ cs) h n = go (eqb c 97) refl (eqb c 109) refl
    where
      byte : c ≡ get_or s (at + 1) 0
      byte = byte_at s rest (at + 1) (c ∷ cs) h

      name : Alike s rest (at + 2) (small_at s (at + 2)) (number cs)
      name = number_read s rest (at + 2) cs (step_on s rest (at + 1) c cs h (at + 2) (omega arith)) (and_r (not (eqb c 10)) (no_feed cs) n)

      of_kind : (kind : Kind) → kind_of c ≡ Some kind → Agrees s rest at (operator_at s at) (named (step_of kind) (number cs))
      of_kind kind e = agreed s rest at (sym (after_kind s at c byte e)) refl (name_read s rest at kind (at + 2) (omega arith) name)

      go : (x : Bool) → eqb c 97 ≡ x → (y : Bool) → eqb c 109 ≡ y → Agrees s rest at (operator_at s at) (letter (c ∷ cs))
      go true e y f = agreed s rest at refl (rw e) (of_kind Action (rw e))
      go false e true f = agreed s rest at refl (rw (e, f)) (of_kind Method (rw (e, f)))
      go false e false f = agreed s rest at (no_kind s at c byte (rw (e, f))) (rw (e, f)) shapes

-- Where the first line feed is.
feed_after : (cs rest : List ℕ) → T (no_feed cs) → feed_at (cs ++ (10 ∷ rest)) ≡ length cs
unfolding feed_at
feed_after [] rest h = refl
feed_after (c ∷ cs) rest h =
    rw (ne_eqb c 10 (not_feed c (and_l (not (eqb c 10)) (no_feed cs) h))) (ap suc (feed_after cs rest (and_r (not (eqb c 10)) (no_feed cs) h)))

-- A line that ends with a line feed.
module _ (s rest : List ℕ) (at : ℕ) where
  line_read : (cs : List ℕ) → Ahead s rest at cs → T (no_feed cs) → Agrees s rest at (line_at s at) (line_of cs)
  line_read [] h n = agreed s rest at (at_other s at 10 (byte_at s rest at [] h) (λ e. omega arith) (λ e. omega arith)) refl shapes
  line_read (c ∷ cs) h n = go (eqb c 59) refl (eqb c 40) refl
    where
      byte : c ≡ get_or s at 0
      byte = byte_at s rest at (c ∷ cs) h

      feed : at + length (c ∷ cs) ≡ at + feed_at (drop at s)
      feed = ap (λ (m : ℕ). at + m) (sym (feed_after (c ∷ cs) rest n) ∙ ap feed_at (sym h))

      inside : at + length (c ∷ cs) < length s
      inside = feed_inside s rest at (c ∷ cs) h

      go : (x : Bool) → eqb c 59 ≡ x → (y : Bool) → eqb c 40 ≡ y → Agrees s rest at (line_at s at) (line_of (c ∷ cs))
      go true e y f =
          agreed s rest at
          (at_comment s at c byte (λ z. omega (arith, eqb-true c 59 e)) (eqb-true c 59 e) (at + length (c ∷ cs)) feed)
          (rw e)
          (comments (at + length (c ∷ cs) + 1) (rest_at s rest at (c ∷ cs) h _ refl) (omega arith) (omega (arith, inside)))
      go false e true f =
          agreed s rest at (at_operator s at c byte (eqb-true c 40 f)) (rw (e, f))
          (operator_read s rest at cs (step_on s rest at c cs h (at + 1) refl) (and_r (not (eqb c 10)) (no_feed cs) n))
      go false e false f = agreed s rest at (at_other s at c byte (eqb-false c 40 f) (eqb-false c 59 e)) (rw (e, f)) shapes

-- No line feed from a place on.
none_left : (ds : List ℕ) → ((i : ℕ) → get_or ds i 0 ≢ 10) → T (no_feed ds)
none_left [] h = tt
none_left (d ∷ ds) h = and_i (not (eqb d 10)) (no_feed ds) (rw (ne_eqb d 10 (h 0)) tt) (none_left ds (λ i. h (suc i)))

pub left_over : {s : List ℕ} {end : ℕ} → Whole s end → (at : ℕ) → end ≤ at → at < length s → lines_of (drop at s) ≡ other ∷ []
unfolding lines_of
left_over {s} w at h l =
    unfed [] (drop at s) (none_left (drop at s) (λ i e. w.none_after (at + i) (omega arith) (sym (get_or-drop at s i 0) ∙ e)))
    ∙ ap leftover (drop-cons s at 0 l)

first_line : (s rest : List ℕ) (at : ℕ) {r : Option Line} {l : plans.Line} → lines_of (drop at s) ≡ l ∷ lines_of rest → Agrees s rest at r l → IsLine s at r
first_line s rest at e (operators o next b l w) =
    record { lines = e ∙ ap (λ (ds : List ℕ). oper (operator_of o) ∷ lines_of ds) (sym b); onward = l; within = w }
first_line s rest at e (comments next b o w) = record { lines = e ∙ ap (λ (ds : List ℕ). note ∷ lines_of ds) (sym b); onward = o; within = w }
first_line s rest at e shapes = (lines_of rest, e)

pub told : {s : List ℕ} {at : ℕ} {r : Option Line} → Fed s at → r ≡ line_at s at → IsLine s at r
unfolding lines_of
told {s} {at} {r} f e =
    subst (λ (x : Option Line). IsLine s at x) (sym e)
    (by_feed_lem (drop at s)
    (λ n. absurd (no_feed_at (drop at s) n (f.feed - at) feed_there))
    (λ cs rest n h. first_line s rest at (ap lines_of h ∙ fed [] cs rest n) (line_read s rest at cs h n)))
  where
    feed_there : get_or (drop at s) (f.feed - at) 0 ≡ 10
    feed_there =
        let o : at + (f.feed - at) ≡ f.feed = omega (arith, f.ahead) in
        get_or-drop at s (f.feed - at) 0 ∙ ap (λ (i : ℕ). get_or s i 0) o ∙ f.ends

pub no_line : (s : List ℕ) (at : ℕ) → length s ≤ at → lines_of (drop at s) ≡ []
unfolding lines_of
no_line s at l = rw (drop_of_length-le s l)
