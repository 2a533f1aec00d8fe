-- Which bytes are a comment, which the text of an operator, and which neither, both ways; and which texts are lines in shape.
use Prim.Native.Nat.{ℕ, zero, suc, ◌+◌, ◌-◌, ◌*◌, ◌/◌, ◌%◌, ◌≤◌, ◌<◌}
use mathlib.Core.Path.{◌≡◌, refl, sym, ap, subst, ◌∙◌}
use mathlib.Core.Logic.{◌↔◌}
use mathlib.Core.Bool.{Bool, true, false, not, cond}
use mathlib.Core.List.{List, [], ◌∷◌, ◌++◌, append_assoc}
use native.Mathlib.Omega.{arith}
use borrow.Author.Tests.{eq-eqb}
use lib.Dec.{T, eqb, leb, eqb→eq, leb→le}
use Rattle.basics.specs.Texts.{digits, ThreeDigits}
use Rattle.rules.specs.Progression.{Step, act, mth}
use Rattle.rules.specs.Operators.{Operator}
use Rattle.rules.specs.Problems.{name_of}
use Rattle.rules.specs.Plans.{Line, note, oper, other, is_digit, Digits, read, unread, more, number, at_end, ending, position, space, named, letter, line_of, leftover, lines_from, lines_of, shaped}
use Rattle.laws.proofs.TestLaws.{and_l, and_r, and_i}
use Rattle.laws.proofs.TextLaws.{digits_one, digits_more}
use Rattle.laws.proofs.PlanLaws.{no_feed, fed, unfed, by_feed_lem}
use Rattle.theorems.specs.Shapes.{step_number, LineEnd, by_feed, by_return, before_feed, TextOf, Comment, LineIs, NoFeed, InShape, TextIs}
use Rattle.theorems.proofs.PlanTexts.{not_eqb, text_of_lem, line_of_lem}

-- A test that came to a value, by how it came out.
by_test : {A P : Type 0} {v : A} (x : Bool) (a b : A) → cond x a b ≡ v → (T x → a ≡ v → P) → (T (not x) → b ≡ v → P) → P
by_test true a b e f g = f tt e
by_test false a b e f g = g tt e

not_equal : (a b : ℕ) → T (not (eqb a b)) → a ≡ b → ⊥
not_equal a b h e = rw (eq-eqb a b e) at h

-- One digit more.
digits_next : (n c : ℕ) (cs : List ℕ) → 0 < n → (48 ≤ c) × (c ≤ 57) → digits n ++ (c ∷ cs) ≡ digits (n * 10 + (c - 48)) ++ cs
digits_next n c cs l h =
    let m = n * 10 + (c - 48) in
    let q : m / 10 ≡ n = omega arith in
    let r : 48 + m % 10 ≡ c = omega arith in
    sym (ap (λ (ds : List ℕ). ds ++ cs) (digits_more m (omega arith) ∙ (λ i. digits (q i) ++ (r i ∷ []))) ∙ append_assoc (digits n) (c ∷ []) cs)

-- The greatest number that n becomes by at most j digits more.
abbrev most : ℕ → ℕ → ℕ
most zero n = n
most (suc j) n = most j (n * 10 + 9)

most_up : (j m n : ℕ) → m ≤ n → most j m ≤ most j n
most_up zero m n h = h
most_up (suc j) m n h = most_up j (m * 10 + 9) (n * 10 + 9) (omega arith)

most_least : (j n : ℕ) → n ≤ most j n
most_least zero n = omega arith
most_least (suc j) n = omega (arith, most_least j (n * 10 + 9))

-- What is read further is the digits that are passed.
digit_value : (c : ℕ) → T (is_digit c) → (48 ≤ c) × (c ≤ 57)
digit_value c h = (leb→le 48 c (and_l (leb 48 c) (leb c 57) h), leb→le c 57 (and_r (leb 48 c) (leb c 57) h))

record Passed (before : List ℕ) (top m : ℕ) (rest : List ℕ) : Type 0 where
  passed : before ≡ digits m ++ rest
  size : m ≤ top

stopped : (j n m : ℕ) (cs rest : List ℕ) → read n cs ≡ read m rest → Passed (digits n ++ cs) (most j n) m rest
stopped j n m cs rest e =
    let q : n ≡ m = cc in
    let r : cs ≡ rest = cc in
    record { passed = λ i. digits (q i) ++ r i; size = omega (arith, most_least j n) }

more_read : (j n m : ℕ) (cs rest : List ℕ) → 0 < n → more j n cs ≡ read m rest → Passed (digits n ++ cs) (most j n) m rest
more_read zero n m cs rest l e = stopped zero n m cs rest e
more_read (suc j) n m [] rest l e = stopped (suc j) n m [] rest e
more_read (suc j) n m (c ∷ cs) rest l e =
    by_test (is_digit c) _ _ e
    (λ d p.
    let x = digit_value c d in
    let q = more_read j (n * 10 + (c - 48)) m cs rest (omega arith) p in
    record {
      passed = digits_next n c cs l x ∙ q.passed;
      size = omega (arith, q.size, most_up j (n * 10 + (c - 48)) (n * 10 + 9) (omega arith));
    })
    (λ d p. stopped (suc j) n m (c ∷ cs) rest p)

number_read : (cs : List ℕ) (m : ℕ) (rest : List ℕ) → number cs ≡ read m rest → Passed cs 999 m rest
number_read [] m rest e = let z : ◌≡◌ {A = ℕ} 0 1 = cc in absurd (omega arith)
number_read (c ∷ cs) m rest e =
    by_test (is_digit c) _ _ e
    (λ d p.
    let x = digit_value c d in
    let y : 48 + (c - 48) % 10 ≡ c = omega arith in
    let here : c ∷ cs ≡ digits (c - 48) ++ cs = sym (ap (λ (ds : List ℕ). ds ++ cs) (digits_one (c - 48) (omega arith)) ∙ ap (λ (k : ℕ). k ∷ cs) y) in
    by_test (eqb c 48) _ _ p
    (λ z r.
    let k : c - 48 ≡ 0 = omega (arith, eqb→eq c 48 z) in
    let q = stopped 0 0 m cs rest r in
    record { passed = here ∙ ap (λ (n : ℕ). digits n ++ cs) k ∙ q.passed; size = omega (arith, q.size) })
    (λ z r.
    let n = not_equal c 48 z in
    let q = more_read 2 (c - 48) m cs rest (omega arith) r in
    record { passed = here ∙ q.passed; size = omega (arith, q.size) }))
    (λ d p. let z : ◌≡◌ {A = ℕ} 0 1 = cc in absurd (omega arith))

-- No line of another shape, and no comment, is an operator.
other_oper : {P : Type 0} {o : Operator} → other ≡ oper o → P
other_oper e = let z : ◌≡◌ {A = ℕ} 0 1 = cc in absurd (omega arith)

note_oper : {P : Type 0} {o : Operator} → note ≡ oper o → P
note_oper e = let z : ◌≡◌ {A = ℕ} 0 1 = cc in absurd (omega arith)

-- The parts of an operator's line, from its end to its start.
record Ended (x : Step) (cs : List ℕ) (o : Operator) : Type 0 where
  what : x ≡ o.what
  end : LineEnd
  text : cs ≡ digits o.at ++ (41 ∷ before_feed end)
  size : ThreeDigits o.at

at_end_is : (cs : List ℕ) → T (at_end cs) → (end : LineEnd) × (cs ≡ before_feed end)
at_end_is [] h = (by_feed, refl)
at_end_is (c ∷ []) h = (by_return, ap (λ (n : ℕ). n ∷ []) (eqb→eq c 13 h))
at_end_is (c ∷ d ∷ cs) h = absurd h

ending_is : (x : Step) (i : ℕ) (cs : List ℕ) (o : Operator) → ending x i cs ≡ oper o
    → (record { what = x; at = i } ≡ o) × ((end : LineEnd) × (cs ≡ 41 ∷ before_feed end))
ending_is x i [] o e = other_oper e
ending_is x i (c ∷ cs) o e =
    by_test (eqb c 41) _ _ e
    (λ h p. by_test (at_end cs) _ _ p
    (λ a r.
    let q : record { what = x; at = i } ≡ o = cc in
    let (end, z) = at_end_is cs a in
    (q, (end, λ j. eqb→eq c 41 h j ∷ z j)))
    (λ a r. other_oper r))
    (λ h p. other_oper p)

position_is : (x : Step) (cs : List ℕ) (o : Operator) → position x (number cs) ≡ oper o → Ended x cs o
position_is x cs o e = go (number cs) refl e
  where
    go : (d : Digits) → number cs ≡ d → position x d ≡ oper o → Ended x cs o
    go unread n e = other_oper e
    go (read i rest) n e =
        let q = number_read cs i rest n in
        let (r, (end, z)) = ending_is x i rest o e in
        record {
          what = ap (λ (o : Operator). o.what) r;
          end = end;
          text = q.passed ∙ (λ j. digits (r j).at ++ z j);
          size = omega (arith, q.size, ap (λ (o : Operator). o.at) r);
        }

space_is : (x : Step) (cs : List ℕ) (o : Operator) → space x cs ≡ oper o → (ds : List ℕ) × (cs ≡ 32 ∷ ds) × Ended x ds o
space_is x [] o e = other_oper e
space_is x (c ∷ cs) o e =
    by_test (eqb c 32) _ _ e
    (λ h p. (cs, ap (λ (n : ℕ). n ∷ cs) (eqb→eq c 32 h), position_is x cs o p))
    (λ h p. other_oper p)

-- A letter's bytes, before a number, are those of the name of a step of its kind.
module _ (letter : ℕ) (kind : ℕ → Step) (name : (k : ℕ) → name_of (kind k) ≡ letter ∷ digits k) (is : (k : ℕ) → step_number (kind k) ≡ k) where
  named_is : (cs : List ℕ) (o : Operator) → named kind (number cs) ≡ oper o → TextOf o (40 ∷ letter ∷ cs)
  named_is cs o e = go (number cs) refl e
    where
      go : (d : Digits) → number cs ≡ d → named kind d ≡ oper o → TextOf o (40 ∷ letter ∷ cs)
      go unread n e = other_oper e
      go (read k rest) n e =
          let q = number_read cs k rest n in
          let (ds, r, z) = space_is (kind k) rest o e in
          let before : letter ∷ cs ≡ name_of o.what ++ (32 ∷ (digits o.at ++ (41 ∷ before_feed z.end))) =
          ap (λ (l : List ℕ). letter ∷ l) q.passed
          ∙ ap (λ (l : List ℕ). l ++ rest) (sym (name k))
          ∙ (λ i. name_of (z.what i) ++ r i)
          ∙ ap (λ (l : List ℕ). name_of o.what ++ (32 ∷ l)) z.text in
          record {
            end = z.end;
            text = ap (λ (l : List ℕ). 40 ∷ l) before ∙ sym (text_of_lem o (before_feed z.end));
            small = record { number = omega (arith, q.size, is k, ap step_number z.what); position = z.size };
          }

letter_is : (cs : List ℕ) (o : Operator) → letter cs ≡ oper o → TextOf o (40 ∷ cs)
letter_is [] o e = other_oper e
letter_is (c ∷ cs) o e =
    by_test (eqb c 97) _ _ e
    (λ h p. subst (λ (n : ℕ). TextOf o (40 ∷ n ∷ cs)) (sym (eqb→eq c 97 h)) (named_is 97 act (λ k. refl) (λ k. refl) cs o p))
    (λ _ p. by_test (eqb c 109) _ _ p
    (λ h q. subst (λ (n : ℕ). TextOf o (40 ∷ n ∷ cs)) (sym (eqb→eq c 109 h)) (named_is 109 mth (λ k. refl) (λ k. refl) cs o q))
    (λ _ q. other_oper q))

line_text_lem : (cs : List ℕ) (o : Operator) → line_of cs ≡ oper o → TextOf o cs
line_text_lem [] o e = other_oper e
line_text_lem (c ∷ cs) o e =
    by_test (eqb c 59) _ _ e
    (λ h p. note_oper p)
    (λ _ p. by_test (eqb c 40) _ _ p
    (λ h q. subst (λ (n : ℕ). TextOf o (n ∷ cs)) (sym (eqb→eq c 40 h)) (letter_is cs o q))
    (λ _ q. other_oper q))

-- What begins with an opening bracket is no comment.
abbrev NoNote : Line → Type 0
NoNote note = ⊥
NoNote (oper o) = Unit {0}
NoNote other = Unit {0}

no_note_test : (x : Bool) (a b : Line) → NoNote a → NoNote b → NoNote (cond x a b)
no_note_test true a b h k = h
no_note_test false a b h k = k

no_note_ending : (x : Step) (i : ℕ) (cs : List ℕ) → NoNote (ending x i cs)
no_note_ending x i [] = tt
no_note_ending x i (c ∷ cs) = no_note_test (eqb c 41) _ _ (no_note_test (at_end cs) _ _ tt tt) tt

no_note_position : (x : Step) (d : Digits) → NoNote (position x d)
no_note_position x unread = tt
no_note_position x (read i cs) = no_note_ending x i cs

no_note_space : (x : Step) (cs : List ℕ) → NoNote (space x cs)
no_note_space x [] = tt
no_note_space x (c ∷ cs) = no_note_test (eqb c 32) _ _ (no_note_position x (number cs)) tt

no_note_named : (kind : ℕ → Step) (d : Digits) → NoNote (named kind d)
no_note_named kind unread = tt
no_note_named kind (read k cs) = no_note_space (kind k) cs

no_note_letter : (cs : List ℕ) → NoNote (letter cs)
no_note_letter [] = tt
no_note_letter (c ∷ cs) =
    no_note_test (eqb c 97) _ _ (no_note_named act (number cs)) (no_note_test (eqb c 109) _ _ (no_note_named mth (number cs)) tt)

line_comment : (cs : List ℕ) → line_of cs ≡ note → Comment cs
line_comment [] e = absurd (subst NoNote e tt)
line_comment (c ∷ cs) e =
    by_test (eqb c 59) _ _ e
    (λ h p. record { content = cs; starts = ap (λ (n : ℕ). n ∷ cs) (eqb→eq c 59 h) })
    (λ _ p. absurd (subst NoNote p (no_note_test (eqb c 40) _ _ (no_note_letter cs) tt)))

-- A line is a comment, the text of an operator, or neither, exactly where it is read so.
module _ (cs : List ℕ) where
  comment_line : Comment cs → line_of cs ≡ note
  comment_line h = ap line_of h.starts

  text_line : (o : Operator) → TextOf o cs → line_of cs ≡ oper o
  text_line o h = ap line_of h.text ∙ line_of_lem o h.small h.end

  line_shape_lem : (l : Line) → InShape cs l → line_of cs ≡ l
  line_shape_lem note h = comment_line h
  line_shape_lem (oper o) h = text_line o h
  line_shape_lem other h = absurd h

  pub line_is : (l : Line) → (line_of cs ≡ l) ↔ LineIs cs l
  line_is note = (line_comment cs, comment_line)
  line_is (oper o) = (line_text_lem cs o, text_line o)
  line_is other = (
    (λ e l h. none l (sym e ∙ line_shape_lem l h) h),
    (λ h. go (line_of cs) refl h),
  )
    where
      none : (l : Line) → other ≡ l → InShape cs l → ⊥
      none note e h = subst NoNote e tt
      none (oper o) e h = other_oper e
      none other e h = h

      go : (l : Line) → line_of cs ≡ l → ((l : Line) → InShape cs l → ⊥) → l ≡ other
      go note e h = absurd (h note (line_comment cs e))
      go (oper o) e h = absurd (h (oper o) (line_text_lem cs o e))
      go other e h = refl

-- A text is whole lines in shape exactly where it is read as these.
feed_none : (cs : List ℕ) → T (no_feed cs) → NoFeed cs
feed_none [] h = tt
feed_none (c ∷ cs) h = (not_equal c 10 (and_l (not (eqb c 10)) (no_feed cs) h), feed_none cs (and_r (not (eqb c 10)) (no_feed cs) h))

none_feed : (cs : List ℕ) → NoFeed cs → T (no_feed cs)
none_feed [] h = tt
none_feed (c ∷ cs) h = and_i (not (eqb c 10)) (no_feed cs) (not_eqb c 10 h.0) (none_feed cs h.1)

in_shape : (cs : List ℕ) (l : Line) (ls : List Line) → line_of cs ≡ l → T (shaped (l ∷ ls)) → InShape cs l × T (shaped ls)
in_shape cs note ls e h = (line_comment cs e, h)
in_shape cs (oper o) ls e h = (line_text_lem cs o e, h)
in_shape cs other ls e h = absurd h

shape_in : (cs : List ℕ) (l : Line) (ls : List Line) → InShape cs l → T (shaped ls) → T (shaped (l ∷ ls))
shape_in cs note ls h k = k
shape_in cs (oper o) ls h k = k
shape_in cs other ls h k = h

-- What follows the last line feed is nothing, or no line in shape.
left_none : (ds : List ℕ) → leftover ds ≡ [] → ds ≡ []
left_none [] e = refl
left_none (c ∷ cs) e = let z : ◌≡◌ {A = ℕ} 0 1 = cc in absurd (omega arith)

left_some : {P : Type 0} {l : Line} {ls : List Line} (ds : List ℕ) → leftover ds ≡ l ∷ ls → T (shaped (l ∷ ls)) → P
left_some [] e h = let z : ◌≡◌ {A = ℕ} 0 1 = cc in absurd (omega arith)
left_some (c ∷ cs) e h = absurd (subst (λ (m : List Line). T (shaped m)) (sym e) h)

text_lines : (ls : List Line) (ds : List ℕ) → lines_from [] ds ≡ ls → T (shaped ls) → TextIs ds ls
text_lines [] ds e h =
    by_feed_lem ds
    (λ n. left_none ds (sym (unfed [] ds n) ∙ e))
    (λ cs rest n q.
    let z : line_of cs ∷ lines_from [] rest ≡ [] = sym (fed [] cs rest n) ∙ ap (lines_from []) (sym q) ∙ e in
    let y : ◌≡◌ {A = ℕ} 0 1 = cc in
    absurd (omega arith))
text_lines (l ∷ ls) ds e h =
    by_feed_lem ds
    (λ n. left_some ds (sym (unfed [] ds n) ∙ e) h)
    (λ cs rest n q.
    let z : line_of cs ∷ lines_from [] rest ≡ l ∷ ls = sym (fed [] cs rest n) ∙ ap (lines_from []) (sym q) ∙ e in
    let r = in_shape cs l ls (cc) h in
    (cs, rest, record { first = feed_none cs n; whole = q }, r.0, text_lines ls rest (cc) r.1))

lines_text : (ls : List Line) (ds : List ℕ) → TextIs ds ls → (lines_from [] ds ≡ ls) × T (shaped ls)
lines_text [] ds h = (ap (lines_from []) h, tt)
lines_text (l ∷ ls) ds h =
    let (cs, rest, s, a, m) = h in
    let k = lines_text ls rest m in (
      ap (lines_from []) s.whole ∙ fed [] cs rest (none_feed cs s.first) ∙ (λ i. line_shape_lem cs l a i ∷ k.0 i),
      shape_in cs l ls a k.1,
    )

module _ (ds : List ℕ) where
  pub text_is : (ls : List Line) → ((lines_of ds ≡ ls) × T (shaped ls)) ↔ TextIs ds ls
  unfolding lines_of
  text_is ls = ((λ h. text_lines ls ds h.0 h.1), lines_text ls ds)

  pub shaped_is : T (shaped (lines_of ds)) ↔ ((ls : List Line) × TextIs ds ls)
  shaped_is = (
    (λ h. (lines_of ds, (text_is (lines_of ds)).0 (refl, h))),
    (λ q. let r = (text_is q.0).1 q.1 in subst (λ (ls : List Line). T (shaped ls)) (sym r.0) r.1),
  )
