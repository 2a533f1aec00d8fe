-- The text of a list of operators reads back as that list.
use Prim.Native.Nat.{ℕ, zero, suc, ◌+◌, ◌-◌, ◌*◌, ◌/◌, ◌%◌, ◌≤◌, ◌<◌}
use mathlib.Core.Path.{◌≡◌, refl, sym, ap, subst, ◌∙◌}
use mathlib.Core.Bool.{Bool, true, false, not, cond}
use mathlib.Core.List.{List, [], ◌∷◌, ◌++◌, map, append_assoc, append-nil}
use native.Mathlib.Omega.{arith}
use borrow.Author.Tests.{ne_eqb, lt-ltb, le-ltb, ltb-true, ltb-false}
use lib.Dec.{T, eqb, leb, ltb, le→leb}
use Rattle.rules.specs.Progression.{Step, act, mth}
use Rattle.rules.specs.Operators.{Operator}
use Rattle.basics.specs.Texts.{bytes, digit, digits_f, digits, ThreeDigits}
use Rattle.rules.specs.Problems.{name_of}
use Rattle.rules.specs.Plans.{oper, is_digit, read, more, number, ending, position, named, line_of, lines_of, text_of, texts_of}
use Rattle.theorems.specs.Shapes.{step_number, Small, AllSmall, LineEnd, by_feed, by_return, before_feed, onward, texts_ended}
use Rattle.laws.proofs.TestLaws.{and_i, cond_true, cond_false}
use Rattle.laws.proofs.PlanLaws.{no_more, no_feed, fed}

a_digit : (x : ℕ) → x < 10 → T (is_digit (48 + x))
a_digit x h = and_i (leb 48 (48 + x)) (leb (48 + x) 57) (omega (arith, le→leb)) (omega (arith, le→leb))

pub not_eqb : (a b : ℕ) → (a ≡ b → ⊥) → T (not (eqb a b))
not_eqb a b h = rw (ne_eqb a b h) tt

one_more : (j n x : ℕ) (cs : List ℕ) → x < 10 → more (suc j) n ((48 + x) ∷ cs) ≡ more j (n * 10 + x) cs
one_more j n x cs h =
    let e : 48 + x - 48 ≡ x = omega arith in
    cond_true (is_digit (48 + x)) _ _ (a_digit x h) ∙ rw e

a_first : (x : ℕ) (cs : List ℕ) → 0 < x → x < 10 → number ((48 + x) ∷ cs) ≡ more 2 x cs
a_first x cs p h =
    let e : 48 + x - 48 ≡ x = omega arith in
    cond_true (is_digit (48 + x)) _ _ (a_digit x h)
    ∙ cond_false (eqb (48 + x) 48) _ _ (not_eqb (48 + x) 48 (λ q. omega arith))
    ∙ rw e

-- The digits of a number of one, two and three digits.
last_digit : (f n : ℕ) → n < 10 → digits_f f n ≡ (48 + n) ∷ []
unfolding digits_f
last_digit zero n l = let e : n % 10 ≡ n = omega arith in ap (λ (d : ℕ). (48 + d) ∷ []) e
last_digit (suc f) n l = let e : n % 10 ≡ n = omega arith in rw (lt-ltb n 10 l) (ap (λ (d : ℕ). (48 + d) ∷ []) e)

more_digits : (f n : ℕ) → 10 ≤ n → digits_f (suc f) n ≡ digits_f f (n / 10) ++ digit n
unfolding digits_f
more_digits f n l = rw (le-ltb n 10 l)

one_digit : (n : ℕ) → n < 10 → digits n ≡ (48 + n) ∷ []
unfolding digits
one_digit n l = last_digit n n l

two_digits : (n : ℕ) → 10 ≤ n → n < 100 → digits n ≡ (48 + n / 10) ∷ (48 + n % 10) ∷ []
unfolding digits
two_digits zero g l = absurd (omega arith)
two_digits (suc m) g l = more_digits m (suc m) g ∙ ap (λ (ds : List ℕ). ds ++ digit (suc m)) (last_digit m (suc m / 10) (omega arith))

three_digits : (n : ℕ) → 100 ≤ n → ThreeDigits n → digits n ≡ (48 + n / 10 / 10) ∷ (48 + n / 10 % 10) ∷ (48 + n % 10) ∷ []
unfolding digits
three_digits zero g l = absurd (omega arith)
three_digits (suc zero) g l = absurd (omega arith)
three_digits (suc (suc m)) g l =
    let n = suc (suc m) in
    more_digits (suc m) n (omega arith)
    ∙ ap (λ (ds : List ℕ). ds ++ digit n)
    (more_digits m (n / 10) (omega arith) ∙ ap (λ (ds : List ℕ). ds ++ digit (n / 10)) (last_digit m (n / 10 / 10) (omega arith)))

number_digits : (n c : ℕ) (cs : List ℕ) → ThreeDigits n → T (not (is_digit c)) → number (digits n ++ (c ∷ cs)) ≡ read n (c ∷ cs)
number_digits zero c cs l h = rw (one_digit 0 (omega arith))
number_digits (suc n) c cs l h = go (ltb (suc n) 10) refl (ltb (suc n) 100) refl
  where
    m : ℕ
    m = suc n

    go : (x : Bool) → ltb m 10 ≡ x → (y : Bool) → ltb m 100 ≡ y → number (digits m ++ (c ∷ cs)) ≡ read m (c ∷ cs)
    go true e y d =
        let a = ltb-true m 10 e in
        ap (λ (ds : List ℕ). number (ds ++ (c ∷ cs))) (one_digit m a) ∙ a_first m (c ∷ cs) (omega arith) a ∙ no_more 2 m c cs h
    go false e true d =
        let a = ltb-false m 10 e in
        let b = ltb-true m 100 d in
        ap (λ (ds : List ℕ). number (ds ++ (c ∷ cs))) (two_digits m a b)
        ∙ a_first (m / 10) _ (omega arith) (omega arith)
        ∙ one_more 1 (m / 10) (m % 10) (c ∷ cs) (omega arith)
        ∙ no_more 1 (m / 10 * 10 + m % 10) c cs h
        ∙ ap (λ (k : ℕ). read k (c ∷ cs)) (omega arith)
    go false e false d =
        let b = ltb-false m 100 d in
        ap (λ (ds : List ℕ). number (ds ++ (c ∷ cs))) (three_digits m b l)
        ∙ a_first (m / 10 / 10) _ (omega arith) (omega arith)
        ∙ one_more 1 (m / 10 / 10) (m / 10 % 10) ((48 + m % 10) ∷ c ∷ cs) (omega arith)
        ∙ one_more 0 (m / 10 / 10 * 10 + m / 10 % 10) (m % 10) (c ∷ cs) (omega arith)
        ∙ ap (λ (k : ℕ). read k (c ∷ cs)) (omega arith)

regrouped : (x d end : List ℕ) → (bytes "(" ++ (x ++ (32 ∷ d)) ++ bytes ")") ++ end ≡ 40 ∷ (x ++ (32 ∷ (d ++ (41 ∷ end))))
regrouped x d end = simp append_assoc

-- An operator's line: its text and what follows it.
pub text_of_lem : (o : Operator) (end : List ℕ) → text_of o ++ end ≡ 40 ∷ (name_of o.what ++ (32 ∷ (digits o.at ++ (41 ∷ end))))
text_of_lem o end = regrouped (name_of o.what) (digits o.at) end

pub line_of_lem : (o : Operator) → Small o → (end : LineEnd) → line_of (text_of o ++ before_feed end) ≡ oper o
line_of_lem o h end = ap line_of (text_of_lem o (before_feed end)) ∙ go o.what o.at h.number h.position
  where
    ends : (x : Step) (i : ℕ) (end : LineEnd) → ending x i (41 ∷ before_feed end) ≡ oper (record { what = x; at = i })
    ends x i by_feed = refl
    ends x i by_return = refl

    after : (x : Step) (i : ℕ) → ThreeDigits i → position x (number (digits i ++ (41 ∷ before_feed end))) ≡ oper (record { what = x; at = i })
    after x i h = ap (position x) (number_digits i 41 (before_feed end) h tt) ∙ ends x i end

    go : (x : Step) (i : ℕ) → ThreeDigits (step_number x) → ThreeDigits i
        → line_of (40 ∷ (name_of x ++ (32 ∷ (digits i ++ (41 ∷ before_feed end))))) ≡ oper (record { what = x; at = i })
    go (act k) i l h = ap (named act) (number_digits k 32 _ l tt) ∙ after (act k) i h
    go (mth k) i l h = ap (named mth) (number_digits k 32 _ l tt) ∙ after (mth k) i h

-- Each byte is greater than b.
abbrev pub Above : ℕ → List ℕ → Type 0
Above b [] = Unit {0}
Above b (c ∷ cs) = (b < c) × Above b cs

module _ (b : ℕ) where
  above_append : (xs ys : List ℕ) → Above b xs → Above b ys → Above b (xs ++ ys)
  above_append [] ys h k = k
  above_append (x ∷ xs) ys h k = (h.0, above_append xs ys h.1 k)

  -- So it is of an operator's text, for every byte below the blank.
  module _ (low : b < 32) where
    above_digit : (n : ℕ) → Above b (digit n)
    above_digit n = (omega arith, tt)

    above_digits_f : (f n : ℕ) → Above b (digits_f f n)
    unfolding digits_f
    above_digits_f zero n = above_digit n
    above_digits_f (suc f) n = go (ltb n 10) (above_digits_f f (n / 10))
      where
        go : (x : Bool) → Above b (digits_f f (n / 10)) → Above b (cond x [] (digits_f f (n / 10)) ++ digit n)
        go true h = above_digit n
        go false h = above_append (digits_f f (n / 10)) (digit n) h (above_digit n)

    above_digits : (n : ℕ) → Above b (digits n)
    unfolding digits
    above_digits n = above_digits_f n n

    pub above_text : (o : Operator) → Above b (text_of o)
    above_text o =
        subst (λ (l : List ℕ). Above b l) (sym (text_of_lem o []) ∙ append-nil (text_of o))
        (omega arith, above_append (name_of o.what) _ (go o.what) (low, above_append (digits o.at) (41 ∷ []) (above_digits o.at) (omega arith, tt)))
      where
        go : (x : Step) → Above b (name_of x)
        go (act k) = (omega arith, above_digits k)
        go (mth k) = (omega arith, above_digits k)

no_feed_above : (cs ds : List ℕ) → Above 10 cs → T (no_feed ds) → T (no_feed (cs ++ ds))
no_feed_above [] ds h k = k
no_feed_above (c ∷ cs) ds h k = and_i (not (eqb c 10)) (no_feed (cs ++ ds)) (not_eqb c 10 (λ q. omega (arith, h.0))) (no_feed_above cs ds h.1 k)

no_feed_text : (o : Operator) (end : LineEnd) → T (no_feed (text_of o ++ before_feed end))
no_feed_text o end = no_feed_above (text_of o) (before_feed end) (above_text 10 (omega arith) o) (ends end)
  where
    ends : (end : LineEnd) → T (no_feed (before_feed end))
    ends by_feed = tt
    ends by_return = tt

-- With every choice of line ends.
pub lines_of_lem : (end : ℕ → LineEnd) (os : List Operator) → AllSmall os → lines_of (texts_ended end os) ≡ map oper os
unfolding lines_of texts_ended
lines_of_lem end [] h = refl
lines_of_lem end (o ∷ os) h =
    fed [] (text_of o ++ before_feed (end 0)) (texts_ended (onward end) os) (no_feed_text o (end 0))
    ∙ (λ i. line_of_lem o h.0 (end 0) i ∷ lines_of_lem (onward end) os h.1 i)

-- With line feeds alone it is the text that is written.
pub ended_by_feeds : (os : List Operator) → texts_ended (λ _. by_feed) os ≡ texts_of os
unfolding texts_ended texts_of
ended_by_feeds [] = refl
ended_by_feeds (o ∷ os) = λ i. append-nil (text_of o) i ++ (10 ∷ ended_by_feeds os i)
