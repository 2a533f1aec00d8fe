-- Drawing a template, text by text and number by number, and rendering it.
use Prim.Native.Nat.{ℕ, zero, suc, ◌+◌, ◌-◌, ◌≤◌, ◌<◌}
use mathlib.Core.Path.{◌≡◌, sym, ap, ap₂, ◌∙◌}
use mathlib.Core.List.{List, [], ◌++◌, append-nil, append_assoc}
use lib.ListN.{length, take, drop, set, length-drop}
use lib.Seq.{take-take, take_at, take_all, drop-append-le, length-take-le, get_or-set_same, get_or-set_other}
use native.Mathlib.Nat.{le_refl}
use native.Mathlib.Decide.{dec_lt}
use native.Mathlib.Omega.{arith}
use Rattle.basics.specs.Lists.{upto, sum_to}
use Rattle.basics.specs.Texts.{digits}
use Rattle.laws.proofs.ListLaws.{sum_same, sum_more}
use Rattle.laws.proofs.TextLaws.{upto_more, upto_same}
use Rattle.text.specs.Appends.{Appends}
use Rattle.text.proofs.AppendLaws.{drop_take}
use Rattle.template.specs.declared.numbers.Number.{Number}
use Rattle.template.specs.declared.memory.Template.{Template}
use Rattle.template.specs.declared.view.Drawn.{Drawn}
use Rattle.template.specs.Sizes.{most_offset}
use Rattle.template.specs.Segments.{no_number, number_at, start_of, turn}
use Rattle.template.specs.Templates.{Blank, Stands, rendered}
use Rattle.template.specs.Views.{shown}

-- Each segment ends where the open one begins, or before.
ends : (numbers : List Number) (c j : ℕ) → j < c → start_of numbers j + (number_at numbers j).bytes ≤ start_of numbers c
unfolding sum_to
ends numbers zero j h = absurd (omega arith)
ends numbers (suc c) j h =
    elim (dec_lt j c) [
      | yes p ↦ omega (arith, ends numbers c j p)
      | no p ↦ let e : j ≡ c = omega arith in rw e (le_refl (start_of numbers c + (number_at numbers c).bytes))
    ]

-- ---- Drawing.

pub rendered_none : {t : Template} → Blank t → (p : ℕ) → rendered t p ≡ []
unfolding rendered upto
rendered_none {t} b p = λ i. upto (turn t.text.now t.numbers.now p) (b.count i) ++ take (b.at i - b.from i) (drop (b.from i) t.text.now)

pub stands_none : {t : Template} → Blank t → Stands t
unfolding sum_to
stands_none {t} b =
    record {
      begins = b.from ∙ ap (start_of t.numbers.now) (sym b.count);
      low = λ j h. absurd (omega (arith, h, b.count));
    }

-- A part of one list and of another with the same front.
same_part : (l m : List ℕ) (a b n : ℕ) → take a l ≡ take a m → b + n ≤ a → b ≤ length l → b ≤ length m → take n (drop b l) ≡ take n (drop b m)
same_part l m a b n e h p q =
    sym (drop_take l b n a p h) ∙ ap (λ (y : List ℕ). take n (drop b y)) e ∙ drop_take m b n a q h

-- What a writer leaves of the text before it, and from the place b on.
module _ {o x n : List ℕ} {a r : ℕ} (h : a ≤ length o) (w : Appends o a x n r) where
  front : take a n ≡ take a o
  front =
      sym (take-take a r n (omega (arith, w.next)))
      ∙ ap (take a) w.text
      ∙ take_at (take a o) x a (length-take-le a o h)

  tail : (b : ℕ) → b ≤ a → r ≤ length n → take (r - b) (drop b n) ≡ take (a - b) (drop b o) ++ x
  tail b p q =
      let la : length (take a o) ≡ a = length-take-le a o h in
      let lr : length (take r n) ≡ r = length-take-le r n q in
      let whole : take (r - b) (drop b (take r n)) ≡ drop b (take r n) = take_all (r - b) (drop b (take r n)) (rw (length-drop, lr) (le_refl (r - b))) in
      let inner : take (a - b) (drop b (take a o)) ≡ drop b (take a o) = take_all (a - b) (drop b (take a o)) (rw (length-drop, la) (le_refl (a - b))) in
      sym (drop_take n b (r - b) r (omega (arith, w.next)) (omega (arith, w.next)))
      ∙ whole
      ∙ ap (drop b) w.text
      ∙ drop-append-le b (take a o) x (rw la p)
      ∙ ap (λ (y : List ℕ). y ++ x) (sym inner ∙ drop_take o b (a - b) a (omega arith) (omega arith))

-- Text after what is drawn.
pub rendered_text : (t t' : Template) {y : List ℕ} → Stands t → t'.numbers.now ≡ t.numbers.now → t'.from ≡ t.from → t'.count ≡ t.count
    → Appends t.text.now t.at y t'.text.now t'.at → (p : ℕ) → rendered t' p ≡ rendered t p ++ y
unfolding rendered turn
rendered_text t t' {y} s n f c w p =
    let h : t.at ≤ length t.text.now = t.fits in
    let r : t'.at ≤ length t'.text.now = t'.fits in
    let turns : upto (turn t'.text.now t.numbers.now p) t.count ≡ upto (turn t.text.now t.numbers.now p) t.count =
    upto_same (turn t'.text.now t.numbers.now p) (turn t.text.now t.numbers.now p) t.count (λ k q.
    let e : start_of t.numbers.now k + (number_at t.numbers.now k).bytes ≤ t.at = omega (arith, ends t.numbers.now t.count k q, s.begins, t.reach) in
    ap (λ (z : List ℕ). z ++ digits (p + (number_at t.numbers.now k).offset))
    (same_part t'.text.now t.text.now t.at (start_of t.numbers.now k) (number_at t.numbers.now k).bytes (front h w)
    e (omega (arith, h, w.size)) (omega (arith, h)))) in
    (λ i. upto (turn t'.text.now (n i) p) (c i) ++ take (t'.at - f i) (drop (f i) t'.text.now))
    ∙ ap (λ (z : List ℕ). z ++ take (t'.at - t.from) (drop t.from t'.text.now)) turns
    ∙ ap (λ (z : List ℕ). upto (turn t.text.now t.numbers.now p) t.count ++ z) (tail h w t.from t.reach r)
    ∙ sym (append_assoc (upto (turn t.text.now t.numbers.now p) t.count) (take (t.at - t.from) (drop t.from t.text.now)) y)

pub stands_text : {t t' : Template} → t'.numbers.now ≡ t.numbers.now → t'.from ≡ t.from → t'.count ≡ t.count → Stands t → Stands t'
stands_text {t} {t'} n f c s =
    record {
      begins = f ∙ s.begins ∙ ap₂ (λ (l : List Number) (k : ℕ). start_of l k) (sym n) (sym c);
      low = λ j h. rw n (s.low j (omega (arith, h, c)));
    }

-- ---- A number after what is drawn: the segment ends.

module _ (numbers : List Number) (i : ℕ) (n : Number) where
  other : (j : ℕ) → j < i → number_at (set numbers i n) j ≡ number_at numbers j
  other j h = get_or-set_other numbers i j n no_number (λ e. omega arith)

  -- The segments up to the number that is set begin where they did.
  pub start_set : (j : ℕ) → j ≤ i → start_of (set numbers i n) j ≡ start_of numbers j
  start_set j h =
      sum_same (λ k. (number_at (set numbers i n) k).bytes) (λ k. (number_at numbers k).bytes) j (λ k q. ap (λ (x : Number). x.bytes) (other k (omega arith)))

  -- In its place stands the number that is set.
  pub here : i < length numbers → number_at (set numbers i n) i ≡ n
  here h = get_or-set_same numbers i n no_number h

  turn_before : (text : List ℕ) (p j : ℕ) → j < i → turn text (set numbers i n) p j ≡ turn text numbers p j
  unfolding turn
  turn_before text p j h =
      (λ k. take (other j h k).bytes (drop (start_set j (omega arith) k) text) ++ digits (p + (other j h k).offset))

  turn_here : (text : List ℕ) (p : ℕ) → i < length numbers
      → turn text (set numbers i n) p i ≡ take n.bytes (drop (start_of numbers i) text) ++ digits (p + n.offset)
  unfolding turn
  turn_here text p h =
      (λ k. take (here h k).bytes (drop (start_set i (le_refl i) k) text) ++ digits (p + (here h k).offset))

  -- One segment more, and the number after it.
  pub upto_set : (text : List ℕ) (p : ℕ) → i < length numbers
      → upto (turn text (set numbers i n) p) (i + 1) ≡ upto (turn text numbers p) i ++ (take n.bytes (drop (start_of numbers i) text) ++ digits (p + n.offset))
  upto_set text p h =
      upto_more (turn text (set numbers i n) p) i
      ∙ ap₂ (λ (x y : List ℕ). x ++ y) (upto_same (turn text (set numbers i n) p) (turn text numbers p) i (turn_before text p)) (turn_here text p h)

-- The last segment begins after the number.
pub begins_after : (t : Template) (n : Number) → Stands t → t.count < length t.numbers.now → n.bytes ≡ t.at - t.from
    → t.at ≡ start_of (set t.numbers.now t.count n) (t.count + 1)
begins_after t n s h e =
    omega (arith, sum_more (λ i. (number_at (set t.numbers.now t.count n) i).bytes) t.count, start_set t.numbers.now t.count n t.count (le_refl t.count), ap (λ (x : Number). x.bytes) (here t.numbers.now t.count n h), e, s.begins, t.reach)

-- Each number is low enough to have a figure, the new one too.
pub low_after : (t : Template) (n : Number) → Stands t → t.count < length t.numbers.now → n.offset ≤ most_offset
    → (j : ℕ) → j < t.count + 1 → (number_at (set t.numbers.now t.count n) j).offset ≤ most_offset
low_after t n s h low j l =
    elim (dec_lt j t.count) [
      | yes p ↦ rw (other t.numbers.now t.count n j p) (s.low j p)
      | no p ↦ let e : j ≡ t.count = omega arith in rw (e, here t.numbers.now t.count n h) low
    ]

-- So the template stands with it.
pub stands_number : (t t' : Template) (n : Number) → Stands t → t.count < length t.numbers.now → n.bytes ≡ t.at - t.from
    → t'.numbers.now ≡ set t.numbers.now t.count n → t'.from ≡ t.at → t'.count ≡ t.count + 1 → n.offset ≤ most_offset → Stands t'
stands_number t t' n s h b m f c low =
    record {
      begins = f ∙ begins_after t n s h b ∙ ap₂ (λ (l : List Number) (k : ℕ). start_of l k) (sym m) (sym c);
      low = λ j l. rw m (low_after t n s h low j (omega (arith, l, c)));
    }

pub rendered_number : (t t' : Template) (n : Number) → Stands t → t.count < length t.numbers.now → n.bytes ≡ t.at - t.from → t'.text.now ≡ t.text.now
    → t'.numbers.now ≡ set t.numbers.now t.count n → t'.at ≡ t.at → t'.from ≡ t.at → t'.count ≡ t.count + 1
    → (p : ℕ) → rendered t' p ≡ rendered t p ++ digits (p + n.offset)
unfolding rendered
rendered_number t t' n s h b x m a f c p =
    let gone : t.at - t.at ≡ 0 = omega arith in
    let turns : List ℕ = upto (turn t.text.now t.numbers.now p) t.count in
    (λ i. upto (turn (x i) (m i) p) (c i) ++ take (a i - f i) (drop (f i) (x i)))
    ∙ ap (λ (z : ℕ). upto (turn t.text.now (set t.numbers.now t.count n) p) (t.count + 1) ++ take z (drop t.at t.text.now)) gone
    ∙ append-nil (upto (turn t.text.now (set t.numbers.now t.count n) p) (t.count + 1))
    ∙ upto_set t.numbers.now t.count n t.text.now p h
    ∙ (λ i. turns ++ (take (b i) (drop (sym s.begins i) t.text.now) ++ digits (p + n.offset)))
    ∙ sym (append_assoc turns (take (t.at - t.from) (drop t.from t.text.now)) (digits (p + n.offset)))

-- ---- Rendering.

module _ (d : Drawn) where
  -- After all numbers the last segment begins.
  pub last_begins : (j from : ℕ) → j ≡ d.count → from ≡ start_of d.numbers.now j → from ≡ d.from
  last_begins j from k e = e ∙ ap (start_of d.numbers.now) k ∙ sym d.begins

  -- The last segment.
  pub turn_last : (p j from : ℕ) → j ≡ d.count → from ≡ d.from
      → shown d p ≡ upto (turn d.text.now d.numbers.now p) j ++ take (d.at - from) (drop from d.text.now)
  unfolding shown
  turn_last p j from f e =
      ap₂ (λ (n k : ℕ). upto (turn d.text.now d.numbers.now p) n ++ take (d.at - k) (drop k d.text.now)) (sym f) (sym e)

  module _ (j : ℕ) where
    -- Each segment ends where the next byte stands, or before.
    pub segment_ends : j < d.count → start_of d.numbers.now j + (number_at d.numbers.now j).bytes ≤ d.at
    segment_ends h = omega (arith, ends d.numbers.now d.count j h, d.begins, d.reach)

    -- There the next one begins.
    pub start_more : start_of d.numbers.now (j + 1) ≡ start_of d.numbers.now j + (number_at d.numbers.now j).bytes
    start_more = sum_more (λ k. (number_at d.numbers.now k).bytes) j

    -- A turn of a writer: a segment and the number after it.
    pub turn_more : (p from : ℕ) → from ≡ start_of d.numbers.now j
        → upto (turn d.text.now d.numbers.now p) (j + 1)
        ≡ upto (turn d.text.now d.numbers.now p) j ++ (take (number_at d.numbers.now j).bytes (drop from d.text.now) ++ digits (p + (number_at d.numbers.now j).offset))
    unfolding turn
    turn_more p from e =
        upto_more (turn d.text.now d.numbers.now p) j
        ∙ (λ i. upto (turn d.text.now d.numbers.now p) j ++ (take (number_at d.numbers.now j).bytes (drop (sym e i) d.text.now) ++ digits (p + (number_at d.numbers.now j).offset)))

-- A part of a text, from a place to another.
module _ (t : List ℕ) (from n : ℕ) where
  pub cut_is : take n (drop from t) ≡ take (from + n - from) (drop from t)
  cut_is = let e : n ≡ from + n - from = omega arith in ap (λ (k : ℕ). take k (drop from t)) e

  pub cut_long : from + n ≤ length t → length (take (from + n - from) (drop from t)) ≡ n
  cut_long h = ap length (sym cut_is) ∙ length-take-le n (drop from t) (rw length-drop (omega arith))
