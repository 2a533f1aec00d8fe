-- C-13: where a carriage return is of no line's end; the texts of a list of operators, with a line end chosen for each line; and that the lines of a plan
-- decide, not how each of them ends.
use Prim.Native.Nat.{ℕ, zero, suc, ◌≤◌}
use mathlib.Core.Path.{◌≡◌, refl, sym, ap, ◌∙◌}
use mathlib.Core.Logic.{◌↔◌}
use mathlib.Core.List.{List, [], ◌∷◌, ◌++◌, map}
use native.Mathlib.Omega.{arith}
use lib.ListN.{length, length-append}
use Rattle.basics.specs.Answers.{after}
use Rattle.rules.specs.Limits.{most_plan_bytes}
use Rattle.rules.specs.Operators.{Operator, expand_all}
use Rattle.rules.specs.Plans.{Line, note, oper, other, line_of, lines_of, opers_of, text_of}
use Rattle.rules.specs.Checks.{check_lines, step_bytes}
use Rattle.rules.specs.Refusals.{plan_number, opened, room_for, check_plan, expand_plan}
use Rattle.laws.proofs.RefusalLaws.{plan_fits}
use Rattle.theorems.specs.Shapes.{LineEnd, by_feed, by_return, before_feed, Comment, InShape, TextIs, texts_ended, OperatorsText}
use Rattle.theorems.proofs.LineShapes.{line_is, text_is}
use Rattle.theorems.proofs.PlanTexts.{Above, above_text, lines_of_lem}
use Rattle.theorems.proofs.Demand3.{opers_shaped}

-- A text without carriage returns, and a line's end: none is in it that another byte follows.
stray : (xs ys zs : List ℕ) (y : ℕ) (end : LineEnd) → Above 13 zs → xs ++ (13 ∷ y ∷ ys) ≡ zs ++ before_feed end → ⊥
stray xs ys [] y by_feed h e = omega (arith, ap length e, length-append xs (13 ∷ y ∷ ys))
stray xs ys [] y by_return h e = omega (arith, ap length e, length-append xs (13 ∷ y ∷ ys))
stray [] ys (z ∷ zs) y end h e = let q : 13 ≡ z = cc in omega (arith, h.0)
stray (x ∷ xs) ys (z ∷ zs) y end h e = stray xs ys zs y end h.1 (cc)

-- "A carriage return anywhere else outside a comment is still 11": a line that has one before another of its bytes, or nothing else, is of another shape.
pub stray_return : (xs : List ℕ) (y : ℕ) (ys : List ℕ) → (Comment (xs ++ (13 ∷ y ∷ ys)) → ⊥) → line_of (xs ++ (13 ∷ y ∷ ys)) ≡ other
stray_return xs y ys n = (line_is (xs ++ (13 ∷ y ∷ ys)) other).1 none
  where
    none : (l : Line) → InShape (xs ++ (13 ∷ y ∷ ys)) l → ⊥
    none note h = n h
    none (oper o) h = stray xs ys (text_of o) y h.end (above_text 13 (omega arith) o) h.text
    none other h = h

pub lone_return : line_of (13 ∷ []) ≡ other
lone_return = refl

-- A choice of line ends for the lines after the first, and one for the first.
abbrev chosen : LineEnd → (ℕ → LineEnd) → ℕ → LineEnd
chosen first later zero = first
chosen first later (suc i) = later i

choice : (os : List Operator) (ds : List ℕ) → TextIs ds (map oper os) → OperatorsText os ds
unfolding texts_ended
choice [] ds h = record { end = λ _. by_feed; text = h; small = tt }
choice (o ∷ os) ds h =
    let (cs, rest, s, a, m) = h in
    let q = choice os rest m in
    record {
      end = chosen a.end q.end;
      text = s.whole ∙ (λ i. a.text i ++ (10 ∷ q.text i));
      small = (a.small, q.small);
    }

-- A text is the lines of a list of operators exactly where it is that list's text, with some choice of line ends, line by line.
pub operators_text : (os : List Operator) (ds : List ℕ) → TextIs ds (map oper os) ↔ OperatorsText os ds
operators_text os ds = (
  choice os ds,
  (λ h. (text_is ds (map oper os)).0 (ap lines_of h.text ∙ lines_of_lem h.end os h.small, opers_shaped os)),
)

-- Two texts that fit and are the same lines in shape, each with line ends of its own, have the same answers, refusals and all.
module _ (ls : List Line) (p q : List ℕ) (fits-p : length p ≤ most_plan_bytes) (fits-q : length q ≤ most_plan_bytes) (is-p : TextIs p ls) (is-q : TextIs q ls) where
  same_number : plan_number p ≡ plan_number q
  same_number = plan_fits p fits-p ∙ sym (plan_fits q fits-q)

  same_lines : lines_of p ≡ lines_of q
  same_lines = ((text_is p ls).1 is-p).0 ∙ sym ((text_is q ls).1 is-q).0

  pub checked_alike : (b f : ℕ) (s : List ℕ) → check_plan b f s p ≡ check_plan b f s q
  unfolding check_plan
  checked_alike b f s = λ i. after (opened 0 (same_number i) b f s) (λ t. check_lines b f t (same_lines i))

  pub expanded_alike : (b f : ℕ) (s : List ℕ) (size : ℕ) → expand_plan b f s p size ≡ expand_plan b f s q size
  unfolding expand_plan
  expanded_alike b f s size = λ i.
      after (opened 0 (same_number i) b f s) (λ t.
      after (check_lines b f t (same_lines i)) (λ _. room_for size 0 (step_bytes (expand_all f t (opers_of (same_lines i))))))
