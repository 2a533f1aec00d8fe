-- A line by its parts, and the lines of a trail one after the other.
use Prim.Native.Nat.{ℕ, zero, suc, ◌+◌, ◌-◌, ◌≤◌, ◌<◌}
use mathlib.Core.Path.{◌≡◌, refl, sym, ap, ◌∙◌}
use mathlib.Core.List.{List, [], ◌∷◌, ◌++◌, append_assoc, map-append}
use native.Mathlib.Omega.{arith}
use lib.ListN.{length, take}
use Rattle.std.proofs.lemmas.Grind.{take_at_read}
use Rattle.basics.specs.Texts.{bytes, digits}
use Rattle.rules.specs.Tables.{Table, action_count}
use Rattle.rules.specs.Progression.{Step, mth}
use Rattle.rules.specs.Operators.{Operator}
use Rattle.rules.specs.Problems.{name_of}
use Rattle.rules.specs.Plans.{text_of, texts_of}
use Rattle.laws.specs.Steps.{step_at}
use Rattle.laws.proofs.StepNumbers.{step_action, step_past}
use Rattle.theorems.specs.Shapes.{step_number, Small, AllSmall}
use Rattle.trail.specs.declared.Mark.{Mark}
use Rattle.trail.specs.Trails.{unmarked, mark_at, operator_marked, marked}
use Rattle.plan_text.specs.PlanLines.{line_text}

-- The name of a row's step, and a method's number.
module _ (t : Table) (row a : ℕ) (e : a ≡ action_count t) where
  pub action_name : row < a → bytes "(" ++ name_of (step_at t row) ≡ bytes "(a" ++ digits row
  action_name l = ap (λ (x : Step). bytes "(" ++ name_of x) (step_action t row (omega arith))

  method_step : a ≤ row → step_at t row ≡ mth (row - a)
  method_step l = step_past t row (omega arith) ∙ ap (λ (n : ℕ). mth (row - n)) (sym e)

  pub method_name : a ≤ row → bytes "(" ++ name_of (step_at t row) ≡ bytes "(m" ++ digits (row - a)
  method_name l = ap (λ (x : Step). bytes "(" ++ name_of x) (method_step l)

  pub method_number : a ≤ row → step_number (step_at t row) ≡ row - a
  method_number l = ap step_number (method_step l)

-- A line as it is written.
parted : (x d : List ℕ) → (bytes "(" ++ (x ++ (32 ∷ d)) ++ bytes ")") ++ (10 ∷ []) ≡ ((bytes "(" ++ x) ++ (bytes " " ++ d)) ++ bytes ")\n"
parted x d = simp append_assoc

pub line_parts : (t : Table) (m : Mark)
    → line_text (operator_marked t m) ≡ ((bytes "(" ++ name_of (step_at t m.row)) ++ (bytes " " ++ digits m.position)) ++ bytes ")\n"
line_parts t m = parted (name_of (step_at t m.row)) (digits m.position)

-- One line more.
texts_append : (os : List Operator) (o : Operator) → texts_of (os ++ (o ∷ [])) ≡ texts_of os ++ line_text o
unfolding texts_of
texts_append [] o = refl
texts_append (x ∷ os) o =
    ap (λ (l : List ℕ). text_of x ++ (10 ∷ l)) (texts_append os o) ∙ sym (append_assoc (text_of x) (10 ∷ texts_of os) (line_text o))

pub texts_more : (t : Table) (marks : List Mark) (i : ℕ) → i < length marks
    → texts_of (marked t (take (i + 1) marks)) ≡ texts_of (marked t (take i marks)) ++ line_text (operator_marked t (mark_at marks i))
texts_more t marks i l =
    ap (λ (ms : List Mark). texts_of (marked t ms)) (take_at_read marks i unmarked l).1
    ∙ ap texts_of (map-append (operator_marked t) (take i marks) (mark_at marks i ∷ []))
    ∙ texts_append (marked t (take i marks)) (operator_marked t (mark_at marks i))

-- The numbers of all operators are small, so those of each are.
pub small_each : (t : Table) (marks : List Mark) → AllSmall (marked t marks) → (i : ℕ) → i < length marks → Small (operator_marked t (mark_at marks i))
small_each t [] h i l = absurd (omega arith)
small_each t (m ∷ ms) h zero l = h.0
small_each t (m ∷ ms) h (suc i) l = small_each t ms h.1 i (omega arith)
