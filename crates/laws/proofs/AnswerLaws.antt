-- Laws of answers: from an answer of the code to the definitions, and from one check to those after it.
use mathlib.Core.Path.{◌≡◌, refl, ap, sym, ◌∙◌}
use mathlib.Core.Bool.{Bool, true, false}
use Prim.Native.Nat.{ℕ}
use native.Mathlib.Omega.{arith}
use lib.Dec.{T}
use Rattle.basics.specs.Answers.{Answer, answer, refusal, number_of, place_of, value_of, check, after, mapped}

-- What a call ensures of its result r, at the constructor that a match found r to be.
pub via : {R O : Type 0} (f : R → O) {r q : R} {o : O} → f r ≡ o → r ≡ q → o ≡ f q
via f e p = sym e ∙ ap f p

-- A refusal is no result.
pub refused : {A P : Type 0} {r : A} (n l : ℕ) → refusal n l ≡ answer r → P
refused n l e = let z : ◌≡◌ {A = ℕ} 0 1 = cc in absurd (omega arith)

-- What came to a result passed each check, and what was to come after it came to that result.
pub check_passed : {A : Type 0} {r : A} (x : Bool) (n l : ℕ) (rest : Answer A) → check x n l rest ≡ answer r → T x × (rest ≡ answer r)
check_passed true n l rest e = (tt, e)
check_passed false n l rest e = refused n l e

pub after_passed : {A B : Type 0} {r : B} (x : Answer A) (k : A → Answer B) → after x k ≡ answer r → (a : A) × (x ≡ answer a) × (k a ≡ answer r)
after_passed (answer a) k e = (a, refl, e)
after_passed (refusal n l) k e = refused n l e

-- What is refused is refused too where more comes after it.
pub after_refused : {A B C : Type 0} {n l : ℕ} (x : Answer A) (k : A → Answer B) (g : A → B → Answer C) → after x k ≡ refusal n l
    → after x (λ a. after (k a) (g a)) ≡ refusal n l
after_refused (answer a) k g e = ap (λ y. after y (g a)) e
after_refused (refusal n l) k g e = cc

-- What is made of a result has the answer's number and place, and its own numbers.
module _ {A B : Type 0} (f : A → B) where
  pub mapped_number : (a : Answer A) → number_of (mapped f a) ≡ number_of a
  mapped_number (answer x) = refl
  mapped_number (refusal n l) = refl

  pub mapped_place : (a : Answer A) → place_of (mapped f a) ≡ place_of a
  mapped_place (answer x) = refl
  mapped_place (refusal n l) = refl

  pub mapped_value : (g : B → ℕ) (a : Answer A) → value_of g (mapped f a) ≡ value_of (λ x. g (f x)) a
  mapped_value g (answer x) = refl
  mapped_value g (refusal n l) = refl
