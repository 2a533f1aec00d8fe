-- The numbers of an answer are those of its reading, whatever its result is read as.
use Rattle.std.proofs.Common.{Result, Ok, Err}
use mathlib.Core.Path.{◌≡◌, refl}
use Rattle.basics.specs.declared.Refusal.{Refusal}
use Rattle.basics.specs.Answers.{answer_of, number_of, place_of}

module _ {A B : Type 0} (f : A → B) where
  pub number_read : (r : Result A Refusal) → number_of (answer_of (λ x. x) r) ≡ number_of (answer_of f r)
  number_read (Ok a) = refl
  number_read (Err e) = refl

  pub place_read : (r : Result A Refusal) → place_of (answer_of (λ x. x) r) ≡ place_of (answer_of f r)
  place_read (Ok a) = refl
  place_read (Err e) = refl
