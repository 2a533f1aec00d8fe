-- What an entry answers, and the paper's numbers for each case ("Refusal numbers").
use Rattle.std.specs.Prelude.{ℕ, Bool, cond, List, length, Result, Ok, Err}
use Rattle.basics.specs.declared.Refusal.{Refusal}

-- A result, or a refusal's number and place.
pub data Answer (A : Type 0) : Type 0 where
  answer : A → Answer A
  refusal : ℕ → ℕ → Answer A

-- "With no refusal both number and place are 0."
abbrev pub number_of : {A : Type 0} → Answer A → ℕ
number_of (answer a) = 0
number_of (refusal number place) = number

abbrev pub place_of : {A : Type 0} → Answer A → ℕ
place_of (answer a) = 0
place_of (refusal number place) = place

-- "every other number handed back is 0": a number that is read off a result is 0 with a refusal.
abbrev pub value_of : {A : Type 0} → (A → ℕ) → Answer A → ℕ
value_of f (answer a) = f a
value_of f (refusal number place) = 0

-- The result itself, where it is one number.
abbrev pub itself : ℕ → ℕ
itself n = n

-- "Checks run in this order": what passes goes on, what does not is refused.
abbrev pub check : {A : Type 0} → Bool → ℕ → ℕ → Answer A → Answer A
check passes number place rest = cond passes rest (refusal number place)

abbrev pub after : {A B : Type 0} → Answer A → (A → Answer B) → Answer B
after (answer a) f = f a
after (refusal number place) f = refusal number place

-- What is made of a result; a refusal stays.
abbrev pub mapped : {A B : Type 0} → (A → B) → Answer A → Answer B
mapped f (answer a) = answer (f a)
mapped f (refusal number place) = refusal number place

-- A text by its length.
abbrev pub length_of : Answer (List ℕ) → Answer ℕ
length_of x = mapped length x

-- What the code's answer says: its result as the document has it, or the refusal.
abbrev pub answer_of : {A B : Type 0} → (A → B) → Result A Refusal → Answer B
answer_of f (Ok a) = answer (f a)
answer_of f (Err e) = refusal e.number e.place

-- Where the result is one number.
abbrev pub reply_of : Result ℕ Refusal → Answer ℕ
reply_of r = answer_of itself r
