-- Reading at a place of a row of bytes: a value and the place after it, or a refusal's number and place.
use Rattle.std.specs.Prelude.{ℕ, zero, suc, List, [], ◌∷◌, ◌++◌, Result, Ok, Err}
use Rattle.basics.specs.declared.Refusal.{Refusal}

pub data Reading (A : Type 0) : Type 0 where
  got : A → ℕ → Reading A
  bad : ℕ → ℕ → Reading A

infixl 20 ◌>>=◌
-- "by the first number at fault": a refusal ends the reading.
abbrev pub then : {A B : Type 0} → Reading A → (A → ℕ → Reading B) → Reading B
then (got a at) f = f a at
then (bad why at) f = bad why at

abbrev pub ◌>>=◌ : {A B : Type 0} → (ℕ → Reading A) → (A → ℕ → Reading B) → ℕ → Reading B
◌>>=◌ p f at = then (p at) f

-- Nothing more is read.
abbrev pub give : {A : Type 0} → A → ℕ → Reading A
give a at = got a at

-- n of them, in order.
unfoldable pub many : {A : Type 0} → (ℕ → Reading A) → ℕ → ℕ → Reading (List A)
many p zero at = got [] at
many p (suc n) at = then (many p n at) (λ xs at. then (p at) (λ x at. got (xs ++ (x ∷ [])) at))

-- What the code's reader says: a value as the document has it, and the place after it; or the refusal.
abbrev pub reading_of : {A B : Type 0} → (A → B) → Result (A × ℕ) Refusal → Reading B
reading_of f (Ok r) = got (f r.0) r.1
reading_of f (Err e) = bad e.number e.place

-- Where the value was left elsewhere, and only the place after it is handed back.
abbrev pub onward_of : {A : Type 0} → Result ℕ Refusal → A → Reading A
onward_of (Ok at) a = got a at
onward_of (Err e) a = bad e.number e.place
