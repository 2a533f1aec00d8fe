-- What the code's answers say, as readings of the document.
use Rattle.std.specs.Prelude.{ℕ, ◌+◌, ◌<◌, ◌≤◌, ◌≡◌, List, length, take, drop, Result, Option, Some, None}
use Rattle.basics.specs.declared.Refusal.{Refusal}
use Rattle.basics.specs.Readings.{Reading, reading_of, onward_of}
use Rattle.rules.specs.Numbers.{groups_before}

abbrev pub num_of : Result (ℕ × ℕ) Refusal → Reading ℕ
num_of r = reading_of (λ v. v) r

-- The place of the last group of the number at a place, where the bytes go on as far.
abbrev pub IsLast : List ℕ → ℕ → Option ℕ → Type 0
IsLast s at (Some e) = (e ≡ at + groups_before (drop at s)) × (e < length s)
IsLast s at None = length s ≤ at + groups_before (drop at s)

-- What a step comes to that reads into the words from b on: its answer, with the value that it left there, is the reading, and the
-- words before b stay.
abbrev pub Reads : {A : Type 0} → Result ℕ Refusal → A → Reading A → ℕ → List ℕ → List ℕ → Type 0
Reads r a reading b old new = (onward_of r a ≡ reading) × (take b new ≡ take b old)
