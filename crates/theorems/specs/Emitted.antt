-- Where operators exist, in the document's words.
use Rattle.std.specs.Prelude.{ℕ, ◌+◌, ◌≤◌, ◌≡◌, [], ◌∷◌}
use Rattle.rules.specs.Tables.{Table, method}

-- "at 1 to b if r = 0, otherwise at 1 to b − r + 1 (none if that is below 1)".
abbrev pub UpTo : ℕ → ℕ → Type 0
UpTo b i = (1 ≤ i) × (i ≤ b)

abbrev pub UpToLess : ℕ → ℕ → ℕ → Type 0
UpToLess b r i = (1 ≤ i) × (i + r ≤ b + 1)

-- "A method c to c alone".
abbrev pub Alone : Table → ℕ → Type 0
Alone t k = (method t k).subs ≡ (method t k).head ∷ []
