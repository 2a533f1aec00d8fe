-- The step list's bytes, read back.
use Rattle.std.specs.Prelude.{ℕ, ◌+◌, ◌-◌, ◌*◌, ◌<◌, cond, List, [], ◌∷◌, ltb}
use Rattle.rules.specs.Limits.{method_words}
use Rattle.rules.specs.Progression.{Step, act, mth}

-- The step of a word, and the steps of some bytes, two to a word.
abbrev pub step_of : ℕ → Step
step_of w = cond (ltb w method_words) (act w) (mth (w - method_words))

unfoldable pub steps_of : List ℕ → List Step
steps_of [] = []
steps_of (low ∷ []) = []
steps_of (low ∷ high ∷ rest) = step_of (low + 256 * high) ∷ steps_of rest

-- An action's word is below the first method's, and a method's word is one of two bytes.
abbrev pub Numbered : List Step → Type 0
Numbered [] = Unit {0}
Numbered (act k ∷ xs) = (k < method_words) × Numbered xs
Numbered (mth k ∷ xs) = (method_words + k < 256 * 256) × Numbered xs

abbrev pub AllBytes : List ℕ → Type 0
AllBytes [] = Unit {0}
AllBytes (x ∷ xs) = (x < 256) × AllBytes xs
