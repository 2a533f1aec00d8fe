-- "Text sections": the emitted problem, section for section, in both forms.
use Rattle.std.specs.Prelude.{ℕ, List}
use Rattle.basics.specs.Lists.{concat}
use Rattle.version3.specs.Spelling.{spell}
use Rattle.rules.specs.Tables.{Table}
use Rattle.rules.specs.Problems.{problem_of}

-- "0: version 3, metric 1, variable count. Then one section per variable. Then one: mutex count 0, state, goal, operator count. Then one
-- per operator. Last: axiom count 0."
unfoldable pub sections_of : ℕ → ℕ → Table → List (List ℕ)
sections_of b f t = spell (problem_of b f t)

-- All sections in order, as the emitting program writes them.
unfoldable pub problem_text : ℕ → ℕ → Table → List ℕ
problem_text b f t = concat (sections_of b f t)
