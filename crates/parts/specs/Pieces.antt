-- What a problem's text is written from, and its pieces.
use Rattle.std.specs.Prelude.{ℕ, zero, suc, ◌+◌, ◌≤◌, cond, List, ltb}
use Rattle.basics.specs.Texts.{bytes}
use Rattle.rules.specs.Limits.{most_bound}
use Rattle.rules.specs.Tables.{Table, action_count, method_count}
use Rattle.laws.specs.Steps.{step_text, front_text}
use Rattle.words.specs.Words.{Held}
use Rattle.template.specs.Sizes.{figure_count}
use Rattle.template.specs.Figures.{Figures}

abbrev pub step_count : Table → ℕ
step_count t = action_count t + method_count t

-- The pieces of a problem: the sections before the operators, the operators of each step, the last section.
abbrev pub problem_piece : ℕ → ℕ → Table → ℕ → List ℕ
problem_piece b f t zero = front_text b f t
problem_piece b f t (suc i) = cond (ltb i (step_count t)) (step_text b f t i) (bytes "0\n")

-- What a problem is written from: a table in the words, a bound in range, and the figures.
pub record Ready (b : ℕ) (w figures : List ℕ) : Type 0 where
  pub held : Held w
  pub high : b ≤ most_bound
  pub filled : Figures figures figure_count
