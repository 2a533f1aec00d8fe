-- What the emitting program writes, piece by piece: the whole problem, or the line of a refusal.
use Rattle.std.specs.Prelude.{ℕ, ◌+◌, ◌≡◌, List, Result, Ok, Err}
use Rattle.basics.specs.Lists.{upto}
use Rattle.basics.specs.declared.Refusal.{Refusal}
use Rattle.rules.specs.Tables.{Table}
use Rattle.rules.specs.Programs.{refused_line}
use Rattle.words.specs.Words.{table_of, Held}
use Rattle.parts.specs.Pieces.{step_count, problem_piece, Ready}
use Rattle.emission.specs.declared.Problem.{Problem}

-- A problem, or a refusal's line.
abbrev pub Job : Type 0
Job = Result Problem Refusal

-- The pieces of a job, and how many there are.
abbrev pub piece_of : Job → Table → ℕ → List ℕ
piece_of (Ok p) t i = problem_piece p.bound p.form t i
piece_of (Err e) t i = refused_line e.number e.place

abbrev pub piece_count : Job → Table → ℕ
piece_count (Ok p) t = step_count t + 2
piece_count (Err e) t = 1

-- A problem's table is in the words.
abbrev pub TableHeld : Job → List ℕ → Type 0
TableHeld (Ok p) w = Held w
TableHeld (Err e) w = Unit {0}

abbrev pub Stands : Job → List ℕ → List ℕ → Type 0
Stands (Ok p) w figures = Ready p.bound w figures
Stands (Err e) w figures = Unit {0}

-- The job, done with what stands in the words, writes x.
pub record Does (x : List ℕ) (j : Job) (w figures : List ℕ) : Type 0 where
  pub output : x ≡ upto (piece_of j (table_of w)) (piece_count j (table_of w))
  pub stands : Stands j w figures
