-- The lines of the stack at the position p + 1, where `stay` tasks are left and `bottom` stands in the place of `task`; the top has the
-- variable `top`.
use Rattle.std.specs.Prelude.{ℕ, suc, ◌+◌, ◌-◌, ◌*◌, ◌<◌, cond, List, [], eqb, length, get_or}
use Rattle.std.proofs.Math.Option.{none}
use Rattle.basics.specs.Lists.{upto}
use Rattle.basics.specs.Texts.{ThreeDigits}
use Rattle.version3.specs.Problems.{Effect}
use Rattle.version3.specs.Spelling.{spell_setting, spell_effect}
use Rattle.rules.specs.Limits.{most_subtasks}
use Rattle.rules.specs.Problems.{set, change, push}
use Rattle.rows.specs.Rows.{row_at, RowHeld}
use Rattle.drawing.specs.Pieces.{Piece}

-- Where they do not change.
unfoldable pub top_stays_text : ℕ → ℕ → ℕ → List ℕ
top_stays_text top stay p = cond (eqb stay 1) (spell_setting (set top (suc p))) []

unfoldable pub task_stays_text : ℕ → ℕ → ℕ → ℕ → List ℕ
task_stays_text top task bottom p = cond (eqb bottom task) (spell_setting (set (top + suc p) task)) []

abbrev pub top_stays : ℕ → ℕ → Piece
top_stays top stay = record { text = top_stays_text top stay; bytes = 5; numbers = cond (eqb stay 1) 1 0 }

abbrev pub task_stays : ℕ → ℕ → ℕ → Piece
task_stays top task bottom = record { text = task_stays_text top task bottom; bytes = 5; numbers = cond (eqb bottom task) 1 0 }

-- Where they do.
unfoldable pub top_moves_text : ℕ → ℕ → ℕ → List ℕ
top_moves_text top stay p = cond (eqb stay 1) [] (spell_effect (change top (suc p) (suc p + stay - 1)))

unfoldable pub task_moves_text : ℕ → ℕ → ℕ → ℕ → List ℕ
task_moves_text top task bottom p = cond (eqb bottom task) [] (spell_effect (change (top + suc p) task bottom))

abbrev pub top_moves : ℕ → ℕ → Piece
top_moves top stay = record { text = top_moves_text top stay; bytes = 8; numbers = cond (eqb stay 1) 0 2 }

abbrev pub task_moves : ℕ → ℕ → ℕ → Piece
task_moves top task bottom = record { text = task_moves_text top task bottom; bytes = 11; numbers = cond (eqb bottom task) 0 1 }

-- A task goes j + 1 positions higher, where nothing is said of what was there.
abbrev pub raised : ℕ → ℕ → ℕ → ℕ → Effect
raised top p j task = record { variable = top + suc p + suc j; before = none; after = task }

abbrev pub push_one : ℕ → ℕ → ℕ → Piece
push_one top j task = record { text = λ p. spell_effect (raised top p j task); bytes = 10; numbers = 1 }

-- The first n of the places above: the tasks that are left, from the one before the last on.
unfoldable pub pushed : ℕ → List ℕ → ℕ → ℕ → List ℕ
pushed top rest p j = spell_effect (push top (suc p) rest j)

abbrev pub push_many : ℕ → List ℕ → ℕ → ℕ → Piece
push_many top rest n most = record { text = λ p. upto (pushed top rest p) n; bytes = 10 * most; numbers = n }

-- All of them; and those that the first row leaves.
abbrev pub push_all : ℕ → List ℕ → Piece
push_all top rest = push_many top rest (length rest - 1) (most_subtasks - 1)

abbrev pub above : ℕ → List ℕ → List ℕ → Piece
above top ops cells = push_all top (row_at ops cells 0).rest

-- The first row leaves tasks of at most three digits each.
pub record Left (ops cells : List ℕ) : Type 0 where
  pub held : RowHeld ops cells 0
  pub low : (m : ℕ) → m < length (row_at ops cells 0).rest → ThreeDigits (get_or (row_at ops cells 0).rest m 0)
