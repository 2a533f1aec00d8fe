-- What is written of the notes of a check.
use Rattle.std.specs.Prelude.{ℕ, List, take}
use Rattle.basics.specs.Answers.{Answer}
use Rattle.rules.specs.Tables.{Table}
use Rattle.rules.specs.Refusals.{room_for}
use Rattle.step_list.specs.RowSteps.{rows_bytes}

-- The bytes of an accepted plan's notes, so many operators, to be written from the start of `size` bytes.
abbrev pub note_bytes : ℕ → Table → List ℕ → ℕ → ℕ → Answer (List ℕ)
note_bytes f t notes operators size = room_for size 0 (rows_bytes f t (take operators notes))
