-- What the code's answer says of a plan found: the length of its text, and how many operators were applied.
use Rattle.std.specs.Prelude.{ℕ, Result}
use Rattle.basics.specs.declared.Refusal.{Refusal}
use Rattle.basics.specs.Answers.{Answer, answer, answer_of, after, mapped}
use Rattle.rules.specs.Refusals.{Sought, plan_bytes, room_of}
use Rattle.replies.specs.declared.Found.{Found}

pub record Figures : Type 0 where
  pub bytes : ℕ
  pub applied : ℕ

-- Its numbers, one at a time.
abbrev pub bytes_in : Figures → ℕ
bytes_in y = y.bytes

abbrev pub applied_of : Figures → ℕ
applied_of y = y.applied

abbrev pub figures_in : Found → Figures
figures_in y = record { bytes = y.bytes; applied = y.applied }

abbrev pub found_of : Result Found Refusal → Answer Figures
found_of r = answer_of figures_in r

abbrev pub figures_of : Sought → Figures
figures_of y = record { bytes = plan_bytes y; applied = y.applied }

abbrev pub figures : Answer Sought → Answer Figures
figures a = mapped figures_of a

-- Room for so many bytes: 16.
abbrev pub room_for_figures : ℕ → Figures → Answer Figures
room_for_figures size y = after (room_of size 0 y.bytes) (λ _. answer y)
