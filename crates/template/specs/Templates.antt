-- What a template says.
use Rattle.std.specs.Prelude.{ℕ, ◌≤◌, ◌<◌, ◌≡◌, List, length}
use Rattle.template.specs.declared.memory.Template.{Template}
use Rattle.template.specs.Sizes.{most_offset}
use Rattle.template.specs.Segments.{number_at, start_of, text_of}

-- The whole text at the position p.
unfoldable pub rendered : Template → ℕ → List ℕ
rendered t p = text_of t.text.now t.numbers.now t.at t.from t.count p

-- The open segment begins after the last number, and each number is low enough to have a figure.
pub record Stands (t : Template) : Type 0 where
  pub begins : t.from ≡ start_of t.numbers.now t.count
  pub low : (j : ℕ) → j < t.count → (number_at t.numbers.now j).offset ≤ most_offset

-- Nothing is drawn.
pub record Blank (t : Template) : Type 0 where
  pub at : t.at ≡ 0
  pub from : t.from ≡ 0
  pub count : t.count ≡ 0

-- The memory that is lent stays the same, and as long: who lent it finds there what was drawn.
pub record Keeps (t t' : Template) : Type 0 where
  pub text : t'.text.ghost_name ≡ t.text.ghost_name
  pub numbers : t'.numbers.ghost_name ≡ t.numbers.ghost_name
  pub text_length : length t'.text.now ≡ length t.text.now
  pub numbers_length : length t'.numbers.now ≡ length t.numbers.now
