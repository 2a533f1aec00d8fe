-- A step of composing: a piece after what is drawn.
use Rattle.std.specs.Prelude.{ℕ, ◌+◌, ◌≤◌, ◌≡◌, ◌++◌, length}
use Rattle.template.specs.declared.memory.Template.{Template}
use Rattle.template.specs.Templates.{Stands, Keeps, rendered}
use Rattle.drawing.specs.Pieces.{Piece}

-- Room for the bytes of a piece, and for the numbers that move in it.
pub record Room (x : Piece) (t : Template) : Type 0 where
  pub bytes : t.at + x.bytes ≤ length t.text.now
  pub numbers : t.count + x.numbers ≤ length t.numbers.now

-- After whatever was drawn, the piece is drawn.
pub record Draws (x : Piece) (t t' : Template) : Type 0 where
  pub stands : Stands t → Stands t'
  pub text : Stands t → (p : ℕ) → rendered t' p ≡ rendered t p ++ x.text p
  pub most : t'.at ≤ t.at + x.bytes
  pub count : t'.count ≤ t.count + x.numbers
  pub memory : Keeps t t'

-- The same where no number moves: the numbers stay.
pub record Writes (x : Piece) (t t' : Template) : Type 0 where
  pub draws : Draws x t t'
  pub numbers : t'.numbers.now ≡ t.numbers.now
