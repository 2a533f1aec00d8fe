-- Which bytes are which line of a plan, said of the bytes and not of how they are read.
use Rattle.std.specs.Prelude.{ℕ, suc, ◌≡◌, List, [], ◌∷◌, ◌++◌}
use Rattle.basics.specs.Texts.{ThreeDigits}
use Rattle.rules.specs.Progression.{Step, act, mth}
use Rattle.rules.specs.Operators.{Operator}
use Rattle.rules.specs.Plans.{Line, note, oper, other, text_of}

-- The number of a step; that an operator's two numbers "have one to three digits".
abbrev pub step_number : Step → ℕ
step_number (act k) = k
step_number (mth k) = k

pub record Small (o : Operator) : Type 0 where
  pub number : ThreeDigits (step_number o.what)
  pub position : ThreeDigits o.at

-- So have those of each operator of a list.
abbrev pub AllSmall : List Operator → Type 0
AllSmall [] = Unit {0}
AllSmall (o ∷ os) = Small o × AllSmall os

-- C-13: "A line may end either way": with a line feed, or with a carriage return and a line feed.
pub data LineEnd : Type 0 where
  by_feed : LineEnd
  by_return : LineEnd

-- What of a line's end stands before its line feed.
abbrev pub before_feed : LineEnd → List ℕ
before_feed by_feed = []
before_feed by_return = 13 ∷ []

-- "`(`, `a` or `m`, a number, one space, a position, `)`", and the line's end, of which the line feed is taken off.
pub record TextOf (o : Operator) (cs : List ℕ) : Type 0 where
  pub end : LineEnd
  pub text : cs ≡ text_of o ++ before_feed end
  pub small : Small o

-- "A line that starts with `;`".
pub record Comment (cs : List ℕ) : Type 0 where
  pub content : List ℕ
  pub starts : cs ≡ 59 ∷ content

-- A line in shape is a comment or the text of an operator.
abbrev pub InShape : List ℕ → Line → Type 0
InShape cs note = Comment cs
InShape cs (oper o) = TextOf o cs
InShape cs other = ⊥

-- "line of another shape": none of these.
abbrev pub LineIs : List ℕ → Line → Type 0
LineIs cs note = InShape cs note
LineIs cs (oper o) = InShape cs (oper o)
LineIs cs other = (l : Line) → InShape cs l → ⊥

abbrev pub NoFeed : List ℕ → Type 0
NoFeed [] = Unit {0}
NoFeed (c ∷ cs) = (c ≡ 10 → ⊥) × NoFeed cs

-- The first line of a text, its line feed, and the rest.
pub record Split (ds cs rest : List ℕ) : Type 0 where
  pub first : NoFeed cs
  pub whole : ds ≡ cs ++ (10 ∷ rest)

-- A text of whole lines, each ended by a line feed and in shape.
abbrev pub TextIs : List ℕ → List Line → Type 0
TextIs ds [] = ds ≡ []
TextIs ds (l ∷ ls) = (cs : List ℕ) × (rest : List ℕ) × Split ds cs rest × InShape cs l × TextIs rest ls

-- C-13: "each line on its own": a choice of line ends has one for each line, from 0. This is the same choice, counted from the second line.
abbrev pub onward : (ℕ → LineEnd) → ℕ → LineEnd
onward end i = end (suc i)

-- The text of a list of operators, with a choice of line ends.
unfoldable pub texts_ended : (ℕ → LineEnd) → List Operator → List ℕ
texts_ended end [] = []
texts_ended end (o ∷ os) = (text_of o ++ before_feed (end 0)) ++ (10 ∷ texts_ended (onward end) os)

-- A text of operators alone: what it is for some choice of line ends.
pub record OperatorsText (os : List Operator) (ds : List ℕ) : Type 0 where
  pub end : ℕ → LineEnd
  pub text : ds ≡ texts_ended end os
  pub small : AllSmall os
