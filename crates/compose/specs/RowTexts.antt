-- The operators of a row.
use Rattle.std.specs.Prelude.{ℕ, suc, ◌^◌, ◌≤◌, ◌<◌, false, List}
use Rattle.basics.specs.Texts.{ThreeDigits}
use Rattle.version3.specs.Problems.{Oper}
use Rattle.version3.specs.Spelling.{spell_oper}
use Rattle.rules.specs.Limits.{most_facts}
use Rattle.rules.specs.Facts.{Join}
use Rattle.rules.specs.Problems.{oper_at}
use Rattle.rows.specs.Rows.{Row, row_at}
use Rattle.stack_lines.specs.StackLines.{Left}

abbrev pub sets_of : Row → Join
sets_of r = record { needs = r.needs; adds = r.adds; dels = r.dels; dead = false }

-- At position i, under its name; and the text at position p + 1.
abbrev pub row_oper : ℕ → ℕ → List ℕ → Row → ℕ → Oper
row_oper top free name r i = oper_at top free name (sets_of r) r.task i r.rest r.cost

abbrev pub row_text : ℕ → ℕ → List ℕ → Row → ℕ → List ℕ
row_text top free name r p = spell_oper (row_oper top free name r (suc p))

-- The facts of the row are below `top`, and its task has at most three digits.
pub record Small (top : ℕ) (r : Row) : Type 0 where
  pub needs : r.needs < 2 ^ top
  pub adds : r.adds < 2 ^ top
  pub dels : r.dels < 2 ^ top
  pub task : ThreeDigits r.task

-- What is asked of the first row and of its number k.
pub record Fit (top free k : ℕ) (ops cells : List ℕ) : Type 0 where
  pub facts : top ≤ most_facts
  pub none : ThreeDigits free
  pub number : ThreeDigits k
  pub row : Small top (row_at ops cells 0)
  pub left : Left ops cells
