-- What a problem holds: variables with the names of their values, a start, a goal, operators.
use Rattle.std.specs.Prelude.{ℕ, List, [], map, length, get_or}
use Rattle.std.proofs.Math.Option.{Option}

pub record Variable : Type 0 where
  pub name : List ℕ
  pub values : List (List ℕ)

-- A variable and a value of it, in the goal or among what prevails.
pub record Setting : Type 0 where
  pub variable : ℕ
  pub value : ℕ

-- A variable, the value that it must have before, where one is fixing, and the value that it gets.
pub record Effect : Type 0 where
  pub variable : ℕ
  pub before : Option ℕ
  pub after : ℕ

pub record Oper : Type 0 where
  pub name : List ℕ
  pub prevail : List Setting
  pub effects : List Effect
  pub cost : ℕ

-- The start has a value for each variable, in order.
pub record Problem : Type 0 where
  pub variables : List Variable
  pub start : List ℕ
  pub goal : List Setting
  pub operators : List Oper

abbrev pub no_variable : Variable
no_variable = record { name = []; values = [] }

-- How many values a variable has.
abbrev pub values_of : List Variable → ℕ → ℕ
values_of vs v = length (get_or vs v no_variable).values

-- The variables of the lines, in order.
abbrev pub fixing : List Setting → List ℕ
fixing ss = map (λ s. s.variable) ss

abbrev pub changing : List Effect → List ℕ
changing es = map (λ e. e.variable) es
