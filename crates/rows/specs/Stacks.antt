-- A stack in cells: position i is cell i - 1.
use Rattle.std.specs.Prelude.{ℕ, zero, suc, List, [], ◌∷◌, get_or}

-- The stack in the first h cells, its top first.
unfoldable pub stack_of : List ℕ → ℕ → List ℕ
stack_of cells zero = []
stack_of cells (suc h) = get_or cells h 0 ∷ stack_of cells h
