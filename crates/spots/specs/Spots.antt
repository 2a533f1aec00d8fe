-- Where the code's walk stands.
use Rattle.std.specs.Prelude.{ℕ, ◌-◌, ◌≤◌, ◌≡◌, ◌&&◌, cond, Option, is_some, IfSome, IfNone, List, ◌++◌, length, get_or, set, eqb, leb}
use Rattle.rules.specs.Limits.{most_bound, most_tasks}
use Rattle.rules.specs.Tables.{Table}
use Rattle.rules.specs.Facts.{holds, changed}
use Rattle.rules.specs.Progression.{State, begin}
use Rattle.facts.specs.Sets.{set_of}
use Rattle.rows.specs.Sizes.{most_rows, stack_cells}
use Rattle.rows.specs.Rows.{Row}
use Rattle.rows.specs.Stacks.{stack_of}
use Rattle.trail.specs.declared.Mark.{Mark}
use Rattle.links.specs.declared.Links.{Links}
use Rattle.links.specs.Links.{first_in}
use Rattle.spots.specs.declared.Spot.{Spot}

-- A state whose stack stands in cells, and that of a spot.
abbrev pub state_at : ℕ → List ℕ → ℕ → State
state_at facts cells height = record { facts = facts; stack = stack_of cells height }

abbrev pub state_in : Spot → List ℕ → State
state_in at cells = state_at (set_of at.facts) cells at.height

-- The mark of an operator that is applied at a spot.
abbrev pub mark_of : ℕ → Spot → Mark
mark_of row at = record { row = row; position = at.height; facts = at.facts }

-- The first row of the task on top, where `rest` operators more are allowed; most_rows is no row.
abbrev pub top_row : Links → List ℕ → ℕ → ℕ → ℕ
top_row links cells height rest =
    cond (eqb rest 0) most_rows
    (cond (eqb height 0) most_rows
    (cond (leb most_tasks (get_or cells (height - 1) 0)) most_rows (first_in links (get_or cells (height - 1) 0))))

pub record Begins (t : Table) (stack : List ℕ) (at : Spot) : Type 0 where
  pub state : state_in at stack ≡ begin t
  pub height : at.height ≡ 1
  pub cells : length stack ≡ stack_cells

-- What it leaves where it is applied.
pub record Lands (r : Row) (at : Spot) (old new : List ℕ) (after : Spot) : Type 0 where
  pub facts : set_of after.facts ≡ changed r.dels r.adds (set_of at.facts)
  pub stack : stack_of new after.height ≡ r.rest ++ stack_of old (at.height - 1)
  pub low : after.height ≤ most_bound

-- A row whose task is on top of a spot's stack was tried: it was applied where it exists so high and its needs hold.
pub record Tries (r : Row) (at : Spot) (old new : List ℕ) (q : Option Spot) : Type 0 where
  pub size : length new ≡ length old
  pub applied : is_some q ≡ (leb at.height r.last && holds r.needs (set_of at.facts))
  pub on : IfSome q (Lands r at old new)
  pub off : IfNone q (new ≡ old)

-- Back where an operator was applied, with its row's task put back.
pub record Returned (m : Mark) (task : ℕ) (old new : List ℕ) (at : Spot) : Type 0 where
  pub facts : at.facts ≡ m.facts
  pub height : at.height ≡ m.position
  pub stack : new ≡ set old (m.position - 1) task
