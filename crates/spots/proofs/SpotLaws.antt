-- States in cells: which are complete, the first row of the task on top, and a row that was tried.
use Prim.Native.Nat.{ℕ, zero, suc, ◌-◌, ◌≤◌, ◌<◌}
use mathlib.Core.Path.{◌≡◌, refl, sym}
use mathlib.Core.Bool.{Bool, true, false, ◌&&◌}
use mathlib.Core.List.{List}
use native.Mathlib.Omega.{arith}
use borrow.Author.Tests.{eq-eqb, ne_eqb, le-leb, lt-leb}
use lib.Dec.{leb}
use Rattle.std.specs.Prelude.{Some, None}
use lib.ListN.{length, get_or}
use Rattle.rules.specs.Limits.{most_tasks}
use Rattle.rules.specs.Tables.{Table, goal_facts}
use Rattle.rules.specs.Facts.{holds}
use Rattle.rules.specs.Searches.{complete}
use Rattle.facts.specs.Sets.{set_of}
use Rattle.rows.specs.Sizes.{most_rows}
use Rattle.rows.specs.Rows.{Row}
use Rattle.rows.specs.Stacks.{stack_of}
use Rattle.links.specs.declared.Links.{Links}
use Rattle.links.specs.Links.{first_in}
use Rattle.spots.specs.declared.Spot.{Spot}
use Rattle.spots.specs.Spots.{state_at, top_row, Lands, Tries}

pub complete_high : (t : Table) (facts height : ℕ) (cells : List ℕ) → (height ≡ 0 → ⊥) → false ≡ complete t (state_at facts cells height)
unfolding stack_of
complete_high t facts zero cells h = absurd (h refl)
complete_high t facts (suc height) cells h = refl

pub complete_empty : (t : Table) (facts height : ℕ) (cells : List ℕ) → height ≡ 0 → holds (goal_facts t) facts ≡ complete t (state_at facts cells height)
unfolding stack_of
complete_empty t facts zero cells h = refl
complete_empty t facts (suc height) cells h = absurd (omega arith)

-- The first row of the task on top, a test at a time.
module _ (links : Links) (cells : List ℕ) (height rest : ℕ) where
  pub top_limit : rest ≡ 0 → most_rows ≡ top_row links cells height rest
  top_limit z = rw (eq-eqb rest 0 z)

  module _ (n : rest ≡ 0 → ⊥) where
    pub top_empty : height ≡ 0 → most_rows ≡ top_row links cells height rest
    top_empty z = rw (ne_eqb rest 0 n, eq-eqb height 0 z)

    module _ (m : height ≡ 0 → ⊥) where
      pub top_strange : most_tasks ≤ get_or cells (height - 1) 0 → most_rows ≡ top_row links cells height rest
      top_strange l = rw (ne_eqb rest 0 n, ne_eqb height 0 m, le-leb most_tasks (get_or cells (height - 1) 0) l)

      pub top_first : get_or cells (height - 1) 0 < most_tasks → first_in links (get_or cells (height - 1) 0) ≡ top_row links cells height rest
      top_first l = rw (ne_eqb rest 0 n, ne_eqb height 0 m, lt-leb most_tasks (get_or cells (height - 1) 0) l)

-- A row that was tried: it is not applied, or it is.
module _ (r : Row) (at : Spot) (old : List ℕ) where
  abbrev tested : Bool
  tested = leb at.height r.last && holds r.needs (set_of at.facts)

  pub tries_not : tested ≡ false → Tries r at old old None
  tries_not h = record { size = refl; applied = sym h; on = tt; off = refl }

  pub tested_high : r.last < at.height → tested ≡ false
  tested_high l = rw (lt-leb at.height r.last l)

  module _ (l : at.height ≤ r.last) where
    pub tested_needs : holds r.needs (set_of at.facts) ≡ false → tested ≡ false
    tested_needs h = rw (le-leb at.height r.last l, h)

    pub tries_on : holds r.needs (set_of at.facts) ≡ true → (new : List ℕ) → length new ≡ length old → (after : Spot) → Lands r at old new after
        → Tries r at old new (Some after)
    tries_on h new size after lands =
        record { size = size; applied = sym (rw (le-leb at.height r.last l, h)); on = lands; off = tt }
