-- The middle section in the pieces in which it is written, and room for them.
use Rattle.std.specs.Prelude.{ℕ, ◌+◌, ◌*◌, List, ◌++◌, map}
use Rattle.basics.specs.Lists.{rows, concat}
use Rattle.basics.specs.Texts.{bytes}
use Rattle.version3.specs.Spelling.{number_line, counted, spell_setting}
use Rattle.rules.specs.Tables.{Table}
use Rattle.rules.specs.Problems.{variable_count, start_value, goal_of}
use Rattle.problem.specs.Sizes.{most_variables}
use Rattle.listing.specs.declared.Says.TheVariants.{Holds}
use Rattle.listing.specs.Listings.{list_bytes}

abbrev pub start_line : Table → ℕ → List ℕ
start_line t v = number_line (start_value t v)

unfoldable pub state_text : ℕ → Table → List ℕ
state_text b t = bytes "0\nbegin_state\n" ++ concat (map number_line (rows (start_value t) (variable_count b t))) ++ bytes "end_state\n"

unfoldable pub goal_text : Table → List ℕ
goal_text t = bytes "begin_goal\n" ++ counted (map spell_setting (goal_of t)) ++ bytes "end_goal\n"

-- Four bytes for a value at the start.
abbrev pub values_bytes : ℕ
values_bytes = 4 * most_variables

-- State and goal, with the lines that begin and end them, and the goal's with its count and the line of the top.
abbrev pub state_bytes : ℕ
state_bytes = 14 + values_bytes + 10

abbrev pub goal_bytes : ℕ
goal_bytes = 15 + list_bytes Holds + 15
