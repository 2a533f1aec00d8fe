-- A table in memory: the words of its header, then of its actions, then of its methods, each at a fixed place.
use Rattle.std.specs.Prelude.{ℕ, ◌+◌, ◌*◌, ◌≤◌, List, length, get_or}
use Rattle.basics.specs.Lists.{rows}
use Rattle.rules.specs.Limits.{most_actions, most_methods}
use Rattle.rules.specs.Tables.{Header, Action, Method, Table}
use Rattle.laws.specs.Valid.{Valid}
use Rattle.facts.specs.Sets.{set_words, set_of, set_at, action_words}
use Rattle.words.specs.declared.Header.{Header as HeaderInCode}

-- In a header the sets come after five numbers.
abbrev pub start_word : ℕ
start_word = 5

abbrev pub goal_word : ℕ
goal_word = start_word + set_words

-- How many words a header, an action and a method take; where the methods begin; how many words a table takes.
abbrev pub header_words : ℕ
header_words = goal_word + set_words

abbrev pub per_action : ℕ
per_action = action_words

abbrev pub per_method : ℕ
per_method = 10

abbrev pub first_method : ℕ
first_method = header_words + per_action * most_actions

abbrev pub table_words : ℕ
table_words = first_method + per_method * most_methods

abbrev pub header_of : List ℕ → Header
header_of w =
    record {
      facts = get_or w 0 0;
      actions = get_or w 1 0;
      abstracts = get_or w 2 0;
      methods = get_or w 3 0;
      start = get_or w 4 0;
      init = set_at w start_word;
      goal = set_at w goal_word;
    }

-- What the code's header says.
abbrev pub header_read : HeaderInCode → Header
header_read h =
    record {
      facts = h.facts;
      actions = h.actions;
      abstracts = h.abstracts;
      methods = h.methods;
      start = h.start;
      init = set_of h.init;
      goal = set_of h.goal;
    }

-- The action in the words from b on.
abbrev pub action_at : List ℕ → ℕ → Action
action_at w b = record { needs = set_at w b; adds = set_at w (b + set_words); dels = set_at w (b + 2 * set_words); cost = get_or w (b + 3 * set_words) 0 }

abbrev pub action_of : List ℕ → ℕ → Action
action_of w k = action_at w (header_words + per_action * k)

-- The word j places after b.
abbrev pub cell_of : ℕ → List ℕ → ℕ → ℕ
cell_of b w j = get_or w (b + j) 0

-- The method in the words from b on: its head, its count of subtasks, and as many subtasks.
abbrev pub method_at : List ℕ → ℕ → Method
method_at w b = record { head = get_or w b 0; subs = rows (cell_of (b + 2) w) (get_or w (b + 1) 0) }

abbrev pub method_of : List ℕ → ℕ → Method
method_of w k = method_at w (first_method + per_method * k)

abbrev pub table_of : List ℕ → Table
table_of w = record { head = header_of w; actions = rows (action_of w) (get_or w 1 0); methods = rows (method_of w) (get_or w 3 0) }

-- Words that hold a table that was read.
pub record Held (w : List ℕ) : Type 0 where
  pub size : table_words ≤ length w
  pub valid : Valid (table_of w)
