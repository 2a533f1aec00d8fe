-- What the code's sets, actions and joins say.
use Rattle.std.specs.Prelude.{ℕ, ◌+◌, ◌*◌, cond, Option, None, Some, List, [], ◌∷◌, ltb, get_or, set}
use Rattle.rules.specs.Tables.{Action}
use Rattle.rules.specs.Facts.{Join, members_of}
use Rattle.facts.specs.declared.Set.{Set}
use Rattle.facts.specs.declared.Members.{Members}
use Rattle.facts.specs.declared.Action.{Action as ActionInCode}
use Rattle.facts.specs.declared.Join.{Join as JoinInCode}

abbrev pub set_of : Set → ℕ
set_of s = s.bits

-- The facts below n that a walk has still to give: the one it has come to and those of the others, or none.
abbrev pub members_read : ℕ → Option Members → List ℕ
members_read n None = []
members_read n (Some m) = cond (ltb m.fact n) (m.fact ∷ members_of n (set_of m.others)) []

-- A set among words: how many it takes, the set from a place on, and a set stored there.
abbrev pub set_words : ℕ
set_words = 1

abbrev pub set_at : List ℕ → ℕ → ℕ
set_at w at = get_or w at 0

abbrev pub set_put : List ℕ → ℕ → ℕ → List ℕ
set_put w at s = set w at s

-- An action takes three sets and a cost.
abbrev pub action_words : ℕ
action_words = 3 * set_words + 1

abbrev pub action_read : ActionInCode → Action
action_read a = record { needs = set_of a.needs; adds = set_of a.adds; dels = set_of a.dels; cost = a.cost }

abbrev pub join_read : JoinInCode → Join
join_read j = record { needs = set_of j.needs; adds = set_of j.adds; dels = set_of j.dels; dead = j.dead }
