-- The lines of the facts of a set, and the bytes that they take.
use Rattle.std.specs.Prelude.{ℕ, ◌*◌, cond, List, [], map}
use Rattle.basics.specs.Lists.{concat}
use Rattle.version3.specs.Spelling.{spell_setting, spell_effect}
use Rattle.rules.specs.Limits.{most_facts}
use Rattle.rules.specs.Facts.{has, members_of}
use Rattle.rules.specs.Problems.{set, holding, fact_effect}
use Rattle.facts.specs.Sets.{set_of}
use Rattle.listing.specs.declared.Says.{Says}
use Rattle.listing.specs.declared.Says.TheVariants.{Holds, Changes}

-- Of one fact.
abbrev pub fact_line : Says → ℕ → List ℕ
fact_line Holds k = spell_setting (set k 0)
fact_line (Changes needs dels) k = spell_effect (fact_effect (set_of needs) (set_of dels) k)

-- Of the facts of a set, of n facts in all; and of fact k alone, where the set has it.
abbrev pub hold_text : ℕ → ℕ → List ℕ
hold_text n s = concat (map spell_setting (holding (members_of n s)))

abbrev pub change_text : ℕ → ℕ → ℕ → ℕ → List ℕ
change_text needs dels n s = concat (map spell_effect (map (fact_effect needs dels) (members_of n s)))

abbrev pub list_text : Says → ℕ → ℕ → List ℕ
list_text Holds n s = hold_text n s
list_text (Changes needs dels) n s = change_text (set_of needs) (set_of dels) n s

unfoldable pub line_where : Says → ℕ → ℕ → List ℕ
line_where says s k = cond (has s k) (fact_line says k) []

-- No line and no list is longer.
abbrev pub hold_bytes : ℕ
hold_bytes = 6

abbrev pub change_bytes : ℕ
change_bytes = 11

abbrev pub line_bytes : Says → ℕ
line_bytes Holds = hold_bytes
line_bytes (Changes needs dels) = change_bytes

abbrev pub list_bytes : Says → ℕ
list_bytes says = line_bytes says * most_facts
