-- How a problem is spelled, section for section.
use Rattle.std.specs.Prelude.{ℕ, List, [], ◌∷◌, ◌++◌, map, length}
use Rattle.std.proofs.Math.Option.{Option, none, some}
use Rattle.basics.specs.Lists.{concat}
use Rattle.basics.specs.Texts.{bytes, digits, line}
use Rattle.version3.specs.Problems.{Variable, Setting, Effect, Oper, Problem}

-- A line with one word, a line with one number.
abbrev pub word_line : List ℕ → List ℕ
word_line x = line (x ∷ [])

abbrev pub number_line : ℕ → List ℕ
number_line n = word_line (digits n)

-- Lines after their count.
abbrev pub counted : List (List ℕ) → List ℕ
counted ls = number_line (length ls) ++ concat ls

-- "version 3, metric 1, variable count".
unfoldable pub preamble : ℕ → List ℕ
preamble n = bytes "begin_version\n3\nend_version\nbegin_metric\n1\nend_metric\n" ++ number_line n

-- "A variable section holds name (its number), axiom layer, value count, value names".
unfoldable pub spell_variable : Variable → List ℕ
spell_variable v =
    bytes "begin_variable\n" ++ word_line v.name ++ bytes "-1\n" ++ counted (map word_line v.values) ++ bytes "end_variable\n"

-- "lines (variable, value)".
abbrev pub spell_setting : Setting → List ℕ
spell_setting s = line (digits s.variable ∷ digits s.value ∷ [])

-- "lines (0 conditions, variable, before, after)"; a value before that is not asked "is written −1".
abbrev pub spell_before : Option ℕ → List ℕ
spell_before none = bytes "-1"
spell_before (some x) = digits x

abbrev pub spell_effect : Effect → List ℕ
spell_effect e = line (bytes "0" ∷ digits e.variable ∷ spell_before e.before ∷ digits e.after ∷ [])

-- "mutex count 0, state, goal, operator count".
unfoldable pub middle : Problem → List ℕ
middle p =
    bytes "0\nbegin_state\n" ++ concat (map number_line p.start) ++ bytes "end_state\n"
    ++ bytes "begin_goal\n" ++ counted (map spell_setting p.goal) ++ bytes "end_goal\n"
    ++ number_line (length p.operators)

-- "An operator holds name, prevail count and lines, effect count and lines, cost."
unfoldable pub spell_oper : Oper → List ℕ
spell_oper o =
    bytes "begin_operator\n" ++ word_line o.name
    ++ counted (map spell_setting o.prevail)
    ++ counted (map spell_effect o.effects)
    ++ number_line o.cost
    ++ bytes "end_operator\n"

-- "Then one section per variable. Then one: mutex count 0, state, goal, operator count. Then one per operator. Last: axiom count 0."
unfoldable pub spell : Problem → List (List ℕ)
spell p =
    (preamble (length p.variables) ∷ map spell_variable p.variables)
    ++ (middle p ∷ map spell_oper p.operators)
    ++ (bytes "0\n" ∷ [])
