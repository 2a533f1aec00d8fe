-- An operator's parts as they are written, each as a piece of its template: name, the two groups of lines after their counts, cost.
use Rattle.std.specs.Prelude.{ℕ, suc, ◌+◌, ◌-◌, ◌*◌, cond, List, ◌∷◌, ◌++◌, eqb}
use Rattle.std.specs.Int.Bits.{bit_or}
use Rattle.std.specs.Int.Count.{ones}
use Rattle.basics.specs.Texts.{bytes, digits}
use Rattle.version3.specs.Spelling.{word_line, number_line}
use Rattle.rules.specs.Facts.{without}
use Rattle.rules.specs.Limits.{most_facts}
use Rattle.facts.specs.declared.Set.{Set}
use Rattle.facts.specs.Sets.{set_of}
use Rattle.listing.specs.Listings.{hold_text, change_text, hold_bytes, change_bytes}
use Rattle.drawing.specs.Pieces.{Piece, ◌then◌, fixed}
use Rattle.stack_lines.specs.StackLines.{top_stays, task_stays, top_moves, task_moves, push_all}

abbrev pub name_piece : ℕ → ℕ → Piece
name_piece letter k =
    record { text = λ p. bytes "begin_operator\n" ++ word_line ((letter ∷ digits k) ++ (32 ∷ digits (suc p))); bytes = 21; numbers = 1 }

abbrev pub cost_piece : ℕ → Piece
cost_piece cost = fixed (number_line cost ++ bytes "end_operator\n") 34

-- How many lines a group has, and those of its facts.
abbrev pub fact_lines : ℕ → List ℕ → ℕ → Piece
fact_lines n lines most = fixed (number_line n ++ lines) (4 + most)

-- The lines of the two groups: of so many facts, and of the stack, where `stay` tasks are left and `bottom` stands in the place
-- of `task`.
abbrev pub prevail_count : ℕ → ℕ → ℕ → ℕ → ℕ
prevail_count facts stay task bottom = facts + cond (eqb stay 1) 1 0 + cond (eqb bottom task) 1 0

abbrev pub effect_count : ℕ → ℕ → ℕ → ℕ → ℕ
effect_count facts stay task bottom = facts + cond (eqb stay 1) 0 1 + cond (eqb bottom task) 0 1 + (stay - 1)

abbrev pub prevail_group : ℕ → ℕ → ℕ → ℕ → ℕ → ℕ → Piece
prevail_group top needs dels stay task bottom =
    fact_lines (prevail_count (ones (without needs dels)) stay task bottom) (hold_text top (without needs dels)) (hold_bytes * most_facts)
    then top_stays top stay
    then task_stays top task bottom

abbrev pub effect_group : ℕ → ℕ → ℕ → ℕ → ℕ → ℕ → ℕ → Piece
effect_group top needs adds dels stay task bottom =
    fact_lines (effect_count (ones (bit_or dels (without adds needs))) stay task bottom) (change_text needs dels top (bit_or dels (without adds needs))) (change_bytes * most_facts)
    then top_moves top stay
    then task_moves top task bottom

-- The same of the sets as the code has them.
abbrev pub prevail_lines : ℕ → Set → Set → ℕ → ℕ → ℕ → Piece
prevail_lines top needs dels stay task bottom = prevail_group top (set_of needs) (set_of dels) stay task bottom

abbrev pub effect_lines : ℕ → Set → Set → Set → ℕ → ℕ → ℕ → Piece
effect_lines top needs adds dels stay task bottom = effect_group top (set_of needs) (set_of adds) (set_of dels) stay task bottom

-- All of it, where `rest` is left.
abbrev pub whole : ℕ → ℕ → ℕ → ℕ → ℕ → ℕ → ℕ → ℕ → ℕ → List ℕ → ℕ → Piece
whole top letter k needs adds dels stay task bottom rest cost =
    name_piece letter k
    then prevail_group top needs dels stay task bottom
    then effect_group top needs adds dels stay task bottom
    then push_all top rest
    then cost_piece cost
