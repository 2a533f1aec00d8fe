-- What the opening of a table comes to, with an entry's own checks by what they answer.
use Rattle.std.specs.Prelude.{ℕ, ◌≤◌, ◌≡◌, List, Result, Ok, ⊤}
use Rattle.basics.specs.declared.Refusal.{Refusal}
use Rattle.basics.specs.Answers.{Answer, answer, answer_of, after}
use Rattle.rules.specs.Limits.{most_bound}
use Rattle.rules.specs.Tables.{Table, decode}
use Rattle.rules.specs.Refusals.{bounded, formed, table_fits, read_of}
use Rattle.words.specs.Words.{table_of, Held}

-- `table_read`, `form_read` and `opened` of the document, where the checks of the entry's own are answers and no numbers.
abbrev pub read_after : Answer ⊤ → List ℕ → Answer Table
read_after late s = table_fits s (after late (λ _. read_of (decode s)))

abbrev pub formed_after : Answer ⊤ → Answer ⊤ → ℕ → List ℕ → Answer Table
formed_after early late f s = formed f (after early (λ _. read_after late s))

abbrev pub opened_after : Answer ⊤ → Answer ⊤ → ℕ → ℕ → List ℕ → Answer Table
opened_after early late b f s = bounded b (formed_after early late f s)

-- What a check of the entry's own says.
abbrev pub own : Result ⊤ Refusal → Answer ⊤
own r = answer_of (λ u. u) r

-- What the code's answer says, of the words that it left.
abbrev pub opening_of : Result ⊤ Refusal → List ℕ → Answer Table
opening_of r w = answer_of (λ _. table_of w) r

-- The answer and the words say o; where the table is opened, what the entry goes on with is known.
pub record Opens (o : Answer Table) (goesOn : Type 0) (r : Result ⊤ Refusal) (w : List ℕ) : Type 0 where
  pub answers : opening_of r w ≡ o
  pub known : r ≡ Ok tt → goesOn

-- The words hold a table, and the entry's own check after the table's length has passed.
pub record Read (late : Answer ⊤) (w : List ℕ) : Type 0 where
  pub held : Held w
  pub passes : late ≡ answer tt

-- The same with both checks, and the form is in range.
pub record Formed (early late : Answer ⊤) (f : ℕ) (w : List ℕ) : Type 0 where
  pub held : Held w
  pub first : early ≡ answer tt
  pub passes : late ≡ answer tt
  pub form : f ≤ 1

-- The bound is too.
pub record Usable (early late : Answer ⊤) (b f : ℕ) (w : List ℕ) : Type 0 where
  pub held : Held w
  pub first : early ≡ answer tt
  pub passes : late ≡ answer tt
  pub low : 1 ≤ b
  pub high : b ≤ most_bound
  pub form : f ≤ 1
