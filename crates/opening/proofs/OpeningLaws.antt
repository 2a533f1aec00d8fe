-- From the checks to an opening, and from an opening to the entry's own answer.
use Rattle.std.specs.Bool.{⊤}
use Rattle.std.proofs.Common.{Result, Ok, Err}
use mathlib.Core.Path.{◌≡◌, refl, ap, sym, ◌∙◌}
use mathlib.Core.Bool.{Bool, true, false}
use mathlib.Core.List.{List}
use Prim.Native.Nat.{ℕ}
use native.Mathlib.Omega.{arith}
use lib.Dec.{eqb}
use Rattle.basics.specs.declared.Refusal.{Refusal}
use Rattle.basics.specs.Answers.{Answer, answer, refusal, after, check}
use Rattle.rules.specs.Tables.{Table, decode}
use Rattle.rules.specs.Refusals.{bounded, formed, table_fits, read_of, passed, table_read, form_read, opened}
use Rattle.laws.proofs.AnswerLaws.{via}
use Rattle.words.specs.Words.{table_of}
use Rattle.opening.specs.Openings.{opening_of, Opens, read_after, formed_after, opened_after}

module _ {o : Answer Table} {K : Type 0} (w : List ℕ) where
  pub opening_refused : {e : Refusal} → o ≡ refusal e.number e.place → Opens o K (Err e) w
  opening_refused e = record { answers = sym e; known = λ p. let z : ◌≡◌ {A = ℕ} 0 1 = cc in absurd (omega arith) }

  pub opening_opened : o ≡ answer (table_of w) → K → Opens o K (Ok tt) w
  opening_opened e h = record { answers = sym e; known = λ _. h }

-- What an opening answered, as its call found it.
module _ {K : Type 0} {o : Answer Table} {r q : Result ⊤ Refusal} {w : List ℕ} (h : Opens o K r w) (p : r ≡ q) where
  answered : o ≡ opening_of q w
  answered = via (λ r. opening_of r w) h.answers p

  -- What comes after it: the entry's work on the table in the words, or the refusal.
  pub goes_on : {A : Type 0} (k : Table → Answer A) → after o k ≡ after (opening_of q w) k
  goes_on k = ap (λ (x : Answer Table). after x k) answered

-- A check of the entry's own that says what a number of the document says.
passed_after : {A : Type 0} (n : ℕ) (rest : Answer A) → after (passed n (answer (tt {0}))) (λ _. rest) ≡ passed n rest
passed_after {A} n rest = go (eqb n 0)
  where
    go : (c : Bool) → after (check c n 0 (answer (tt {0}))) (λ _. rest) ≡ check c n 0 rest
    go true = refl
    go false = refl

module _ (s : List ℕ) (late : ℕ) {l : Answer ⊤} (q : l ≡ passed late (answer (tt {0}))) where
  read_by : read_after l s ≡ table_read late s
  unfolding table_read
  read_by = ap (λ x. table_fits s (after x (λ _. read_of (decode s)))) q ∙ ap (table_fits s) (passed_after late (read_of (decode s)))

  module _ (early : ℕ) {e : Answer ⊤} (p : e ≡ passed early (answer (tt {0}))) where
    pub formed_by : (f : ℕ) → formed_after e l f s ≡ form_read early late f s
    unfolding form_read
    formed_by f =
        ap (λ x. formed f (after x (λ _. read_after l s))) p
        ∙ ap (formed f) (passed_after early (read_after l s) ∙ ap (passed early) read_by)

    pub opened_by : (b f : ℕ) → opened_after e l b f s ≡ opened early late b f s
    unfolding opened
    opened_by b f = ap (bounded b) (formed_by f)
