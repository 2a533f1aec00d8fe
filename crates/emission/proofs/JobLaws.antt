-- What a job writes, by what the opening of its table came to; and that its parts, one after the other, are all of it.
use Prim.Native.Nat.{ℕ}
use mathlib.Core.Path.{◌≡◌, refl, sym, ap, ◌∙◌}
use mathlib.Core.List.{List}
use lib.ListN.{drop}
use Rattle.basics.specs.Answers.{Answer, answer, refusal, after}
use Rattle.opening.specs.Openings.{opening_of, opened_after}
use Rattle.opening.proofs.OpeningLaws.{opened_by}
use Rattle.rules.specs.Refusals.{whole_problem}
use Rattle.basics.specs.Lists.{upto}
use Rattle.rules.specs.Tables.{Table}
use Rattle.rules.specs.Sections.{problem_text}
use Rattle.rules.specs.Programs.{bound_in, form_in, told, as_it_is, emit_input, emit_output}
use Rattle.words.specs.Words.{table_of}
use Rattle.report.specs.Parts.{Sent, Follow}
use Rattle.report.proofs.PartLaws.{sent, joined}
use Rattle.parts.specs.Pieces.{Ready}
use Rattle.parts.proofs.PieceLaws.{problem_pieces}
use Rattle.basics.specs.declared.Refusal.{Refusal}
use Rattle.std.specs.Prelude.{Result, Ok, Err, ⊤}
use Rattle.emission.specs.Jobs.{Job, piece_of, piece_count, Does}

-- What the input's answer is, by what the opening of its table said.
pub answered : (s w : List ℕ) (r : Result ⊤ Refusal)
    → opening_of r w ≡ opened_after (answer tt) (answer tt) (bound_in s) (form_in s) (drop 2 s)
    → emit_input s ≡ after (opening_of r w) (λ t. answer (problem_text (bound_in s) (form_in s) t))
unfolding emit_input whole_problem
answered s w r e =
    ap (λ (x : Answer Table). after x (λ t. answer (problem_text (bound_in s) (form_in s) t)))
    (sym (opened_by (drop 2 s) 0 refl 0 refl (bound_in s) (form_in s)) ∙ sym e)

-- What an input's job writes, by what the opening of its table came to.
module _ (s w figures : List ℕ) where
  pub refusal_does : (e : Refusal) → emit_input s ≡ refusal e.number e.place → Does (emit_output s) (Err e) w figures
  unfolding emit_output upto
  refusal_does e is = record { output = ap (told as_it_is) is; stands = tt }

  pub problem_does : (b f : ℕ) → emit_input s ≡ answer (problem_text b f (table_of w)) → Ready b w figures → Does (emit_output s) (Ok (record { bound = b; form = f })) w figures
  unfolding emit_output
  problem_does b f e h = record { output = ap (told as_it_is) e ∙ problem_pieces b f (table_of w); stands = h }

-- The parts that are sent, each as it is handed over, are what the program has to write.
pub sent_all : (s : List ℕ) (j : Job) (w figures : List ℕ) → Does (emit_output s) j w figures → (ps : List Sent)
    → Follow (piece_of j (table_of w)) (piece_count j (table_of w)) 0 ps
    → sent ps ≡ emit_output s
sent_all s j w figures d ps h = joined (piece_of j (table_of w)) (piece_count j (table_of w)) ps h ∙ sym d.output
