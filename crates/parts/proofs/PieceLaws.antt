-- What the pieces come to, and what a part of them says.
use Prim.Native.Nat.{ℕ, zero, suc, ◌+◌, ◌-◌, ◌≤◌, ◌<◌}
use mathlib.Core.Path.{◌≡◌, sym, ap, ap₂, ◌∙◌}
use mathlib.Core.List.{List, ◌++◌, append_assoc, append-nil}
use native.Mathlib.Omega.{arith}
use borrow.Author.Tests.{lt-ltb, le-ltb}
use lib.ListN.{take}
use Rattle.basics.specs.Lists.{upto}
use Rattle.basics.specs.Texts.{bytes}
use Rattle.rules.specs.Tables.{Table}
use Rattle.rules.specs.Sections.{problem_text}
use Rattle.laws.specs.Steps.{step_text, front_text}
use Rattle.laws.proofs.TextLaws.{upto_more, upto_same}
use Rattle.laws.proofs.SectionLaws.{whole_text}
use Rattle.text.specs.Appends.{Appends}
use Rattle.text.proofs.AppendLaws.{appends_is}
use Rattle.parts.specs.Pieces.{step_count, problem_piece}

-- A part of one piece more.
pub part_more : (f : ℕ → List ℕ) (from next size r : ℕ) (old new : List ℕ) → upto f next ≡ upto f from ++ take size old
    → Appends old size (f next) new r
    → upto f (next + 1) ≡ upto f from ++ take r new
part_more f from next size r old new e w =
    upto_more f next
    ∙ ap (λ (x : List ℕ). x ++ f next) e
    ∙ append_assoc (upto f from) (take size old) (f next)
    ∙ ap (λ (x : List ℕ). upto f from ++ x) (sym w.text)

-- A part of one piece.
pub one_piece : (f : ℕ → List ℕ) {old new : List ℕ} (next size : ℕ) → Appends old 0 (f next) new size → upto f (next + 1) ≡ upto f next ++ take size new
one_piece f next size w = upto_more f next ∙ ap (λ (x : List ℕ). upto f next ++ x) (sym w.text)

-- The first piece, apart from the others.
upto_first : (f : ℕ → List ℕ) (n : ℕ) → upto f (suc n) ≡ f 0 ++ upto (λ i. f (suc i)) n
unfolding upto
upto_first f zero = sym (append-nil (f 0))
upto_first f (suc n) = ap (λ (x : List ℕ). x ++ f (suc n)) (upto_first f n) ∙ append_assoc (f 0) (upto (λ i. f (suc i)) n) (f (suc n))

module _ (b f : ℕ) (t : Table) where
  -- The piece of a step, and the last piece.
  pub step_piece : (i : ℕ) → i < step_count t → problem_piece b f t (suc i) ≡ step_text b f t i
  step_piece i h = rw (lt-ltb i (step_count t) h)

  pub piece_of_step : (n : ℕ) → 1 ≤ n → n ≤ step_count t → problem_piece b f t n ≡ step_text b f t (n - 1)
  piece_of_step n l h =
      let e : n ≡ suc (n - 1) = omega arith in ap (problem_piece b f t) e ∙ step_piece (n - 1) (omega arith)

  pub last_piece : problem_piece b f t (suc (step_count t)) ≡ bytes "0\n"
  last_piece = rw (le-ltb (step_count t) (step_count t) (omega arith))

  -- All of them are the whole problem.
  pub problem_pieces : problem_text b f t ≡ upto (problem_piece b f t) (step_count t + 2)
  unfolding upto
  problem_pieces =
      let n = step_count t in
      let piece = problem_piece b f t in
      let e : suc (suc n) ≡ n + 2 = omega arith in
      whole_text b f t
      ∙ ap₂ (λ (x y : List ℕ). (front_text b f t ++ x) ++ y)
      (upto_same (step_text b f t) (λ i. piece (suc i)) n (λ i h. sym (step_piece i h)))
      (sym last_piece)
      ∙ ap (λ (x : List ℕ). x ++ piece (suc n)) (sym (upto_first piece n))
      ∙ ap (upto piece) e

  module _ {old new : List ℕ} (next size : ℕ) where
    -- The first part, and the last.
    pub first_part : next ≡ 0 → Appends old 0 (front_text b f t) new size → upto (problem_piece b f t) 1 ≡ upto (problem_piece b f t) next ++ take size new
    first_part e w = one_piece (problem_piece b f t) 0 size w ∙ ap (λ (k : ℕ). upto (problem_piece b f t) k ++ take size new) (sym e)

    pub last_part : next ≡ suc (step_count t) → Appends old 0 (bytes "0\n") new size
        → upto (problem_piece b f t) (step_count t + 2) ≡ upto (problem_piece b f t) next ++ take size new
    last_part e w =
        let n : step_count t + 2 ≡ next + 1 = omega arith in
        let x : Appends old 0 (problem_piece b f t next) new size = appends_is (ap (problem_piece b f t) e ∙ last_piece) w in
        ap (upto (problem_piece b f t)) n ∙ one_piece (problem_piece b f t) next size x
