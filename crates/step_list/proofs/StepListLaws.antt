-- Writing a step list, row by row: what is written and what is left still give the whole.
use Prim.Native.Nat.{ℕ, suc, ◌+◌, ◌-◌, ◌*◌, ◌/◌, ◌%◌, ◌≤◌, ◌<◌}
use mathlib.Core.Path.{◌≡◌, refl, sym, ap, ap₂, ◌∙◌}
use mathlib.Core.List.{List, [], ◌∷◌, ◌++◌, map, map-append}
use native.Mathlib.Numerals.{add-one}
use native.Mathlib.Omega.{arith}
use borrow.Author.Tests.{lt-ltb, le-ltb}
use lib.ListN.{length, take, drop, get_or, length-append, length-map, drop_of_length-le}
use lib.Seq.{sets, take-suc, take_at, length-take-le, length-sets, drop-cons}
use Rattle.rules.specs.Limits.{method_words}
use Rattle.rules.specs.Tables.{Table, action_count, method_count, method}
use Rattle.rules.specs.Progression.{Step, act, prefix, stays}
use Rattle.rules.specs.Checks.{step_bytes}
use Rattle.laws.proofs.StepLaws.{bytes_length, bytes_append, sets_append}
use Rattle.laws.proofs.JoinedPrefix.{prefix_whole}
use Rattle.laws.proofs.CountLaws.{prefix_short}
use Rattle.words.specs.Words.{table_of, Held}
use Rattle.rows.specs.Rows.{Row, row_at, Prepared}
use Rattle.step_list.specs.RowSteps.{row_bytes, rows_steps, rows_bytes, IsRow, StepsHeld, MethodRow}

-- One subtask more of a method's row of actions.
pub one_more : (out mid new : List ℕ) (at j word : ℕ) (tasks : List ℕ) → j < length tasks
    → mid ≡ sets out at (step_bytes (map act (take j tasks))) → word ≡ get_or tasks j 0
    → new ≡ sets mid (at + 2 * j) ((word % 256) ∷ (word / 256) ∷ [])
    → new ≡ sets out at (step_bytes (map act (take (j + 1) tasks)))
unfolding step_bytes
one_more out mid new at j word tasks l m w n =
    let x : List Step = map act (take j tasks) in
    let y : List Step = act (get_or tasks j 0) ∷ [] in
    let size : length (step_bytes x) ≡ 2 * j =
    bytes_length x ∙ ap (λ (i : ℕ). 2 * i) (length-map (take j tasks) act ∙ length-take-le j tasks (omega arith))
    in
    let more : map act (take (j + 1) tasks) ≡ x ++ y =
    ap (λ (i : ℕ). map act (take i tasks)) (add-one j)
    ∙ ap (map act) (take-suc tasks j 0 l)
    ∙ map-append act (take j tasks) (get_or tasks j 0 ∷ [])
    in
    n
    ∙ ap₂ (λ (bs : List ℕ) (d : ℕ). sets bs (at + 2 * j) ((d % 256) ∷ (d / 256) ∷ [])) m w
    ∙ ap (λ (i : ℕ). sets (sets out at (step_bytes x)) (at + i) (step_bytes y)) (sym size)
    ∙ sets_append (step_bytes x) (step_bytes y) out at
    ∙ ap (sets out at) (sym (bytes_append x y) ∙ ap step_bytes (sym more))

-- The steps of one row: an action alone, or a method and its prefix.
module _ (f : ℕ) (t : Table) (i : ℕ) where
  pub action_bytes : i < action_count t → row_bytes f t i ≡ (i % 256) ∷ (i / 256) ∷ []
  unfolding step_bytes
  action_bytes l = rw (lt-ltb i (action_count t) l)

  pub method_bytes : action_count t ≤ i → (k p : ℕ) → k ≡ i - action_count t → length (prefix f t k) ≡ p
      → row_bytes f t i ≡ ((method_words + k) % 256) ∷ ((method_words + k) / 256) ∷ step_bytes (map act (take p (method t k).subs))
  unfolding step_bytes
  method_bytes l k p o e =
      rw (le-ltb i (action_count t) l, ← o)
      (ap (λ (ks : List ℕ). ((method_words + k) % 256) ∷ ((method_words + k) / 256) ∷ step_bytes (map act ks))
      (sym (take_at (prefix f t k) (stays f t k) p e) ∙ ap (take p) (prefix_whole f t k)))

-- Prepared rows serve the step list.
pub prepared_steps : {f : ℕ} {t : Table} {b : ℕ} {ops cells : List ℕ} → Prepared b f t ops cells → StepsHeld f t ops cells
prepared_steps r = record { fits = r.fits; steps = λ k l. ap (λ (row : Row). row.steps) (r.methods k l) }

-- What the row of a method says, and what its steps come to.
pub method_row : (f : ℕ) (w ops cells : List ℕ) (i k : ℕ) → Held w → StepsHeld f (table_of w) ops cells → IsRow (table_of w) i
    → action_count (table_of w) ≤ i → k ≡ i - action_count (table_of w) → MethodRow f (table_of w) ops cells i k
method_row f w ops cells i k h s l n o =
    let t = table_of w in
    let m : k < method_count t = omega arith in
    let its : action_count t + k ≡ i = omega arith in
    let e = bytes_length (map act (take (length (prefix f t k)) (method t k).subs)) in
    let d = length-map (take (length (prefix f t k)) (method t k).subs) act in
    let c = length-take-le (length (prefix f t k)) (method t k).subs (prefix_short f t k) in
    record {
      past = n;
      its = o;
      known = m;
      few_methods = h.valid.head.methods;
      within = record { in_words = omega (arith, s.fits.in_words, l); in_cells = omega (arith, s.fits.in_cells, l) };
      steps = ap (λ (j : ℕ). (row_at ops cells j).steps) (sym its) ∙ s.steps k m;
      short = prefix_short f t k;
      size = ap length (method_bytes f t i n k (length (prefix f t k)) o refl) ∙ omega (arith, e, d, c);
    }

-- A method's word and its prefix after it.
pub method_put : {f : ℕ} {t : Table} {ops cells : List ℕ} {i k : ℕ} → MethodRow f t ops cells i k → (p : ℕ) (out mid new : List ℕ) (at : ℕ) → length (prefix f t k) ≡ p
    → mid ≡ sets out at (((method_words + k) % 256) ∷ ((method_words + k) / 256) ∷ [])
    → new ≡ sets mid (at + 2) (step_bytes (map act (take p (method t k).subs)))
    → new ≡ sets out at (row_bytes f t i)
method_put {f} {t} {i = i} {k} h p out mid new at e m n =
    n
    ∙ ap (λ (bs : List ℕ). sets bs (at + 2) (step_bytes (map act (take p (method t k).subs)))) m
    ∙ sets_append (((method_words + k) % 256) ∷ ((method_words + k) / 256) ∷ []) (step_bytes (map act (take p (method t k).subs))) out at
    ∙ ap (sets out at) (sym (method_bytes f t i h.past k p h.its e))

-- From row n on: the bytes of the rows that are left, written from `end` on, have room and give the whole.
pub record Writing (f : ℕ) (t : Table) (rows whole : List ℕ) (n end : ℕ) (out : List ℕ) : Type 0 where
  pub room : end + length (rows_bytes f t (drop n rows)) ≤ length out
  pub rest : sets out end (rows_bytes f t (drop n rows)) ≡ whole

pub writing_begins : (f : ℕ) (t : Table) (rows out : List ℕ) → length (rows_bytes f t rows) ≤ length out → Writing f t rows (sets out 0 (rows_bytes f t rows)) 0 0 out
writing_begins f t rows out r = record { room = omega arith; rest = refl }

module _ {f : ℕ} {t : Table} {rows whole : List ℕ} {n end : ℕ} {out : List ℕ} (g : Writing f t rows whole n end out) where
  pub all_written : length rows ≤ n → out ≡ whole
  unfolding step_bytes
  all_written l = ap (λ (is : List ℕ). sets out end (rows_bytes f t is)) (sym (drop_of_length-le rows l)) ∙ g.rest

  module _ (l : n < length rows) {i : ℕ} (its : i ≡ get_or rows n 0) where
    abbrev bytes_here : List ℕ
    bytes_here = row_bytes f t i

    abbrev bytes_left : List ℕ
    bytes_left = rows_bytes f t (drop (suc n) rows)

    split : rows_bytes f t (drop n rows) ≡ bytes_here ++ bytes_left
    split =
        ap (rows_bytes f t) (drop-cons rows n 0 l)
        ∙ bytes_append _ (rows_steps f t (drop (suc n) rows))
        ∙ ap (λ (j : ℕ). row_bytes f t j ++ bytes_left) (sym its)

    split_length : length (rows_bytes f t (drop n rows)) ≡ length bytes_here + length bytes_left
    split_length = ap length split ∙ length-append bytes_here bytes_left

    pub row_room : end + length bytes_here ≤ length out
    row_room = omega (arith, g.room, split_length)

    pub row_written : {after : ℕ} {new : List ℕ} → after ≡ end + length bytes_here → new ≡ sets out end bytes_here → Writing f t rows whole (n + 1) after new
    row_written {after} {new} a e =
        rw (add-one n) (record {
          room = omega (arith, g.room, split_length, a, ap length e ∙ length-sets out end bytes_here);
          rest = ap₂ (λ (bs : List ℕ) (m : ℕ). sets bs m bytes_left) e a ∙ sets_append bytes_here bytes_left out end ∙ ap (sets out end) (sym split) ∙ g.rest;
        })
