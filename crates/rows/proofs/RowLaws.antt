-- Rows that are stored one after the other, and what a step asks of each.
use mathlib.Core.Path.{◌≡◌, refl, sym, ap, subst, ◌∙◌}
use mathlib.Core.Bool.{Bool, true, false, cond}
use mathlib.Core.List.{List, ◌∷◌, map}
use Prim.Native.Nat.{ℕ, suc, ◌+◌, ◌-◌, ◌*◌, ◌≤◌, ◌<◌}
use native.Mathlib.Decide.{dec_le}
use native.Mathlib.Omega.{arith}
use lib.ListN.{length, get_or, take, drop}
use Rattle.rules.specs.Limits.{most_bound, most_subtasks}
use Rattle.rules.specs.Tables.{Action, Table, action_count, method_count, action, method}
use Rattle.rules.specs.Facts.{Join, no_join, join_one, join_from, join_of}
use Rattle.rules.specs.Progression.{act, mth, prefix, stays, total_cost}
use Rattle.rules.specs.Operators.{positions, highest, joined, leaves}
use Rattle.laws.specs.Valid.{Valid}
use Rattle.laws.proofs.StoreLaws.{below, kept_less}
use Rattle.laws.proofs.CountLaws.{highest_low, action_positions, method_positions}
use Rattle.rows.specs.Sizes.{row_words, row_cells}
use Rattle.rows.specs.Stacks.{stack_of}
use Rattle.rows.specs.Rows.{Row, row_of, row_at, Prepared, RowOk}
use Rattle.laws.specs.Steps.{step_at}
use Rattle.rows.specs.Stores.{PreparedTo, Stored, SetsStored, Ended, RestStored}
use Rattle.laws.proofs.StepNumbers.{by_step}
use Rattle.laws.proofs.StepSizes.{stay_length, leaves_few, company_few, cost_low, height_low}
use Rattle.rows.proofs.StackLaws.{stack_height, stack_kept}

-- The words of a row.
abbrev sets_of : Row → Action
sets_of x = record { needs = x.needs; adds = x.adds; dels = x.dels; cost = x.cost }

abbrev joined_sets : Join → ℕ → Action
joined_sets j n = record { needs = j.needs; adds = j.adds; dels = j.dels; cost = n }

ended_as : {c x x' r r' n n' top top' : ℕ} {cells cells' : List ℕ} → x ≡ x' → r ≡ r' → n ≡ n' → top ≡ top' → Ended c x r n top cells cells' → Ended c x' r' n' top' cells cells'
ended_as p q u v e = record { kept = e.kept; task = e.task ∙ p; left = e.left ∙ q; steps = e.steps ∙ u; last = e.last ∙ v }

-- A row from its words, the tasks that it leaves and its last cells.
stored : (i : ℕ) (x : Row) (j : Join) (n : ℕ) (words words' cells cells₁ cells' : List ℕ)
    → SetsStored i j n words words'
    → joined_sets j n ≡ sets_of x
    → length x.rest ≤ most_subtasks
    → RestStored (row_cells * i) x.rest cells cells₁
    → Ended (row_cells * i) x.task (length x.rest) x.steps x.last cells₁ cells'
    → Stored i x words cells words' cells'
stored i x j n words words' cells cells₁ cells' p q s l e =
    let a = p.sets ∙ q in
    let rest : stack_of (drop (12 * i) cells') (get_or cells' (12 * i + 9) 0) ≡ x.rest =
    ap (stack_of (drop (12 * i) cells')) e.left
    ∙ stack_kept cells₁ cells' (12 * i) (length x.rest) (kept_less cells₁ cells' (12 * i + length x.rest) (12 * i + 8) (omega arith) e.kept)
    ∙ l.stack in
    record {
      row = λ j. record { needs = (a j).needs; adds = (a j).adds; dels = (a j).dels; cost = (a j).cost; task = e.task j; steps = e.steps j; last = e.last j; rest = rest j };
      words_kept = p.kept;
      cells_kept = kept_less cells₁ cells' (12 * i) (12 * i + 8) (omega arith) e.kept ∙ l.kept;
    }

-- The row of an action: nothing is left.
pub action_stored : (b f : ℕ) (t : Table) (k i : ℕ) (words words' cells cells' : List ℕ) (j : Join) (n : ℕ)
    → k < action_count t
    → j ≡ join_one no_join (action t k)
    → n ≡ (action t k).cost
    → SetsStored i j n words words'
    → Ended (row_cells * i) k 0 1 b cells cells'
    → Stored i (row_of b f t (act k)) words cells words' cells'
unfolding joined join_of join_from stack_of
action_stored b f t k i words words' cells cells' j n l q u p x =
    let m : n ≡ (action t k).cost + 0 = omega arith in
    stored i (row_of b f t (act k)) j n words words' cells cells cells' p (λ i. joined_sets (q i) (m i)) (omega arith) (record { kept = refl; stack = refl })
    (ended_as refl refl refl (sym (action_positions b f t k l)) x)

-- The row of a method: p of its subtasks are taken with it.
pub method_stored : (b f : ℕ) (t : Table) (k i : ℕ) (words words' cells cells₁ cells' : List ℕ) (j : Join) (n p x r m top : ℕ)
    → Valid t
    → k < method_count t
    → j ≡ joined f t (mth k)
    → n ≡ total_cost t (map act (prefix f t k))
    → p ≡ length (prefix f t k)
    → x ≡ (method t k).head
    → r ≡ length (method t k).subs - p
    → m ≡ p + 1
    → top ≡ cond j.dead 0 (highest b r)
    → SetsStored i j n words words'
    → RestStored (row_cells * i) (drop p (method t k).subs) cells cells₁
    → Ended (row_cells * i) x r m top cells₁ cells'
    → Stored i (row_of b f t (mth k)) words cells words' cells'
method_stored b f t k i words words' cells cells₁ cells' j n p x r m top v l ej en ep ex er em et w left x' =
    let d = stay_length f t k in
    let r' : r ≡ length (stays f t k) = er ∙ ap (λ (q : ℕ). length (method t k).subs - q) ep ∙ sym d in
    let m' : m ≡ suc (length (prefix f t k)) = omega arith in
    let n' : n ≡ total_cost t (mth k ∷ map act (prefix f t k)) = omega (arith, en) in
    let t' : top ≡ positions b f t (mth k) =
    et ∙ (λ i. cond (ej i).dead 0 (highest b ((r' ∙ d) i))) ∙ sym (method_positions b f t k l) in
    stored i (row_of b f t (mth k)) j n words words' cells cells₁ cells' w (λ i. joined_sets (ej i) (n' i))
    (omega (arith, d, (v.method k l).count))
    (subst (λ (q : ℕ). RestStored (row_cells * i) (drop q (method t k).subs) cells cells₁) ep left)
    (ended_as ex r' m' t' x')

pub last_low : (d : Bool) (b r : ℕ) → cond d 0 (highest b r) ≤ b
last_low true b r = omega arith
last_low false b r = highest_low b r

-- Rows below those that are stored.
row_kept : (words cells words' cells' : List ℕ) (i j : ℕ) → j < i → take (row_words * i) words' ≡ take (row_words * i) words → take (row_cells * i) cells' ≡ take (row_cells * i) cells
    → get_or cells (12 * j + 9) 0 ≤ 8 → row_at words' cells' j ≡ row_at words cells j
row_kept words cells words' cells' i j l p q s =
    let w : (n : ℕ) → n < 4 * i → get_or words' n 0 ≡ get_or words n 0 = below words words' (4 * i) p in
    let c : (n : ℕ) → n < 12 * i → get_or cells' n 0 ≡ get_or cells n 0 = below cells cells' (12 * i) q in
    let n : ℕ = get_or cells (12 * j + 9) 0 in
    let rest : stack_of (drop (12 * j) cells') (get_or cells' (12 * j + 9) 0) ≡ stack_of (drop (12 * j) cells) n =
    ap (stack_of (drop (12 * j) cells')) (c (12 * j + 9) (omega arith))
    ∙ stack_kept cells cells' (12 * j) n (kept_less cells cells' (12 * j + n) (12 * i) (omega arith) q) in
    λ k. record {
      needs = w (4 * j) (omega arith) k;
      adds = w (4 * j + 1) (omega arith) k;
      dels = w (4 * j + 2) (omega arith) k;
      cost = w (4 * j + 3) (omega arith) k;
      task = c (12 * j + 8) (omega arith) k;
      steps = c (12 * j + 10) (omega arith) k;
      last = c (12 * j + 11) (omega arith) k;
      rest = rest k;
    }

-- ---- rows by their numbers

-- How many tasks a row leaves, by its cell.
left_is : (words cells : List ℕ) (i : ℕ) (x : Row) → row_at words cells i ≡ x → get_or cells (12 * i + 9) 0 ≡ length x.rest
left_is words cells i x e = sym (stack_height (drop (12 * i) cells) (get_or cells (12 * i + 9) 0)) ∙ ap (λ (y : Row). length y.rest) e

-- One row more.
pub prepared_more : (b f : ℕ) (t : Table) (i : ℕ) (words cells words' cells' : List ℕ) → Valid t → i < action_count t + method_count t
    → PreparedTo b f t i words cells → Stored i (row_of b f t (step_at t i)) words cells words' cells' → PreparedTo b f t (i + 1) words' cells'
prepared_more b f t i words cells words' cells' v l p s j m = go (dec_le i j)
  where
    go : Dec (i ≤ j) → row_at words' cells' j ≡ row_of b f t (step_at t j)
    go (yes h) = let e : i ≡ j = omega arith in subst (λ (n : ℕ). row_at words' cells' n ≡ row_of b f t (step_at t n)) e s.row
    go (no h) =
        let q = p j (omega arith) in
        let n = left_is words cells j (row_of b f t (step_at t j)) q in
        row_kept words cells words' cells' i j (omega arith) s.words_kept s.cells_kept (omega (arith, n, leaves_few f t v j (omega arith))) ∙ q

-- ---- what a step asks of a row

pub row_ok : {f : ℕ} {t : Table} {b : ℕ} {ops cells : List ℕ} → Valid t → b ≤ most_bound → Prepared b f t ops cells
    → (i : ℕ) → i < action_count t + method_count t → RowOk ops cells i
row_ok {f} {t} {b} {ops} {cells} v h p i l =
    let e = by_step t (λ n x. row_at ops cells n ≡ row_of b f t x) i l p.actions p.methods in
    let rest : length (row_at ops cells i).rest ≡ length (leaves f t (step_at t i)) = ap (λ (x : Row). length x.rest) e in
    record {
      held = record {
        fits = record { in_words = omega (arith, p.fits.in_words); in_cells = omega (arith, p.fits.in_cells) };
        few = omega (arith, rest, leaves_few f t v i l);
      };
      height = omega (arith, rest, ap (λ (x : Row). x.last) e, height_low f t v i l b h);
      steps = omega (arith, ap (λ (x : Row). x.steps) e, company_few f t v i l);
      cost = omega (arith, ap (λ (x : Row). x.cost) e, cost_low f t v i l);
    }
