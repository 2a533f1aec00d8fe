-- Links made from the last row to the first.
use Prim.Native.Nat.{ℕ, ◌+◌, ◌≤◌, ◌<◌}
use mathlib.Core.Path.{◌≡◌, sym, ap, subst, ◌∙◌}
use mathlib.Core.List.{List}
use native.Mathlib.Omega.{arith}
use native.Mathlib.Decide.{ℕ_discrete, dec_lt}
use borrow.Author.Tests.{ltb-true, lt-ltb, le-ltb}
use lib.Dec.{T, ltb}
use Rattle.std.specs.Prelude.{Some, is_some, true, false}
use Rattle.std.proofs.lemmas.Option.{cond_some}
use lib.ListN.{set, length-set}
use lib.Seq.{get_or-set_same, get_or-set_other}
use Rattle.rules.specs.Limits.{most_tasks}
use Rattle.rules.specs.Tables.{Table}
use Rattle.rules.specs.Operators.{task_of, positions}
use Rattle.laws.specs.Valid.{Valid}
use Rattle.laws.specs.Steps.{step_at}
use Rattle.laws.proofs.StepNumbers.{by_step}
use Rattle.rows.specs.Sizes.{most_rows}
use Rattle.rows.specs.Rows.{Row, row_of, row_at, Prepared}
use Rattle.links.specs.declared.Links.{Links}
use Rattle.links.specs.Links.{row_count, next_in, first_in, some_row, Sized, Leads, Linked, LinkedTo}

-- The row of a number, and whether there is one.
pub some_row_is : (n i : ℕ) → some_row n ≡ Some i → (n < most_rows) × (n ≡ i)
some_row_is n i e = let q = cond_some (ltb n most_rows) n i e in (ltb-true n most_rows q.0, q.1)

pub row_there : (n : ℕ) → is_some (some_row n) ≡ true → n < most_rows
row_there n e = go (dec_lt n most_rows)
  where
    go : Dec (n < most_rows) → n < most_rows
    go (yes l) = l
    go (no m) =
        let off : is_some (some_row n) ≡ false = rw (le-ltb n most_rows (omega arith)) in
        absurd (subst T (sym e ∙ off) tt)

pub row_missing : (n : ℕ) → is_some (some_row n) ≡ false → most_rows ≤ n
row_missing n e = go (dec_lt n most_rows)
  where
    go : Dec (n < most_rows) → most_rows ≤ n
    go (yes l) =
        let on : is_some (some_row n) ≡ true = rw (lt-ltb n most_rows l) in
        absurd (subst T (sym on ∙ e) tt)
    go (no m) = omega arith

-- A row's task is one of the table's, there is room for all rows, and row i is that of step i.
pub task_low : (t : Table) → Valid t → (i : ℕ) → i < row_count t → task_of t (step_at t i) < most_tasks
task_low t v i l =
    by_step t (λ _ x. task_of t x < most_tasks) i l
    (λ k h. omega (arith, v.head.actions))
    (λ k h. omega (arith, (v.method k h).high, v.head.tasks, v.head.actions))

pub few_rows : (t : Table) → Valid t → row_count t ≤ most_rows
few_rows t v = omega (arith, v.head.actions, v.head.methods)

pub row_is : {b f : ℕ} {t : Table} {ops cells : List ℕ} → Prepared b f t ops cells → (i : ℕ) → i < row_count t
    → row_at ops cells i ≡ row_of b f t (step_at t i)
row_is {b} {f} {t} {ops} {cells} p i l = by_step t (λ j x. row_at ops cells j ≡ row_of b f t x) i l p.actions p.methods

pub task_is : {b f : ℕ} {t : Table} {ops cells : List ℕ} → Prepared b f t ops cells → (i : ℕ) → i < row_count t
    → (row_at ops cells i).task ≡ task_of t (step_at t i)
task_is p i l = ap (λ (r : Row). r.task) (row_is p i l)

pub task_fits : {b f : ℕ} {t : Table} {ops cells : List ℕ} → Prepared b f t ops cells → Valid t → (i : ℕ) → i + 1 ≤ row_count t
    → (row_at ops cells i).task < most_tasks
task_fits {t = t} p v i l = omega (arith, task_is p i (omega arith), task_low t v i (omega arith))

pub last_is : {b f : ℕ} {t : Table} {ops cells : List ℕ} → Prepared b f t ops cells → (i : ℕ) → i < row_count t
    → (row_at ops cells i).last ≡ positions b f t (step_at t i)
last_is p i l = ap (λ (r : Row). r.last) (row_is p i l)

module _ (b f : ℕ) (t : Table) (v : Valid t) where
  pub none_linked : (links : Links) → Sized links → ((c : ℕ) → c < most_tasks → first_in links c ≡ most_rows)
      → (k : ℕ) → k ≡ row_count t → LinkedTo b f t links k
  none_linked links size all k e =
      record {
        within = omega arith;
        size = size;
        first = λ c l. subst (λ (n : ℕ). Leads b f t c k n) (sym (all c l)) (record {
          low = omega (arith, few_rows t v);
          high = omega arith;
          known = λ h. absurd (omega arith);
          skips = λ j a d g s. absurd (omega arith);
        });
        next = λ i a d p. absurd (omega arith);
      }

  pub all_linked : (links : Links) (k : ℕ) → k ≤ 0 → LinkedTo b f t links k → Linked b f t links
  all_linked links k z q =
      let e : k ≡ 0 = omega arith in
      record {
        size = q.size;
        first = λ c l. subst (λ (n : ℕ). Leads b f t c n (first_in links c)) e (q.first c l);
        next = λ i l p. q.next i (omega arith) l p;
      }

  -- What leads from the row after i leads from i, where row i is of another task or exists nowhere.
  leads_from : (c i n : ℕ) → (task_of t (step_at t i) ≡ c → positions b f t (step_at t i) ≡ 0) → Leads b f t c (i + 1) n → Leads b f t c i n
  leads_from c i n skip p =
      record {
        low = omega (arith, p.low);
        high = p.high;
        known = p.known;
        skips = λ j a d g s. by j a d g s (ℕ_discrete j i);
      }
    where
      by : (j : ℕ) → i ≤ j → j < row_count t → j < n → task_of t (step_at t j) ≡ c → Dec (j ≡ i) → positions b f t (step_at t j) ≡ 0
      by j a d g s (yes z) =
          ap (λ (m : ℕ). positions b f t (step_at t m)) z ∙ skip (ap (λ (m : ℕ). task_of t (step_at t m)) (sym z) ∙ s)
      by j a d g s (no m) = p.skips j (omega arith) d g s

  pub left_out : (links : Links) (i : ℕ) → LinkedTo b f t links (i + 1) → positions b f t (step_at t i) ≡ 0 → LinkedTo b f t links i
  left_out links i q gone =
      record {
        within = omega (arith, q.within);
        size = q.size;
        first = λ c l. leads_from c i (first_in links c) (λ s. gone) (q.first c l);
        next = λ j a d p. by j a d p (ℕ_discrete j i);
      }
    where
      by : (j : ℕ) → i ≤ j → j < row_count t → 1 ≤ positions b f t (step_at t j) → Dec (j ≡ i)
          → Leads b f t (task_of t (step_at t j)) (j + 1) (next_in links j)
      by j a d p (yes z) = let e = ap (λ (m : ℕ). positions b f t (step_at t m)) z in absurd (omega (arith, e, gone, p))
      by j a d p (no m) = q.next j (omega arith) d p

  module _ (links : Links) (i task : ℕ) (q : LinkedTo b f t links (i + 1)) (e : task ≡ task_of t (step_at t i))
      (there : 1 ≤ positions b f t (step_at t i)) where
    row_low : i < row_count t
    row_low = omega (arith, q.within)

    task_small : task < most_tasks
    task_small = omega (arith, task_low t v i row_low)

    abbrev after : Links
    after = record { next = set links.next i (first_in links task); first = set links.first task i }

    at_task : first_in after task ≡ i
    at_task = get_or-set_same links.first task i 0 (omega (arith, q.size.first, task_small))

    at_row : next_in after i ≡ first_in links task
    at_row = get_or-set_same links.next i (first_in links task) 0 (omega (arith, q.size.next, row_low, few_rows t v))

    new_first : (c : ℕ) → c < most_tasks → Leads b f t c i (first_in after c)
    new_first c l = go (ℕ_discrete c task)
      where
        go : Dec (c ≡ task) → Leads b f t c i (first_in after c)
        go (yes z) =
            let w : first_in after c ≡ i = ap (first_in after) z ∙ at_task in
            subst (λ (n : ℕ). Leads b f t c i n) (sym w)
            (record {
              low = omega arith;
              high = omega (arith, row_low, few_rows t v);
              known = λ h. (row_low, sym e ∙ sym z, there);
              skips = λ j a d g s. absurd (omega arith);
            })
        go (no n) =
            let w : first_in after c ≡ first_in links c = get_or-set_other links.first task c i 0 n in
            subst (λ (n : ℕ). Leads b f t c i n) (sym w) (leads_from c i (first_in links c) (λ s. absurd (n (sym s ∙ sym e))) (q.first c l))

    new_next : (j : ℕ) → i ≤ j → j < row_count t → 1 ≤ positions b f t (step_at t j) → Leads b f t (task_of t (step_at t j)) (j + 1) (next_in after j)
    new_next j a d p = go (ℕ_discrete j i)
      where
        go : Dec (j ≡ i) → Leads b f t (task_of t (step_at t j)) (j + 1) (next_in after j)
        go (yes z) =
            let w : next_in after j ≡ first_in links task = ap (next_in after) z ∙ at_row in
            let s : task ≡ task_of t (step_at t j) = e ∙ ap (λ (n : ℕ). task_of t (step_at t n)) (sym z) in
            let k : i + 1 ≡ j + 1 = omega arith in
            subst (λ (n : ℕ). Leads b f t (task_of t (step_at t j)) (j + 1) n) (sym w)
            (subst (λ (n : ℕ). Leads b f t (task_of t (step_at t j)) n (first_in links task)) k
            (subst (λ (c : ℕ). Leads b f t c (i + 1) (first_in links task)) s (q.first task task_small)))
        go (no n) =
            let w : next_in after j ≡ next_in links j = get_or-set_other links.next i j (first_in links task) 0 n in
            subst (λ (m : ℕ). Leads b f t (task_of t (step_at t j)) (j + 1) m) (sym w) (q.next j (omega arith) d p)

    pub one_linked : LinkedTo b f t after i
    one_linked =
        record {
          within = omega (arith, q.within);
          size = record {
            next = length-set links.next i (first_in links task) ∙ q.size.next;
            first = length-set links.first task i ∙ q.size.first;
          };
          first = new_first;
          next = new_next;
        }
