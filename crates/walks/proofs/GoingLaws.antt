-- The walk on its way: the levels that it has to come back to, and what is left of it; one turn of the loop after the other.
use Prim.Native.Nat.{ℕ, zero, suc, ◌+◌, ◌-◌, ◌≤◌, ◌<◌}
use mathlib.Core.Path.{◌≡◌, refl, sym, ap, subst, ◌∙◌}
use mathlib.Core.Bool.{true, false, ◌&&◌}
use mathlib.Core.List.{List, [], ◌∷◌, ◌++◌, tail, map-append}
use mathlib.Core.Option.{none, some}
use native.Mathlib.Numerals.{add-one}
use native.Mathlib.Omega.{arith}
use native.Mathlib.Decide.{dec_le, ℕ_discrete}
use lib.ListN.{length, get_or, set, take, length-set}
use Rattle.std.specs.Prelude.{Option, Some, None, is_some}
use Rattle.std.proofs.lemmas.Grind.{take_at_read}
use Rattle.rules.specs.Limits.{most_bound, most_tasks, most_limit}
use Rattle.rules.specs.Tables.{Table, goal_facts}
use Rattle.rules.specs.Facts.{holds}
use Rattle.rules.specs.Progression.{State, height, is_empty, begin}
use Rattle.rules.specs.Operators.{Operator, task_of, leaves, positions}
use Rattle.rules.specs.Searches.{may, led, complete}
use Rattle.rules.specs.Walks.{here, Walked, nothing, walk}
use Rattle.laws.specs.Valid.{Valid}
use Rattle.laws.specs.Steps.{step_at}
use Rattle.laws.proofs.JoinedPrefix.{step_after}
use Rattle.facts.specs.Sets.{set_of}
use Rattle.rows.specs.Sizes.{most_rows, stack_cells}
use Rattle.rows.specs.Rows.{row_at, Prepared}
use Rattle.rows.specs.Stacks.{stack_of}
use Rattle.rows.proofs.StackLaws.{stack_height, stack_pop, stack_push}
use Rattle.trail.specs.declared.Mark.{Mark}
use Rattle.trail.specs.Trails.{trail_marks, unmarked, mark_at, operator_marked, marked, Marked}
use Rattle.links.specs.declared.Links.{Links}
use Rattle.links.specs.Links.{row_count, next_in, some_row, Leads, Linked}
use Rattle.links.proofs.LinkLaws.{some_row_is, row_missing, few_rows}
use Rattle.walks.specs.Levels.{Level, operator_of, operators_of, rest_of, ahead, all_of}
use Rattle.walks.proofs.PickLaws.{on_to, none_on_top, none_empty, from_none, from_off}
use Rattle.walks.proofs.RowLaws.{rest_all, rest_same, rest_none}
use Rattle.walks.proofs.LevelLaws.{level_back, level_counts, level_hit, level_down}
use Rattle.walks.proofs.TryLaws.{tried_off, tried_on}
use Rattle.spots.specs.declared.Spot.{Spot}
use Rattle.spots.specs.Spots.{state_at, state_in, mark_of, top_row, Begins, Tries, Returned}
use Rattle.spots.proofs.SpotLaws.{top_limit, top_empty, top_strange, top_first}

-- What stands under some tasks on a stack.
pub under : (xs st cells : List ℕ) (h : ℕ) → stack_of cells h ≡ xs ++ st → stack_of cells (length st) ≡ st
unfolding stack_of
under [] st cells h e =
    let z : h ≡ length st = sym (stack_height cells h) ∙ ap length e in
    ap (stack_of cells) (sym z) ∙ e
under (x ∷ xs) st cells zero e = let z : 0 ≡ suc (length (xs ++ st)) = ap length e in absurd (omega arith)
under (x ∷ xs) st cells (suc h) e = under xs st cells h (ap tail e)

-- A task put back on what stands there.
pub put_back : (cells st : List ℕ) (x h : ℕ) → 1 ≤ h → h ≤ length cells → stack_of cells (h - 1) ≡ st → stack_of (set cells (h - 1) x) h ≡ x ∷ st
put_back cells st x h l k e =
    let z : h ≡ h - 1 + 1 = omega arith in
    ap (stack_of (set cells (h - 1) x)) z ∙ stack_push cells (h - 1) x (omega arith) ∙ ap (λ (l : List ℕ). x ∷ l) e

-- Row k is the table's and exists, and its task is on top.
pub record OnTop (b f : ℕ) (t : Table) (s : State) (k : ℕ) : Type 0 where
  pub low : k < row_count t
  pub exists : 1 ≤ positions b f t (step_at t k)
  pub others : List ℕ
  pub stack : s.stack ≡ task_of t (step_at t k) ∷ others

-- Row k is to be tried in a state where `rest` operators more are allowed; most_rows is none.
pub record ToTry (b f : ℕ) (t : Table) (s : State) (rest k : ℕ) : Type 0 where
  pub high : k ≤ most_rows
  pub there : k < most_rows → OnTop b f t s k
  pub allowed : k < most_rows → 1 ≤ rest

-- Each level's operator leads to the next state.
abbrev pub Leading : ℕ → ℕ → Table → List Level → State → Type 0
Leading b f t [] s = Unit {0}
Leading b f t (v ∷ vs) s = (OnTop b f t v.state v.row) × (s ≡ led f t v.state (operator_of t v)) × (height v.state ≤ most_bound) × Leading b f t vs v.state

-- A level's mark.
pub record MarkOf (m : Mark) (v : Level) : Type 0 where
  pub row : m.row ≡ v.row
  pub position : m.position ≡ height v.state
  pub facts : set_of m.facts ≡ v.state.facts

-- The levels stand on the trail.
abbrev pub Stand : List Level → List Mark → Type 0
Stand [] trail = Unit {0}
Stand (v ∷ vs) trail = MarkOf (mark_at trail (length vs)) v × Stand vs trail

pub record Going (b f : ℕ) (t : Table) (limit budget : ℕ) (stack : List ℕ) (trail : List Mark) (at : Spot) (row : Option ℕ) (depth applied : ℕ) : Type 0 where
  pub levels : List Level
  pub number : ℕ
  pub numbered : row ≡ some_row number
  pub deep : length levels ≡ depth
  pub shallow : depth ≤ limit
  pub within : applied ≤ budget
  pub low : at.height ≤ most_bound
  pub cells : length stack ≡ stack_cells
  pub marks : length trail ≡ trail_marks
  pub try : ToTry b f t (state_in at stack) (limit - depth) number
  pub leads : Leading b f t levels (state_in at stack)
  pub stand : Stand levels trail
  pub left : walk b f t limit (begin t) ≡ ahead applied (all_of b f t (limit - depth) levels (rest_of b f t (limit - depth) (state_in at stack) number))

-- A level that there is to come back to stands at place i of the trail.
pub record Standing (t : Table) (m : Mark) : Type 0 where
  pub row : m.row < row_count t
  pub low : 1 ≤ m.position
  pub high : m.position ≤ most_bound

last_level : (vs : List Level) → 1 ≤ length vs → (v : Level) × (us : List Level) × (vs ≡ v ∷ us)
last_level [] l = absurd (omega arith)
last_level (v ∷ vs) l = (v, vs, refl)

-- The levels that stand are what the trail begins with.
marked_levels : (t : Table) (trail : List Mark) (vs : List Level) → length vs ≤ length trail → Stand vs trail
    → marked t (take (length vs) trail) ≡ operators_of t vs
marked_levels t trail [] l q = refl
marked_levels t trail (v ∷ vs) l q =
    let n = length vs in
    let m = mark_at trail n in
    let e = marked_levels t trail vs (omega arith) q.1 in
    let w : marked t (take (suc n) trail) ≡ marked t (take n trail ++ (m ∷ [])) =
    ap (λ (k : ℕ). marked t (take k trail)) (sym (add-one n)) ∙ ap (marked t) (take_at_read trail n unmarked (omega arith)).1
    in
    w ∙ map-append (operator_marked t) (take n trail) (m ∷ [])
    ∙ (λ i. e i ++ (record { what = step_at t (q.0.row i); at = q.0.position i } ∷ []))

-- One level more leaves those before it as they are.
module _ {old new : List Mark} {i : ℕ} {m : Mark} (q : Marked old i m new) where
  stand_kept : (vs : List Level) → length vs ≤ i → Stand vs old → Stand vs new
  stand_kept [] l h = tt
  stand_kept (v ∷ vs) l h = (subst (λ (x : Mark). MarkOf x v) (sym (q.kept (length vs) (omega arith))) h.0, stand_kept vs (omega arith) h.1)

  stand_more : (v : Level) (vs : List Level) → length vs ≡ i → MarkOf m v → Stand vs old → Stand (v ∷ vs) new
  stand_more v vs n k h = (subst (λ (x : Mark). MarkOf x v) (sym (ap (mark_at new) n ∙ q.here)) k, stand_kept vs (omega arith) h)

-- ---- which row is to be tried

module _ {b f : ℕ} {t : Table} (valid : Valid t) {links : Links} (linked : Linked b f t links) where
  no_row : (s : State) (rest k : ℕ) → k ≡ most_rows → ToTry b f t s rest k
  no_row s rest k e = record { high = omega arith; there = λ l. absurd (omega arith); allowed = λ l. absurd (omega arith) }

  lead_row : (s : State) (rest c k v : ℕ) (others : List ℕ) → s.stack ≡ c ∷ others → 1 ≤ rest → Leads b f t c k v → ToTry b f t s rest v
  lead_row s rest c k v others e l q =
      record {
        high = q.high;
        there = λ h. record { low = (q.known h).0; exists = (q.known h).2; others = others; stack = e ∙ ap (λ (x : ℕ). x ∷ others) (sym (q.known h).1) };
        allowed = λ h. l;
      }

  -- On from a row to the next of its task.
  module _ (s : State) (k : ℕ) (o : OnTop b f t s k) where
    next_leads : Leads b f t (task_of t (step_at t k)) (suc k) (next_in links k)
    next_leads = subst (λ (j : ℕ). Leads b f t (task_of t (step_at t k)) j (next_in links k)) (add-one k) (linked.next k o.low o.exists)

    next_try : (rest : ℕ) → 1 ≤ rest → ToTry b f t s rest (next_in links k)
    next_try rest l = lead_row s rest (task_of t (step_at t k)) (suc k) (next_in links k) o.others o.stack l next_leads

    next_rest : (rest : ℕ) → rest_of b f t rest s (suc k) ≡ rest_of b f t rest s (next_in links k)
    next_rest rest =
        rest_same b f t s rest (suc k) (next_in links k)
        (on_to b f t s (task_of t (step_at t k)) o.others o.stack (suc k) (next_in links k) (omega (arith, o.low)) next_leads)

  -- The first row in a state.
  record First (s : State) (r k : ℕ) : Type 0 where
    try : ToTry b f t s r k
    all : rest_of b f t r s 0 ≡ rest_of b f t r s k

  none_first : (s : State) (rest k : ℕ) → k ≡ most_rows → ((j : ℕ) → rest_of b f t rest s j ≡ nothing) → First s rest k
  none_first s rest k e h = record { try = no_row s rest k e; all = h 0 ∙ sym (h k) }

  first_row : (facts height rest : ℕ) (cells : List ℕ) → First (state_at facts cells height) rest (top_row links cells height rest)
  unfolding stack_of
  first_row facts height rest cells = by_rest (ℕ_discrete rest 0)
    where
      s : State
      s = state_at facts cells height

      top : ℕ
      top = get_or cells (height - 1) 0

      by_top : (rest ≡ 0 → ⊥) → (height ≡ 0 → ⊥) → Dec (most_tasks ≤ top) → First s rest (top_row links cells height rest)
      by_top n m (yes l) =
          none_first s rest (top_row links cells height rest) (sym (top_strange links cells height rest n m l))
          (λ j. rest_none b f t s rest j (none_on_top b f t s top (stack_of cells (height - 1)) (stack_pop cells height (omega (arith, m))) valid l j))
      by_top n m (no l) =
          let e = top_first links cells height rest n m (omega (arith, l)) in
          let q : Leads b f t top 0 (top_row links cells height rest) = subst (Leads b f t top 0) e (linked.first top (omega (arith, l))) in
          let st = stack_pop cells height (omega (arith, m)) in
          record {
            try = lead_row s rest top 0 (top_row links cells height rest) (stack_of cells (height - 1)) st (omega (arith, n)) q;
            all = rest_same b f t s rest 0 (top_row links cells height rest) (on_to b f t s top (stack_of cells (height - 1)) st 0 (top_row links cells height rest) (omega arith) q);
          }

      by_height : (rest ≡ 0 → ⊥) → Dec (height ≡ 0) → First s rest (top_row links cells height rest)
      by_height n (yes z) =
          none_first s rest (top_row links cells height rest) (sym (top_empty links cells height rest n z))
          (λ j. rest_none b f t s rest j (none_empty b f t s (ap (stack_of cells) z) j))
      by_height n (no m) = by_top n m (dec_le most_tasks top)

      by_rest : Dec (rest ≡ 0) → First s rest (top_row links cells height rest)
      by_rest (yes z) =
          none_first s rest (top_row links cells height rest) (sym (top_limit links cells height rest z))
          (λ j. ap (λ (r : ℕ). rest_of b f t r s j) z)
      by_rest (no n) = by_height n (ℕ_discrete height 0)

  -- ---- the loop

  none_ahead : (w : Walked) → w ≡ ahead 0 w
  none_ahead w = let e : w.count ≡ 0 + w.count = omega arith in λ i. record { plan = w.plan; count = e i }

  one_ahead : (n : ℕ) (w : Walked) → ahead n (ahead 1 w) ≡ ahead (n + 1) w
  one_ahead n w = let e : n + (1 + w.count) ≡ n + 1 + w.count = omega arith in λ i. record { plan = w.plan; count = e i }

  module _ {limit budget : ℕ} where
    pub going_begins : (at : Spot) (stack : List ℕ) (trail : List Mark) (row : Option ℕ) → Begins t stack at → row ≡ some_row (top_row links stack at.height limit)
        → length trail ≡ trail_marks
        → Going b f t limit budget stack trail at row 0 0
    going_begins at stack trail row g e k =
        let n = top_row links stack at.height limit in
        let q : First (state_in at stack) limit n = first_row (set_of at.facts) at.height limit stack in
        let z : limit ≡ limit - 0 = omega arith in
        record {
          levels = [];
          number = n;
          numbered = e;
          deep = refl;
          shallow = omega arith;
          within = omega arith;
          low = omega (arith, g.height);
          cells = g.cells;
          marks = k;
          try = subst (λ (r : ℕ). ToTry b f t (state_in at stack) r n) z q.try;
          leads = tt;
          stand = tt;
          left =
              ap (walk b f t limit) (sym g.state)
              ∙ rest_all b f t limit (state_in at stack) ∙ q.all
              ∙ ap (λ (r : ℕ). rest_of b f t r (state_in at stack) n) z
              ∙ none_ahead (rest_of b f t (limit - 0) (state_in at stack) n);
        }

    module _ {at : Spot} {stack : List ℕ} {trail : List Mark} {row : Option ℕ} {depth applied : ℕ} (g : Going b f t limit budget stack trail at row depth applied) where
      abbrev s : State
      s = state_in at stack

      -- No row is left here.
      module _ (end : row ≡ None) where
        nothing_left : rest_of b f t (limit - depth) s g.number ≡ nothing
        nothing_left =
            let l = row_missing g.number (ap is_some (sym g.numbered ∙ end)) in
            rest_none b f t s (limit - depth) g.number (from_none b f t s g.number (omega (arith, l, few_rows t valid)))

        -- Nor anywhere else.
        pub going_ends : depth ≡ 0 → (walk b f t limit (begin t) ≡ record { plan = none; count = applied }) × (applied ≤ budget)
        going_ends z = (
          g.left ∙ (λ i. ahead applied (all_of b f t (limit - depth) g.levels (nothing_left i))) ∙ none_above g.levels (g.deep ∙ z),
          g.within,
        )
          where
            none_above : (vs : List Level) → length vs ≡ 0
                → ahead applied (all_of b f t (limit - depth) vs nothing) ≡ record { plan = none; count = applied }
            none_above [] e = let n : applied + 0 ≡ applied = omega arith in λ i. record { plan = none; count = n i }
            none_above (v ∷ vs) e = absurd (omega arith)

        -- Back at the last level.
        module _ (v : Level) (vs : List Level) (e : g.levels ≡ v ∷ vs) where
          abbrev d : ℕ
          d = depth - 1

          count : length vs ≡ d
          count = let z : suc (length vs) ≡ depth = ap length (sym e) ∙ g.deep in omega arith

          leads : Leading b f t (v ∷ vs) s
          leads = subst (λ (l : List Level). Leading b f t l s) e g.leads

          stand : Stand (v ∷ vs) trail
          stand = subst (λ (l : List Level). Stand l trail) e g.stand

          abbrev mark : Mark
          mark = mark_at trail d

          marked_here : MarkOf mark v
          marked_here = subst (λ (n : ℕ). MarkOf (mark_at trail n) v) count stand.0

          others_under : stack_of stack (length leads.0.others) ≡ leads.0.others
          others_under =
              let x = step_at t v.row in
              under (leaves f t x) leads.0.others stack at.height
              (ap (λ (s : State). s.stack) (leads.1 ∙ step_after f t x v.state) ∙ ap (λ (st : List ℕ). leaves f t x ++ tail st) leads.0.stack)

          tall : height v.state ≡ suc (length leads.0.others)
          tall = ap length leads.0.stack

          asks : Standing t mark
          asks =
              record {
                row = omega (arith, marked_here.row, leads.0.low);
                low = omega (arith, marked_here.position, tall);
                high = omega (arith, marked_here.position, leads.2);
              }

          returned : (r : Spot) (new : List ℕ) (task : ℕ) (next : Option ℕ) → Returned mark task stack new r → task ≡ task_of t (step_at t mark.row)
              → next ≡ some_row (next_in links mark.row)
              → Going b f t limit budget new trail r next d applied
          returned r new task next q k on =
              let h = mark.position in
              let x : task ≡ task_of t (step_at t v.row) = k ∙ ap (λ (i : ℕ). task_of t (step_at t i)) marked_here.row in
              let n : h - 1 ≡ length leads.0.others = omega (arith, marked_here.position, tall) in
              let st : stack_of new r.height ≡ v.state.stack =
              (λ i. stack_of (q.stack i) (q.height i))
              ∙ put_back stack leads.0.others task h (omega (arith, asks.low)) (omega (arith, asks.high, g.cells)) (ap (stack_of stack) n ∙ others_under)
              ∙ ap (λ (c : ℕ). c ∷ leads.0.others) x ∙ sym leads.0.stack
              in
              let fa = ap set_of q.facts ∙ marked_here.facts in
              let same : state_in r new ≡ v.state = λ i. record { facts = fa i; stack = st i } in
              let later = next_in links v.row in
              let more : suc (limit - depth) ≡ limit - d = omega (arith, g.shallow, g.deep, ap length e) in
              record {
                levels = vs;
                number = later;
                numbered = on ∙ ap (λ (i : ℕ). some_row (next_in links i)) marked_here.row;
                deep = count;
                shallow = omega (arith, g.shallow);
                within = g.within;
                low = omega (arith, q.height, asks.high);
                cells = ap length q.stack ∙ length-set stack (h - 1) task ∙ g.cells;
                marks = g.marks;
                try =
                    subst (λ (z : State). ToTry b f t z (limit - d) later) (sym same) (next_try v.state v.row leads.0 (limit - d) (omega (arith, more)));
                leads = subst (λ (z : State). Leading b f t vs z) (sym same) leads.3;
                stand = stand.1;
                left =
                    g.left
                    ∙ (λ i. ahead applied (all_of b f t (limit - depth) (e i) (nothing_left i)))
                    ∙ ap (ahead applied)
                    (level_back b f t v vs (limit - depth)
                    ∙ ap (all_of b f t (suc (limit - depth)) vs) (next_rest v.state v.row leads.0 (suc (limit - depth)))
                    ∙ (λ i. all_of b f t (more i) vs (rest_of b f t (more i) (sym same i) later)));
              }

        module _ (some_level : 1 ≤ depth) where
          last : (v : Level) × (us : List Level) × (g.levels ≡ v ∷ us)
          last = last_level g.levels (omega (arith, g.deep))

          pub standing : Standing t (mark_at trail (depth - 1))
          standing = asks last.0 last.1 last.2

          pub going_back : (r : Spot) (new : List ℕ) (task : ℕ) (next : Option ℕ) → Returned (mark_at trail (depth - 1)) task stack new r
              → task ≡ task_of t (step_at t (mark_at trail (depth - 1)).row)
              → next ≡ some_row (next_in links (mark_at trail (depth - 1)).row)
              → Going b f t limit budget new trail r next (depth - 1) applied
          going_back = returned last.0 last.1 last.2

      -- A row is tried.
      module _ {index : ℕ} (some-row : row ≡ Some index) where
        known : (g.number < most_rows) × (g.number ≡ index)
        known = some_row_is g.number index (sym g.numbered ∙ some-row)

        top : OnTop b f t s index
        top = subst (OnTop b f t s) known.1 (g.try.there known.0)

        pub allowed : 1 ≤ limit - depth
        allowed = g.try.allowed known.0

        left_known : walk b f t limit (begin t) ≡ ahead applied (all_of b f t (limit - depth) g.levels (rest_of b f t (limit - depth) s index))
        left_known = g.left ∙ ap (λ (n : ℕ). ahead applied (all_of b f t (limit - depth) g.levels (rest_of b f t (limit - depth) s n))) known.1

        pub row_small : index < most_rows
        row_small = omega (arith, known.0, known.1)

        abbrev this : Operator
        this = here s (step_at t index)

        pub row_low : index < row_count t
        row_low = top.low

        pub some_high : 1 ≤ at.height
        some_high = omega (arith, stack_height stack at.height, ap length top.stack)

        pub task_there : get_or stack (at.height - 1) 0 ≡ task_of t (step_at t index)
        task_there = ap (λ (st : List ℕ). get_or st 0 0) (sym (stack_pop stack at.height some_high) ∙ top.stack)

        pub next_later : (index < next_in links index) × (next_in links index ≤ most_rows)
        next_later = let q = linked.next index top.low top.exists in (omega (arith, q.low), q.high)

        -- Whether the row's operator was applied tells whether it may be.
        module _ {ops cells new : List ℕ} (p : Prepared b f t ops cells) {q : Option Spot} (tries : Tries (row_at ops cells index) at stack new q) where
          pub row_off : q ≡ None → may b f t s this ≡ false
          row_off = tried_off p at index row_low stack new q some_high task_there tries

          pub row_on : (after : Spot) → q ≡ Some after → (may b f t s this ≡ true) × (state_in after new ≡ led f t s this)
          row_on = tried_on p at index row_low stack new q some_high task_there tries

        -- It may not be applied.
        pub going_past : (new : List ℕ) → length new ≡ stack_cells → state_in at new ≡ s → may b f t s this ≡ false → (next : Option ℕ)
            → next ≡ some_row (next_in links index)
            → Going b f t limit budget new trail at next depth applied
        going_past new size same off next e =
            record {
              levels = g.levels;
              number = next_in links index;
              numbered = e;
              deep = g.deep;
              shallow = g.shallow;
              within = g.within;
              low = g.low;
              cells = size;
              marks = g.marks;
              try = subst (λ (z : State). ToTry b f t z (limit - depth) (next_in links index)) (sym same) (next_try s index top (limit - depth) allowed);
              leads = subst (λ (z : State). Leading b f t g.levels z) (sym same) g.leads;
              stand = g.stand;
              left =
                  left_known
                  ∙ ap (λ (w : Walked). ahead applied (all_of b f t (limit - depth) g.levels w))
                  (rest_same b f t s (limit - depth) index (suc index) (from_off b f t s index top.low off)
                  ∙ next_rest s index top (limit - depth)
                  ∙ ap (λ (z : State). rest_of b f t (limit - depth) z (next_in links index)) (sym same));
            }

        -- It is applied.
        module _ (on : may b f t s this ≡ true) where
          abbrev r : ℕ
          r = limit - (depth + 1)

          one_more : limit - depth ≡ suc r
          one_more = omega (arith, allowed)

          left_here : walk b f t limit (begin t) ≡ ahead applied (all_of b f t (suc r) g.levels (rest_of b f t (suc r) s index))
          left_here = left_known ∙ (λ i. ahead applied (all_of b f t (one_more i) g.levels (rest_of b f t (one_more i) s index)))

          pub going_over : applied ≡ budget → budget < (walk b f t limit (begin t)).count
          going_over z =
              omega (arith, ap (λ (w : Walked). w.count) left_here, level_counts b f t g.levels r s index top.low on)

          module _ (few : limit ≤ most_limit) (more : applied ≡ budget → ⊥) (trail' : List Mark) (new : List ℕ) (after : Spot)
              (marks : Marked trail depth (mark_of index at) trail')
              (led-to : state_in after new ≡ led f t s this) where
            abbrev v : Level
            v = record { state = s; row = index }

            stands : Stand (v ∷ g.levels) trail'
            stands = stand_more marks v g.levels g.deep (record { row = refl; position = sym (stack_height stack at.height); facts = refl }) g.stand

            pub going_found : complete t (state_in after new) ≡ true
                → (walk b f t limit (begin t) ≡ record { plan = some (marked t (take (depth + 1) trail')); count = applied + 1 }) × (applied + 1 ≤ budget) × (depth + 1 ≤ most_limit)
            going_found c =
                let q = level_hit b f t g.levels r s index top.low on (ap (complete t) (sym led-to) ∙ c) in
                let n : suc (length g.levels) ≡ depth + 1 = omega (arith, g.deep) in
                let fits : suc (length g.levels) ≤ length trail' = omega (arith, marks.size, g.marks, n, allowed, few) in
                let plan : operators_of t (v ∷ g.levels) ≡ marked t (take (depth + 1) trail') =
                sym (marked_levels t trail' (v ∷ g.levels) fits stands) ∙ ap (λ (k : ℕ). marked t (take k trail')) n
                in (
                  left_here ∙ ap (ahead applied) q ∙ (λ i. record { plan = some (plan i); count = applied + 1 }),
                  omega (arith, g.within, more),
                  omega (arith, allowed),
                )

            -- There is a row to be tried below.
            pub going_down : (next : Option ℕ) → next ≡ some_row (top_row links new after.height r)
                → top_row links new after.height r < most_rows
                → length new ≡ stack_cells
                → after.height ≤ most_bound
                → Going b f t limit budget new trail' after next (depth + 1) (applied + 1)
            going_down next e some_below size low' =
                let n = top_row links new after.height r in
                let s' = state_in after new in
                let q : First s' r n = first_row (set_of after.facts) after.height r new in
                let c : complete t s' ≡ false = ap (λ (st : List ℕ). is_empty st && holds (goal_facts t) (set_of after.facts)) (q.try.there some_below).stack in
                record {
                  levels = v ∷ g.levels;
                  number = n;
                  numbered = e;
                  deep = omega (arith, g.deep);
                  shallow = omega (arith, allowed);
                  within = omega (arith, g.within, more);
                  low = low';
                  cells = size;
                  marks = marks.size ∙ g.marks;
                  try = q.try;
                  leads = (top, led-to, omega (arith, stack_height stack at.height, g.low), g.leads);
                  stand = stands;
                  left =
                      left_here
                      ∙ ap (ahead applied)
                      (level_down b f t g.levels r s index top.low on (ap (complete t) (sym led-to) ∙ c)
                      ∙ ap (λ (w : Walked). ahead 1 (all_of b f t r (v ∷ g.levels) w))
                      (ap (λ (z : State). rest_of b f t r z 0) (sym led-to) ∙ q.all))
                      ∙ one_ahead applied (all_of b f t r (v ∷ g.levels) (rest_of b f t r s' n));
                }

          -- Nothing can follow it: its task is put back.
          module _ (more : applied ≡ budget → ⊥) (new : List ℕ) (after : Spot) (led-to : state_in after new ≡ led f t s this) where
            others_left : stack_of new (length top.others) ≡ top.others
            others_left =
                let x = step_at t index in
                under (leaves f t x) top.others new after.height
                (ap (λ (z : State). z.stack) (led-to ∙ step_after f t x s) ∙ ap (λ (st : List ℕ). leaves f t x ++ tail st) top.stack)

            pub going_again : most_rows ≤ top_row links new after.height r → complete t (state_in after new) ≡ false → length new ≡ stack_cells → (back : List ℕ)
                → back ≡ set new (at.height - 1) (task_of t (step_at t index))
                → (next : Option ℕ)
                → next ≡ some_row (next_in links index)
                → Going b f t limit budget back trail at next depth (applied + 1)
            going_again none_below c size back put next e =
                let s' = state_in after new in
                let n = top_row links new after.height r in
                let x = task_of t (step_at t index) in
                let tall : at.height ≡ suc (length top.others) = sym (stack_height stack at.height) ∙ ap length top.stack in
                let under-it : stack_of new (at.height - 1) ≡ top.others = (let n : at.height - 1 ≡ length top.others = omega arith in ap (stack_of new) n ∙ others_left) in
                let st : stack_of back at.height ≡ s.stack =
                ap (λ (l : List ℕ). stack_of l at.height) put
                ∙ put_back new top.others x at.height (omega arith) (omega (arith, g.low)) under-it ∙ sym top.stack
                in
                let same : state_in at back ≡ s = λ i. record { facts = set_of at.facts; stack = st i } in
                let dead : rest_of b f t r s' 0 ≡ nothing =
                (first_row (set_of after.facts) after.height r new).all
                ∙ rest_none b f t s' r n (from_none b f t s' n (omega (arith, few_rows t valid)))
                in
                record {
                  levels = g.levels;
                  number = next_in links index;
                  numbered = e;
                  deep = g.deep;
                  shallow = g.shallow;
                  within = omega (arith, g.within, more);
                  low = g.low;
                  cells = ap length put ∙ length-set new (at.height - 1) x ∙ size;
                  marks = g.marks;
                  try =
                      subst (λ (z : State). ToTry b f t z (limit - depth) (next_in links index)) (sym same)
                      (next_try s index top (limit - depth) (allowed));
                  leads = subst (λ (z : State). Leading b f t g.levels z) (sym same) g.leads;
                  stand = g.stand;
                  left =
                      left_here
                      ∙ ap (ahead applied)
                      (level_down b f t g.levels r s index top.low on (ap (complete t) (sym led-to) ∙ c)
                      ∙ ap (ahead 1)
                      (ap (all_of b f t r (record { state = s; row = index } ∷ g.levels)) (ap (λ (z : State). rest_of b f t r z 0) (sym led-to) ∙ dead)
                      ∙ level_back b f t (record { state = s; row = index }) g.levels r
                      ∙ ap (all_of b f t (suc r) g.levels) (next_rest s index top (suc r))
                      ∙ (λ i. all_of b f t (sym one_more i) g.levels (rest_of b f t (sym one_more i) (sym same i) (next_in links index)))))
                      ∙ one_ahead applied (all_of b f t (limit - depth) g.levels (rest_of b f t (limit - depth) (state_in at back) (next_in links index)));
                }
