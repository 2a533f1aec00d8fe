-- The ways out of a step: which holds follows from the cells.
use mathlib.Core.Path.{◌≡◌, sym, ap, ap₂, ◌∙◌}
use mathlib.Core.Logic.{◌≢◌}
use mathlib.Core.Bool.{Bool, true, false, ◌&&◌, cond}
use mathlib.Core.List.{List, ◌++◌, tail}
use Prim.Native.Nat.{ℕ, suc, ◌+◌, ◌-◌, ◌≤◌, ◌<◌}
use native.Mathlib.Numerals.{add-one}
use native.Mathlib.Omega.{arith}
use lib.Dec.{eqb}
use lib.ListN.{length, get_or}
use borrow.Author.Tests.{le-leb, lt-leb, eq-eqb, ne_eqb}
use Rattle.rules.specs.Limits.{most_bound}
use Rattle.rules.specs.Reasons.{not_emitted, not_applicable}
use Rattle.rules.specs.Facts.{holds, changed}
use Rattle.rules.specs.Progression.{on_top}
use Rattle.facts.specs.Sets.{set_of}
use Rattle.rows.specs.Sizes.{most_steps, most_row_cost}
use Rattle.rows.specs.Rows.{Row, Pushed}
use Rattle.rows.specs.Stacks.{stack_of}
use Rattle.run.specs.Steps.{Point, Moved, refused, step_row}
use Rattle.run.specs.Runs.{most_operators, point_of, Landed, ProgressOk}
use Rattle.run.specs.declared.Progress.{Progress}
use Rattle.rows.proofs.StackLaws.{stack_pop, stack_height}

module _ (r : Row) (pos : ℕ) (t : Progress) (cells : List ℕ) where
  abbrev here : Point
  here = point_of t cells

  pub row_low : pos < 1 → refused not_emitted here ≡ step_row r pos here
  unfolding step_row
  row_low l = rw (lt-leb 1 pos l)

  pub row_high : 1 ≤ pos → r.last < pos → refused not_emitted here ≡ step_row r pos here
  unfolding step_row
  row_high l g = rw (le-leb 1 pos l, lt-leb pos r.last g)

  module _ (l : 1 ≤ pos) (g : pos ≤ r.last) where
    pub row_other_height : pos ≢ t.height → refused not_applicable here ≡ step_row r pos here
    unfolding step_row
    row_other_height n = rw (le-leb 1 pos l, le-leb pos r.last g, stack_height cells t.height, ne_eqb pos t.height n)

    -- The new point, its stack still to be named.
    abbrev arrived : List ℕ → Moved
    arrived st =
        record {
          number = 0;
          point = record {
            facts = changed r.dels r.adds (set_of t.facts);
            stack = st;
            operators = t.operators + 1;
            steps = t.steps + r.steps;
            cost = t.cost + r.cost;
          };
        }

    module _ (e : pos ≡ t.height) where
      -- At its height a step is decided by the top cell and the needs.
      decided : step_row r pos here
          ≡ cond (eqb (get_or cells (t.height - 1) 0) r.task && holds r.needs (set_of t.facts)) (arrived (r.rest ++ stack_of cells (t.height - 1))) (refused not_applicable here)
      unfolding step_row
      decided =
          let p = stack_pop cells t.height (omega arith) in
          rw (le-leb 1 pos l, le-leb pos r.last g, stack_height cells t.height, eq-eqb pos t.height e, add-one)
          (ap₂ (λ (top : Bool) (st : List ℕ). cond (top && holds r.needs (set_of t.facts)) (record {
            number = 0;
            point = record {
              facts = changed r.dels r.adds (set_of t.facts);
              stack = r.rest ++ st;
              operators = suc t.operators;
              steps = t.steps + r.steps;
              cost = t.cost + r.cost;
            };
          }) (refused not_applicable here)) (ap (on_top r.task) p) (ap tail p))

      pub row_other_task : get_or cells (t.height - 1) 0 ≢ r.task → refused not_applicable here ≡ step_row r pos here
      row_other_task n = sym (decided ∙ rw (ne_eqb (get_or cells (t.height - 1) 0) r.task n))

      module _ (k : get_or cells (t.height - 1) 0 ≡ r.task) where
        pub row_needs : holds r.needs (set_of t.facts) ≡ false → refused not_applicable here ≡ step_row r pos here
        row_needs n = sym (decided ∙ rw (eq-eqb (get_or cells (t.height - 1) 0) r.task k, n))

        pub row_done : holds r.needs (set_of t.facts) ≡ true → arrived (r.rest ++ stack_of cells (t.height - 1)) ≡ step_row r pos here
        row_done n = sym (decided ∙ rw (eq-eqb (get_or cells (t.height - 1) 0) r.task k, n))

-- The new point, and that its numbers fit.
module _ {t : Progress} {below : ℕ} {row : Row} {r : Progress} (h : Landed t below row r) where
  pub landed_point : (old new : List ℕ) → Pushed old below row.rest new
      → point_of r new
      ≡ record {
        facts = changed row.dels row.adds (set_of t.facts);
        stack = row.rest ++ stack_of old below;
        operators = t.operators + 1;
        steps = t.steps + row.steps;
        cost = t.cost + row.cost;
      }
  landed_point old new p =
      λ i. record {
        facts = h.facts i;
        stack = (ap (stack_of new) h.height ∙ p.stack) i;
        operators = h.operators i;
        steps = h.steps i;
        cost = h.cost i;
      }

  pub landed_ok : ProgressOk t → t.operators < most_operators → row.steps ≤ most_steps → row.cost ≤ most_row_cost → below + length row.rest ≤ most_bound → ProgressOk r
  landed_ok ok few s c g =
      record {
        height = omega (arith, h.height);
        operators = omega (arith, h.operators);
        steps = omega (arith, ok.steps, h.operators, h.steps);
        cost = omega (arith, ok.cost, h.operators, h.cost);
      }
