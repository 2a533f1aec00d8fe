-- The emitted problem is in order: every number is one of a variable or of a value that is there, lines rise by variable, and no
-- variable stands twice.
use Prim.Native.Nat.{ℕ, suc, ◌+◌, ◌-◌, ◌≤◌, ◌<◌}
use mathlib.Core.Path.{◌≡◌, refl, sym, ◌∙◌}
use mathlib.Core.Bool.{Bool, true, false, cond}
use mathlib.Core.List.{List, [], ◌∷◌}
use mathlib.Core.Option.{none, some}
use native.Mathlib.Omega.{arith}
use lib.ListN.{length}
use lib.Dec.{T, eqb, ltb}
use Rattle.rules.specs.Tables.{Table, fact_count, task_count, start_task, start_facts, goal_facts}
use Rattle.rules.specs.Facts.{Join, has, members_of}
use Rattle.rules.specs.Operators.{Operator, joined, task_of, leaves, emitted, operators_of}
use Rattle.rules.specs.Problems.{variable_count, no_task, fact_names, height_names, task_names, value_names, start_value, set, holding, goal_of, top_next, bottom_next, fact_effect, change, push, prevails, effects, oper_at, oper_of, problem_of}
use Rattle.version3.specs.Problems.{Variable, Setting, values_of, fixing}
use Rattle.version3.specs.Order.{Each, Rising, GoodSetting, Below, GoodEffect, GoodSettings, GoodOper, InOrder, RisingOper, RisingLines}
use Rattle.version3.proofs.OrderLaws.{each_append, each_map, each_of, rising_once, climb_append, climb_rising}
use Rattle.laws.specs.Valid.{Valid}
use Rattle.laws.proofs.ListLaws.{rows_length, rows_at}
use Rattle.translation.specs.Sizes.{SomePosition}
use Rattle.translation.proofs.Listing.{listed}
use Rattle.translation.proofs.Places.{There, there, task_low, leaf_low}
use Rattle.translation.proofs.ValueCounts.{names_many, heights_many, variables_of, values_are, values_counted}
use Rattle.translation.proofs.LineLaws.{each_member, climb_members, each_prevail, each_effect, prevail_rises, effects_rise, lines_once}

-- ---- lines rise by variable

goal_rises : (t : Table) → Rising (fixing (goal_of t))
goal_rises t =
    let num : Setting → ℕ = λ s. s.variable in
    let n = fact_count t in
    climb_rising num 0 (n + 1) (goal_of t)
    (climb_append num 0 n (n + 1) (holding (members_of n (goal_facts t))) (set n 0 ∷ [])
    (climb_members num (λ k. set k 0) (goal_facts t) (λ k. refl) n) (omega arith, omega arith))

operator_rises : (b f : ℕ) (t : Table) (o : Operator) → T (emitted b f t o) → RisingOper (oper_of f t o)
unfolding oper_of oper_at
operator_rises b f t o m =
    let l = (there b f t o m).low in
    record {
      prevail = prevail_rises (fact_count t) (no_task t) (joined f t o.what) (task_of t o.what) o.at (leaves f t o.what) l;
      effects = effects_rise (fact_count t) (no_task t) (joined f t o.what) (task_of t o.what) o.at (leaves f t o.what) l;
    }

pub problem_rises : (b f : ℕ) (t : Table) → RisingLines (problem_of b f t)
unfolding problem_of
problem_rises b f t =
    record {
      goal = goal_rises t;
      operators = each_map RisingOper (oper_of f t) (operators_of b f t)
          (each_of (λ o. RisingOper (oper_of f t o)) (operators_of b f t) (λ o m. operator_rises b f t o ((listed b f t o).0 m)));
    }

-- ---- every number is one of a variable or of a value that is there

module _ (b : ℕ) (t : Table) where
  abbrev F : ℕ
  F = fact_count t

  abbrev vs : List Variable
  vs = variables_of b t

  good_fact : (k : ℕ) → k < F → GoodSetting vs (set k 0)
  good_fact k l = record { variable = omega (arith, (values_counted b t).variables); value = omega (arith, (values_counted b t).fact k l) }

  good_top : (i : ℕ) → i ≤ b → GoodSetting vs (set F i)
  good_top i l = record { variable = omega (arith, (values_counted b t).variables); value = omega (arith, (values_counted b t).top) }

  pub good_goal : GoodSettings vs (goal_of t)
  good_goal =
      record {
        each =
            each_append (GoodSetting vs) (holding (members_of F (goal_facts t))) (set F 0 ∷ [])
            (each_member (GoodSetting vs) (λ k. set k 0) (goal_facts t) F (λ k l m. good_fact k l)) (good_top 0 (omega arith), tt);
        once = rising_once (fixing (goal_of t)) (goal_rises t);
      }

  start_low : Valid t → 1 ≤ b → (k : ℕ) → start_value t k < length (value_names b t k)
  start_low v low k = go (ltb k F) (eqb k F)
    where
      fact : (c : Bool) → cond c 0 1 < 2
      fact true = omega arith
      fact false = omega arith

      task : (c : Bool) → cond c (start_task t) (no_task t) < length (task_names t)
      task true = omega (arith, names_many t, v.head.start_high, v.head.abstracts)
      task false = omega (arith, names_many t)

      go : (c d : Bool) → cond c (cond (has (start_facts t) k) 0 1) (cond d 1 (cond (eqb k (F + 1)) (start_task t) (no_task t)))
          < length (cond c (fact_names k) (cond d (height_names b) (task_names t)))
      go true d = fact (has (start_facts t) k)
      go false true = omega (arith, heights_many b)
      go false false = task (eqb k (F + 1))

-- ---- an operator that is emitted

module _ (b f : ℕ) (t : Table) (v : Valid t) (o : Operator) (m : T (emitted b f t o)) where
  abbrev top : ℕ
  top = fact_count t

  abbrev all : List Variable
  all = variables_of b t

  abbrev h : There b f t o
  h = there b f t o m

  abbrev j : Join
  j = joined f t o.what

  abbrev i : ℕ
  i = o.at

  abbrev task : ℕ
  task = task_of t o.what

  abbrev rest : List ℕ
  rest = leaves f t o.what

  -- A position, and a task or none there.
  placed : (p x : ℕ) → 1 ≤ p → p ≤ b → x ≤ task_count t → GoodSetting all (set (top + p) x)
  placed p x l u q = record { variable = omega (arith, (values_counted b t).variables); value = omega (arith, (values_counted b t).position p l u) }

  good_prevail : Each (GoodSetting all) (prevails top (no_task t) j task i rest)
  good_prevail =
      each_prevail top (no_task t) j task i rest (GoodSetting all) (λ k l _. good_fact b t k l) (λ _. good_top b t i h.high)
      (λ _. placed i task h.low h.high (omega (arith, task_low f t v o.what h.known)))

  good_change : (w x y : ℕ) → GoodSetting all (set w x) → GoodSetting all (set w y) → GoodEffect all (change w x y)
  good_change w x y p q = record { variable = p.variable; before = p.value; after = q.value }

  good_altered : (k : ℕ) → k < top → GoodEffect all (fact_effect j.needs j.dels k)
  good_altered k l =
      record {
        variable = omega (arith, (values_counted b t).variables);
        before = asked (has j.needs k) ((values_counted b t).fact k l);
        after = omega (arith, two (has j.dels k), (values_counted b t).fact k l);
      }
    where
      asked : (c : Bool) → values_of all k ≡ 2 → Below (values_of all k) (cond c (some 0) none)
      asked true e = omega arith
      asked false e = tt

      two : (c : Bool) → cond c 1 0 < 2
      two true = omega arith
      two false = omega arith

  good_push : (k : ℕ) → k < length rest - 1 → GoodEffect all (push top i rest k)
  good_push k l =
      let e : top + (i + suc k) ≡ top + i + suc k = omega arith in
      let q = placed (i + suc k) _ (omega arith) (omega (arith, h.room)) (leaf_low f t v o.what h.known 0 (omega arith) (length rest - 2 - k)) in
      record { variable = omega (arith, q.variable); before = tt; after = rw e at q.value }

  good_effects : Each (GoodEffect all) (effects top (no_task t) j task i rest)
  good_effects =
      each_effect top (no_task t) j task i rest (GoodEffect all) (λ k l _. good_altered k l)
      (λ _. good_change top i (top_next i rest) (good_top b t i h.high) (good_top b t (top_next i rest) (omega (arith, h.room))))
      (λ _. good_change (top + i) task (bottom_next (no_task t) rest)
      (placed i task h.low h.high (omega (arith, task_low f t v o.what h.known)))
      (placed i (bottom_next (no_task t) rest) h.low h.high (leaf_low f t v o.what h.known (no_task t) (omega arith) (length rest - 1))))
      good_push

  pub good_operator : GoodOper all (oper_of f t o)
  unfolding oper_of oper_at
  good_operator =
      record {
        prevail = record {
          each = good_prevail;
          once = rising_once (fixing (prevails top (no_task t) j task i rest)) (prevail_rises top (no_task t) j task i rest h.low);
        };
        effects = good_effects;
        once = lines_once top (no_task t) j task i rest h.low;
      }

pub problem_in_order : (b f : ℕ) (t : Table) → Valid t → SomePosition b → InOrder (problem_of b f t)
unfolding problem_of
problem_in_order b f t v low =
    let n = variable_count b t in
    record {
      values = rows_length (start_value t) n ∙ sym (values_counted b t).variables;
      start = λ k l.
          let q : k < n = omega (arith, (values_counted b t).variables) in
          omega (arith, rows_at (start_value t) 0 n k q, values_are b t k q, start_low b t v low k);
      goal = good_goal b t;
      operators = each_map (GoodOper (variables_of b t)) (oper_of f t) (operators_of b f t)
          (each_of (λ o. GoodOper (variables_of b t) (oper_of f t o)) (operators_of b f t) (λ o m. good_operator b f t v o ((listed b f t o).0 m)));
    }
