-- "No section is longer than 2,048 bytes."
use Prim.Native.Nat.{ℕ, suc, ◌+◌, ◌*◌, ◌≤◌, ◌<◌}
use mathlib.Core.Path.{◌≡◌}
use mathlib.Core.Bool.{Bool, true, false, cond}
use mathlib.Core.List.{List, [], ◌∷◌, ◌++◌, map}
use mathlib.Core.Option.{Option, none, some}
use native.Mathlib.Nat.{mul-suc, mul-le-mul_left}
use native.Mathlib.Omega.{arith}
use lib.Dec.{T, ltb, eqb}
use lib.ListN.{length, get_or, length-append, length-map}
use Rattle.basics.specs.Lists.{rows, concat}
use Rattle.basics.specs.Texts.{bytes, digits, ThreeDigits}
use Rattle.version3.specs.Problems.{Setting, Effect, Oper, values_of}
use Rattle.version3.specs.Spelling.{word_line, number_line, counted, preamble, spell_variable, spell_setting, spell_before, spell_effect, middle, spell_oper, spell}
use Rattle.version3.specs.Order.{Each, GoodSetting, Below, GoodEffect}
use Rattle.version3.proofs.OrderLaws.{each_append, each_rows, each_map, each_as, each_of, each_at}
use Rattle.rules.specs.Limits.{most_facts, most_tasks, most_subtasks, most_bound}
use Rattle.rules.specs.Tables.{Table, fact_count, task_count, start_facts, goal_facts}
use Rattle.rules.specs.Facts.{has, members_of}
use Rattle.rules.specs.Progression.{Step, act, mth}
use Rattle.rules.specs.Operators.{Operator, emitted, operators_of}
use Rattle.rules.specs.Problems.{variable_count, fact_names, height_names, task_names, value_names, variable_of, start_value, set, holding, goal_of, name_of, oper_at, oper_of, problem_of}
use Rattle.rules.specs.Sections.{sections_of}
use Rattle.laws.specs.Valid.{Valid}
use Rattle.laws.proofs.ListLaws.{rows_length}
use Rattle.laws.proofs.TextLaws.{digits_le}
use Rattle.laws.proofs.MemberLaws.{members_few}
use Rattle.laws.proofs.CountLaws.{operators_few}
use Rattle.translation.specs.Sizes.{Short}
use Rattle.theorems.proofs.Heights.{Known}
use Rattle.translation.proofs.Listing.{listed}
use Rattle.translation.proofs.Places.{there, cost_most}
use Rattle.translation.proofs.ValueCounts.{names_many, heights_many, variables_of, values_are}
use Rattle.translation.proofs.ProblemOrder.{good_goal, good_operator}
use Rattle.translation.proofs.LineCounts.{lines_few}

-- ---- words and lines

three : (n : ℕ) → ThreeDigits n → length (digits n) ≤ 3
three n h = digits_le 2 n h

word_line_lem : (x : List ℕ) → length (word_line x) ≡ length x + 1
word_line_lem x = length-append x (10 ∷ [])

-- Texts one after the other, each at most w long, and the same after their count.
all_short : {A : Type 0} (g : A → List ℕ) (w : ℕ) (xs : List A) → Each (λ x. length (g x) ≤ w) xs → length (concat (map g xs)) ≤ w * length xs
unfolding concat
all_short g w [] h = omega arith
all_short g w (x ∷ xs) h = rw (length-append, mul-suc) (omega (arith, all_short g w xs h.1, h.0))

counted_short : {A : Type 0} (g : A → List ℕ) (w n : ℕ) (xs : List A) → length xs ≤ n → ThreeDigits n → Each (λ x. length (g x) ≤ w) xs
    → length (counted (map g xs)) ≤ 4 + w * n
counted_short g w n xs l m h =
    rw (length-append (number_line (length (map g xs))) (concat (map g xs)), length-map xs g)
    (omega (arith, word_line_lem (digits (length xs)), three (length xs) (omega arith), all_short g w xs h, mul-le-mul_left w l))

-- ---- texts of several parts

parts_5 : (a b c d e : List ℕ) → length (a ++ b ++ c ++ d ++ e) ≡ length a + length b + length c + length d + length e
parts_5 a b c d e = simp length-append

parts_6 : (a b c d e g : List ℕ) → length (a ++ b ++ c ++ d ++ e ++ g) ≡ length a + length b + length c + length d + length e + length g
parts_6 a b c d e g = simp length-append

parts_7 : (a b c d e g h : List ℕ)
    → length (a ++ b ++ c ++ d ++ e ++ g ++ h) ≡ length a + length b + length c + length d + length e + length g + length h
parts_7 a b c d e g h = simp length-append

oper_short : (o : Oper) → length o.name ≤ 8 → length (counted (map spell_setting o.prevail)) ≤ 532
    → length (counted (map spell_effect o.effects)) ≤ 1026 → o.cost < 1000000 → Short (spell_oper o)
unfolding spell_oper
oper_short o name prevail effects cost =
    rw (parts_6 (bytes "begin_operator\n") (word_line o.name) (counted (map spell_setting o.prevail)) (counted (map spell_effect o.effects)) (number_line o.cost) (bytes "end_operator\n"))
    (omega (arith, word_line_lem o.name, word_line_lem (digits o.cost), digits_le 5 o.cost cost))

module _ (b : ℕ) (t : Table) (valid : Valid t) (low : b ≤ most_bound) where
  few_tasks : task_count t ≤ most_tasks
  few_tasks = omega (arith, valid.head.actions, valid.head.tasks)

  few_variables : variable_count b t ≤ most_facts + 1 + most_bound
  few_variables = omega (arith, valid.head.facts)

  -- ---- variables

  names_short : (v : ℕ) → ThreeDigits v → length (counted (map word_line (value_names b t v))) ≤ 1289
  names_short v l = go (ltb v (fact_count t)) (eqb v (fact_count t))
    where
      go : (c d : Bool) → length (counted (map word_line (cond c (fact_names v) (cond d (height_names b) (task_names t))))) ≤ 1289
      go true d =
          omega (
            arith,
            counted_short word_line 17 2 (fact_names v) (omega arith) (omega arith)
                (omega (arith, word_line_lem (bytes "Atom f" ++ digits v), three v l), (omega (arith, word_line_lem (bytes "NegatedAtom f" ++ digits v), three v l), tt)),
          )
      go false true =
          omega (
            arith,
            counted_short word_line 7 (most_bound + 1) (height_names b) (omega (arith, heights_many b)) (omega arith)
                (each_rows (λ x. length (word_line x) ≤ 7) (λ h. bytes "top" ++ digits h) (suc b)
                (λ h q. omega (arith, word_line_lem (bytes "top" ++ digits h), three h (omega arith)))),
          )
      go false false =
          omega (
            arith,
            counted_short word_line 5 (most_tasks + 1) (task_names t) (omega (arith, names_many t, few_tasks)) (omega arith)
                (each_append (λ x. length (word_line x) ≤ 5) (rows (λ k. bytes "t" ++ digits k) (task_count t)) (bytes "none" ∷ [])
                (each_rows (λ x. length (word_line x) ≤ 5) (λ k. bytes "t" ++ digits k) (task_count t)
                (λ k q. omega (arith, word_line_lem (bytes "t" ++ digits k), three k (omega (arith, few_tasks))))) (omega arith, tt)),
          )

  pub variable_short : (v : ℕ) → v < variable_count b t → Short (spell_variable (variable_of b t v))
  unfolding spell_variable variable_of
  variable_short v l =
      let small : ThreeDigits v = omega (arith, few_variables) in
      rw (parts_5 (bytes "begin_variable\n") (word_line (bytes "var" ++ digits v)) (bytes "-1\n") (counted (map word_line (value_names b t v))) (bytes "end_variable\n"))
      (omega (arith, word_line_lem (bytes "var" ++ digits v), three v small, names_short v small))

  -- ---- lines of numbers that are in order

  few_values : (v : ℕ) → v < variable_count b t → values_of (variables_of b t) v ≤ most_tasks + 1
  few_values v l = rw (values_are b t v l) (go (ltb v (fact_count t)) (eqb v (fact_count t)))
    where
      go : (c d : Bool) → length (cond c (fact_names v) (cond d (height_names b) (task_names t))) ≤ most_tasks + 1
      go true d = omega arith
      go false true = omega (arith, heights_many b)
      go false false = omega (arith, names_many t, few_tasks)

  setting_short : (s : Setting) → GoodSetting (variables_of b t) s → length (spell_setting s) ≤ 8
  setting_short s h =
      let l : s.variable < variable_count b t = omega (arith, h.variable, rows_length (variable_of b t) (variable_count b t)) in
      simp length-append
      (omega (arith, three s.variable (omega (arith, few_variables)), three s.value (omega (arith, h.value, few_values s.variable l))))

  effect_short : (e : Effect) → GoodEffect (variables_of b t) e → length (spell_effect e) ≤ 14
  effect_short e h =
      let l : e.variable < variable_count b t = omega (arith, h.variable, rows_length (variable_of b t) (variable_count b t)) in
      let few = few_values e.variable l in
      simp length-append
      (omega (arith, three e.variable (omega (arith, few_variables)), before e.before few h.before, three e.after (omega (arith, h.after))))
    where
      before : (x : Option ℕ) → values_of (variables_of b t) e.variable ≤ most_tasks + 1 → Below (values_of (variables_of b t) e.variable) x → length (spell_before x) ≤ 3
      before none l h = omega arith
      before (some x) l h = three x (omega arith)

  -- ---- the sections before and between

  preamble_short : Short (preamble (variable_count b t))
  unfolding preamble
  preamble_short =
      rw (length-append (bytes "begin_version\n3\nend_version\nbegin_metric\n1\nend_metric\n") (number_line (variable_count b t)))
      (omega (arith, word_line_lem (digits (variable_count b t)), three (variable_count b t) (omega (arith, few_variables))))

  start_short : (v : ℕ) → length (number_line (start_value t v)) ≤ 4
  start_short v =
      omega (
        arith,
        word_line_lem (digits (start_value t v)),
        three (start_value t v)
            (low_cond (ltb v (fact_count t)) (low_cond (has (start_facts t) v) (omega arith) (omega arith))
            (low_cond (eqb v (fact_count t)) (omega arith)
            (low_cond (eqb v (fact_count t + 1)) (omega (arith, valid.head.start_high, few_tasks)) (omega (arith, few_tasks))))),
      )
    where
      low_cond : (c : Bool) {x y : ℕ} → ThreeDigits x → ThreeDigits y → ThreeDigits (cond c x y)
      low_cond true p q = p
      low_cond false p q = q

  starts_short : length (concat (map number_line (rows (start_value t) (variable_count b t)))) ≤ 516
  starts_short =
      let xs = rows (start_value t) (variable_count b t) in
      omega (
        arith,
        few_variables,
        rows_length (start_value t) (variable_count b t),
        all_short number_line 4 xs (each_rows (λ x. length (number_line x) ≤ 4) (start_value t) (variable_count b t) (λ v l. start_short v)),
      )

  goal_short : length (counted (map spell_setting (goal_of t))) ≤ 524
  goal_short =
      omega (
        arith,
        counted_short spell_setting 8 (most_facts + 1) (goal_of t)
            (omega (arith, length-append (holding (members_of (fact_count t) (goal_facts t))) (set (fact_count t) 0 ∷ []), length-map (members_of (fact_count t) (goal_facts t)) (λ k. set k 0), members_few (fact_count t) (goal_facts t), valid.head.facts))
            (omega arith) (each_as (GoodSetting (variables_of b t)) (λ s. length (spell_setting s) ≤ 8) setting_short (goal_of t) (good_goal b t).each),
      )

module _ (b f : ℕ) (t : Table) (valid : Valid t) (low : b ≤ most_bound) where
  middle_short : Short (middle (problem_of b f t))
  unfolding middle problem_of
  middle_short =
      let n = length (map (oper_of f t) (operators_of b f t)) in
      rw (parts_7 (bytes "0\nbegin_state\n") (concat (map number_line (rows (start_value t) (variable_count b t)))) (bytes "end_state\n") (bytes "begin_goal\n") (counted (map spell_setting (goal_of t))) (bytes "end_goal\n") (number_line n))
      (omega (
        arith,
        starts_short b t valid low,
        goal_short b t valid low,
        word_line_lem (digits n),
        digits_le 4 n (omega (arith, length-map (operators_of b f t) (oper_of f t), operators_few b f t valid low)),
      ))

  -- ---- operators

  name_short : (x : Step) → Known t x → length (name_of x) ≤ 4
  name_short (act k) l = omega (arith, three k (omega (arith, valid.head.actions)))
  name_short (mth k) l = omega (arith, three k (omega (arith, valid.head.methods)))

  operator_short : (o : Operator) → T (emitted b f t o) → Short (spell_oper (oper_of f t o))
  unfolding oper_of oper_at
  operator_short o m =
      let h = there b f t o m in
      let good = good_operator b f t valid o m in
      let few = lines_few b f t valid o m in
      oper_short (oper_of f t o)
      (rw (length-append (name_of o.what) (32 ∷ digits o.at)) (omega (arith, name_short o.what h.known, three o.at (omega (arith, h.high)))))
      (counted_short spell_setting 8 (most_facts + 2) (oper_of f t o).prevail (omega (arith, few.0, valid.head.facts)) (omega arith)
      (each_as (GoodSetting (variables_of b t)) (λ s. length (spell_setting s) ≤ 8) (setting_short b t valid low) (oper_of f t o).prevail good.prevail.each))
      (counted_short spell_effect 14 (most_facts + 1 + most_subtasks) (oper_of f t o).effects (omega (arith, few.1, valid.head.facts)) (omega arith)
      (each_as (GoodEffect (variables_of b t)) (λ e. length (spell_effect e) ≤ 14) (effect_short b t valid low) (oper_of f t o).effects good.effects))
      (omega (arith, cost_most f t valid o.what h.known))

-- ---- all sections

sections_short : (b f : ℕ) (t : Table) → Valid t → b ≤ most_bound → Each Short (sections_of b f t)
unfolding sections_of spell problem_of
sections_short b f t valid low =
    let n = variable_count b t in
    let variables = map spell_variable (rows (variable_of b t) n) in
    let operators = map spell_oper (map (oper_of f t) (operators_of b f t)) in
    each_append Short ((preamble (length (variables_of b t)) ∷ variables) ++ (middle (problem_of b f t) ∷ operators)) (bytes "0\n" ∷ [])
    (each_append Short (preamble (length (variables_of b t)) ∷ variables) (middle (problem_of b f t) ∷ operators) (
      rw (rows_length (variable_of b t) n) (preamble_short b t valid low),
      each_map Short spell_variable (rows (variable_of b t) n)
          (each_rows (λ v. Short (spell_variable v)) (variable_of b t) n (variable_short b t valid low)),
    ) (
      middle_short b f t valid low,
      each_map Short spell_oper (map (oper_of f t) (operators_of b f t))
          (each_map (λ o. Short (spell_oper o)) (oper_of f t) (operators_of b f t)
          (each_of (λ o. Short (spell_oper (oper_of f t o))) (operators_of b f t) (λ o m. operator_short b f t valid low o ((listed b f t o).0 m)))),
    ))
    (omega arith, tt)

pub section_short : {t : Table} {b : ℕ} → Valid t → b ≤ most_bound → (f k : ℕ) → Short (get_or (sections_of b f t) k [])
section_short {t} {b} valid low f k = each_at Short (sections_of b f t) [] (sections_short b f t valid low) (omega arith) k
