-- What an entry refuses it refuses with a number of its row, at the place that the number has; and its number is 0 exactly with a result.
use Prim.Native.Nat.{ℕ, zero, suc, ◌+◌, ◌-◌, ◌≤◌, ◌<◌}
use mathlib.Core.Path.{◌≡◌, refl, sym, ap, subst}
use mathlib.Core.Bool.{Bool, true, false, not, ◌&&◌, ◌||◌, cond}
use mathlib.Core.List.{List, [], ◌∷◌}
use native.Mathlib.Decide.{dec_le}
use native.Mathlib.Omega.{arith}
use borrow.Author.Tests.{ltb-true, eqb-true, eq-eqb}
use lib.ListN.{length, get_or, drop}
use lib.Seq.{slice}
use lib.Dec.{T, eqb, leb, ltb, ltb→lt, nleb→lt}
use Rattle.basics.specs.Readings.{Reading, got, bad, then, many}
use Rattle.basics.specs.Answers.{Answer, answer, refusal, number_of, place_of, value_of, check, after}
use Rattle.rules.specs.Limits.{most_facts, most_actions, most_tasks, most_methods, most_subtasks, most_cost, most_bound, most_table_bytes, most_plan_bytes}
use Rattle.rules.specs.Reasons.{bad_bound, bad_form, table_too_long, plan_too_long, table_ends, bad_number, out_of_range, not_there, bytes_after_table, no_such_section, line_shape, not_emitted, not_applicable, stack_not_empty, goal_missing, no_room}
use Rattle.rules.specs.Numbers.{groups_before, groups_value, sound, number_at, in_range, ranged}
use Rattle.rules.specs.Tables.{Table, goal_facts, all_facts, header, read_action, read_method, closed, decode}
use Rattle.rules.specs.Facts.{holds}
use Rattle.rules.specs.Progression.{is_empty}
use Rattle.rules.specs.Operators.{expand_all, emitted, applies}
use Rattle.rules.specs.Plans.{Line, note, oper, other, lines_of, opers_of}
use Rattle.rules.specs.Checks.{Place, skip, apply, check_from, check_lines, step_bytes}
use Rattle.rules.specs.Refusals.{read_of, table_read, form_read, opened, plan_number, room_of, room_for, count_sections, chosen, one_section, whole_problem, check_plan, expand_plan, find_least}
use Rattle.rules.specs.Sections.{sections_of}
use Rattle.theorems.specs.Numbers.{one_of, read_numbers, least_numbers, sections_numbers, section_numbers, check_numbers, expand_numbers, Listed, Tells, Handed, Never, Nothing, ShortSection, ShortSteps}
use Rattle.laws.proofs.TestLaws.{and_l, and_r}
use Rattle.laws.proofs.AnswerLaws.{refused, check_passed}
use Rattle.laws.proofs.RefusalLaws.{plan_long, plan_fits}
use Rattle.theorems.proofs.Demand3.{opened_given}

-- A reading from within the table comes to a place within it, or to a refusal of which Q holds.
abbrev Reads : {A : Type 0} → (ℕ → ℕ → Type 0) → ℕ → Reading A → Type 0
Reads Q n (got a next) = next ≤ n
Reads Q n (bad why at) = Q why at

then_reads : {A B : Type 0} (Q : ℕ → ℕ → Type 0) (n : ℕ) (o : Reading A) (f : A → ℕ → Reading B) → Reads Q n o
    → ((a : A) (at : ℕ) → at ≤ n → Reads Q n (f a at))
    → Reads Q n (then o f)
then_reads Q n (got a at) f h k = k a at h
then_reads Q n (bad why at) f h k = h

many_reads : {A : Type 0} (Q : ℕ → ℕ → Type 0) (n : ℕ) (p : ℕ → Reading A) → ((at : ℕ) → at ≤ n → Reads Q n (p at))
    → (m at : ℕ) → at ≤ n → Reads Q n (many p m at)
unfolding many
many_reads Q n p one zero at l = l
many_reads Q n p one (suc m) at l =
    then_reads Q n (many p m at) _ (many_reads Q n p one m at l) λ xs a h. then_reads Q n (p a) _ (one a h) λ x c k. k

test_reads : {A : Type 0} (Q : ℕ → ℕ → Type 0) (n : ℕ) (x : Bool) (a b : Reading A) → (T x → Reads Q n a) → (T (not x) → Reads Q n b)
    → Reads Q n (cond x a b)
test_reads Q n true a b f g = f tt
test_reads Q n false a b f g = g tt

-- Q holds of each refusal of a table of n bytes.
record OfTable (Q : ℕ → ℕ → Type 0) (n : ℕ) : Type 0 where
  long : Q table_too_long 0
  ends : (at : ℕ) → at ≤ n → Q table_ends at
  form : (at : ℕ) → at < n → Q bad_number at
  range : (at : ℕ) → at < n → Q out_of_range at
  there : (at : ℕ) → at < n → Q not_there at
  behind : (at : ℕ) → at < n → Q bytes_after_table at

module _ (Q : ℕ → ℕ → Type 0) (s : List ℕ) (q : OfTable Q (length s)) where
  in_range_reads : (lo hi why at v next : ℕ) → Q why at → next ≤ length s → Reads Q (length s) (in_range lo hi why at v next)
  unfolding in_range
  in_range_reads lo hi why at v next h l =
      test_reads Q (length s) (leb lo v) _ _ (λ _. test_reads Q (length s) (leb v hi) _ _ (λ _. l) (λ _. h)) (λ _. h)

  ranged_reads : (lo hi why at : ℕ) → ((at : ℕ) → at < length s → Q why at) → at ≤ length s → Reads Q (length s) (ranged s lo hi why at)
  unfolding ranged number_at
  ranged_reads lo hi why at fault l = go (ltb (at + k) (length s)) refl
    where
      k : ℕ
      k = groups_before (drop at s)

      f : ℕ → ℕ → Reading ℕ
      f = in_range lo hi why at

      last : (y : Bool) (v : ℕ) → at + k < length s → Reads Q (length s) (then (cond y (got v (at + k + 1)) (bad bad_number at)) f)
      last true v h = in_range_reads lo hi why at v (at + k + 1) (fault at (omega arith)) (omega arith)
      last false v h = q.form at (omega arith)

      go : (x : Bool) → ltb (at + k) (length s) ≡ x
          → Reads Q (length s) (then (cond x (cond (sound k (get_or s (at + k) 0)) (got (groups_value (slice at (at + k + 1) s)) (at + k + 1)) (bad bad_number at)) (bad table_ends at)) f)
      go true e = last (sound k (get_or s (at + k) 0)) _ (ltb-true (at + k) (length s) e)
      go false e = q.ends at l

  count : (lo hi at : ℕ) → at ≤ length s → Reads Q (length s) (ranged s lo hi out_of_range at)
  count lo hi at = ranged_reads lo hi out_of_range at q.range

  known : (lo hi at : ℕ) → at ≤ length s → Reads Q (length s) (ranged s lo hi not_there at)
  known lo hi at = ranged_reads lo hi not_there at q.there

  goes_on : {A B : Type 0} (o : Reading A) (f : A → ℕ → Reading B) → Reads Q (length s) o
      → ((a : A) (at : ℕ) → at ≤ length s → Reads Q (length s) (f a at))
      → Reads Q (length s) (then o f)
  goes_on = then_reads Q (length s)

  header_reads : (at : ℕ) → at ≤ length s → Reads Q (length s) (header s at)
  unfolding header
  header_reads at l =
      goes_on (ranged s 0 most_facts out_of_range at) _ (count 0 most_facts at l) λ facts p1 l1.
      goes_on (ranged s 0 most_actions out_of_range p1) _ (count 0 most_actions p1 l1) λ actions p2 l2.
      goes_on (ranged s 1 (most_tasks - actions) out_of_range p2) _ (count 1 (most_tasks - actions) p2 l2) λ abstracts p3 l3.
      goes_on (ranged s 0 most_methods out_of_range p3) _ (count 0 most_methods p3 l3) λ methods p4 l4.
      goes_on (ranged s actions (actions + abstracts - 1) not_there p4) _ (known actions (actions + abstracts - 1) p4 l4) λ start p5 l5.
      goes_on (ranged s 0 (all_facts facts) not_there p5) _ (known 0 (all_facts facts) p5 l5) λ init p6 l6.
      goes_on (ranged s 0 (all_facts facts) not_there p6) _ (known 0 (all_facts facts) p6 l6) λ goal p7 l7. l7

  action_reads : (top at : ℕ) → at ≤ length s → Reads Q (length s) (read_action s top at)
  unfolding read_action
  action_reads top at l =
      goes_on (ranged s 0 top not_there at) _ (known 0 top at l) λ needs p1 l1.
      goes_on (ranged s 0 top not_there p1) _ (known 0 top p1 l1) λ adds p2 l2.
      goes_on (ranged s 0 top not_there p2) _ (known 0 top p2 l2) λ dels p3 l3.
      goes_on (ranged s 0 most_cost out_of_range p3) _ (count 0 most_cost p3 l3) λ cost p4 l4. l4

  method_reads : (lo hi at : ℕ) → at ≤ length s → Reads Q (length s) (read_method s lo hi at)
  unfolding read_method
  method_reads lo hi at l =
      goes_on (ranged s lo hi not_there at) _ (known lo hi at l) λ head p1 l1.
      goes_on (ranged s 0 most_subtasks out_of_range p1) _ (count 0 most_subtasks p1 l1) λ n p2 l2.
      goes_on (many (ranged s 0 hi not_there) n p2) _ (many_reads Q (length s) (ranged s 0 hi not_there) (known 0 hi) n p2 l2) λ subs p3 l3. l3

  closed_reads : (t : Table) (at : ℕ) → at ≤ length s → Reads Q (length s) (closed s t at)
  unfolding closed
  closed_reads t at l = test_reads Q (length s) (ltb at (length s)) _ _ (λ h. q.behind at (ltb→lt at (length s) h)) (λ _. l)

  decode_reads : Reads Q (length s) (decode s)
  unfolding decode
  decode_reads =
      goes_on (header s 0) _ (header_reads 0 (omega arith)) λ h p1 l1.
      goes_on (many (read_action s (all_facts h.facts)) h.actions p1) _
      (many_reads Q (length s) (read_action s (all_facts h.facts)) (action_reads (all_facts h.facts)) h.actions p1 l1) λ actions p2 l2.
      goes_on (many (read_method s h.actions (h.actions + h.abstracts - 1)) h.methods p2) _
      (many_reads Q (length s) (read_method s h.actions (h.actions + h.abstracts - 1)) (method_reads h.actions (h.actions + h.abstracts - 1)) h.methods p2 l2) λ methods p3 l3.
      closed_reads (record { head = h; actions = actions; methods = methods }) p3 l3

-- Q holds of an answer's refusal.
abbrev pub Refuses : {A : Type 0} → (ℕ → ℕ → Type 0) → Answer A → Type 0
Refuses Q (answer a) = Unit {0}
Refuses Q (refusal number place) = Q number place

pub check_refuses : {A : Type 0} (Q : ℕ → ℕ → Type 0) (x : Bool) (n l : ℕ) (rest : Answer A) → (T (not x) → Q n l) → (T x → Refuses Q rest)
    → Refuses Q (check x n l rest)
check_refuses Q true n l rest f g = g tt
check_refuses Q false n l rest f g = f tt

pub after_refuses : {A B : Type 0} (Q : ℕ → ℕ → Type 0) (x : Answer A) (k : A → Answer B) → Refuses Q x → ((a : A) → x ≡ answer a → Refuses Q (k a))
    → Refuses Q (after x k)
after_refuses Q (answer a) k h g = g a refl
after_refuses Q (refusal n l) k h g = h

read_refuses : {A : Type 0} (Q : ℕ → ℕ → Type 0) (n : ℕ) (o : Reading A) → Reads Q n o → Refuses Q (read_of o)
read_refuses Q n (got a at) h = tt
read_refuses Q n (bad why at) h = h

room_refuses : (Q : ℕ → ℕ → Type 0) (size at : ℕ) (x : List ℕ) → (size < at + length x → Q no_room (length x)) → Refuses Q (room_for size at x)
room_refuses Q size at x h =
    after_refuses Q (room_of size at (length x)) _
    (check_refuses Q (leb (at + length x) size) no_room (length x) _ (λ n. h (nleb→lt (at + length x) size n)) (λ _. tt))
    (λ a e. tt)

-- The table; the entry's own check is refused with Q.
table_refuses : (Q : ℕ → ℕ → Type 0) (late : ℕ) → ((late ≡ 0 → ⊥) → Q late 0) → (s : List ℕ) → OfTable Q (length s) → Refuses Q (table_read late s)
unfolding table_read
table_refuses Q late own s q =
    check_refuses Q (leb (length s) most_table_bytes) table_too_long 0 _ (λ _. q.long)
    (λ _. check_refuses Q (eqb late 0) late 0 _ (λ n. own (λ e. rw (eq-eqb late 0 e) at n))
    (λ _. read_refuses Q (length s) (decode s) (decode_reads Q s q)))

-- The check of lines, from a place in a plan of n lines.
record OfLines (Q : ℕ → ℕ → Type 0) (n : ℕ) : Type 0 where
  shape : (l : ℕ) → 1 ≤ l → l ≤ n → Q line_shape l
  emits : (l : ℕ) → 1 ≤ l → l ≤ n → Q not_emitted l
  allows : (l : ℕ) → 1 ≤ l → l ≤ n → Q not_applicable l
  stack : Q stack_not_empty n
  goal : Q goal_missing n

module _ (Q : ℕ → ℕ → Type 0) (n : ℕ) (q : OfLines Q n) (b f : ℕ) (t : Table) where
  from_refuses : (ls : List Line) (p : Place) → p.lines + length ls ≡ n → Refuses Q (check_from b f t p ls)
  from_refuses [] p e =
      let d : n ≡ p.lines = omega arith in
      check_refuses Q (is_empty p.state.stack) stack_not_empty p.lines _ (λ _. subst (Q stack_not_empty) d q.stack)
      (λ _. check_refuses Q (holds (goal_facts t) p.state.facts) goal_missing p.lines _ (λ _. subst (Q goal_missing) d q.goal) (λ _. tt))
  from_refuses (note ∷ ls) p e = from_refuses ls (skip p) (omega arith)
  from_refuses (other ∷ ls) p e = q.shape (suc p.lines) (omega arith) (omega arith)
  from_refuses (oper o ∷ ls) p e =
      let rest = from_refuses ls (apply f t p o) (omega arith) in
      check_refuses Q (emitted b f t o) not_emitted (suc p.lines) _ (λ _. q.emits (suc p.lines) (omega arith) (omega arith))
      (λ _. check_refuses Q (applies f t p.state o) not_applicable (suc p.lines) _
      (λ _. q.allows (suc p.lines) (omega arith) (omega arith)) (λ _. rest))

  lines_refuse : (ls : List Line) → length ls ≡ n → Refuses Q (check_lines b f t ls)
  unfolding check_lines
  lines_refuse ls e = from_refuses ls _ (omega arith)

-- Numbers that are all in a row.
abbrev pub within : List ℕ → List ℕ → Bool
within [] row = true
within (m ∷ ms) row = one_of row m && within ms row

pub in_row : (ms row : List ℕ) (n : ℕ) → T (within ms row) → T (one_of ms n) → T (one_of row n)
in_row [] row n w h = absurd h
in_row (m ∷ ms) row n w h =
    go (eqb n m) refl (in_row ms row n (and_r (one_of row m) (within ms row) w)) h
  where
    go : (x : Bool) → eqb n m ≡ x → (T (one_of ms n) → T (one_of row n)) → T (x || one_of ms n) → T (one_of row n)
    go true e r h = subst (λ (k : ℕ). T (one_of row k)) (sym (eqb-true n m e)) (and_l (one_of row m) (within ms row) w)
    go false e r h = r h

never : (x : Bool) → T x → T (not x) → ⊥
never true h k = k
never false h k = h

-- An entry with that row, on the table s.
module _ (row s : List ℕ) (lines : ℕ) (Short Tried : ℕ → Type 0) where
  abbrev Allowed : ℕ → ℕ → Type 0
  Allowed = Listed row (length s) lines Short Tried

  of_table : T (within read_numbers row) → OfTable Allowed (length s)
  of_table w =
      record {
        long = record { listed = in_row read_numbers row table_too_long w tt; placed = refl };
        ends = λ at l. record { listed = in_row read_numbers row table_ends w tt; placed = l };
        form = λ at l. record { listed = in_row read_numbers row bad_number w tt; placed = l };
        range = λ at l. record { listed = in_row read_numbers row out_of_range w tt; placed = l };
        there = λ at l. record { listed = in_row read_numbers row not_there w tt; placed = l };
        behind = λ at l. record { listed = in_row read_numbers row bytes_after_table w tt; placed = l };
      }

  module _ (early late : ℕ) (first : (early ≡ 0 → ⊥) → Allowed early 0) (own : (late ≡ 0 → ⊥) → Allowed late 0) where
    of_form : T (within least_numbers row) → (f : ℕ) → Refuses Allowed (form_read early late f s)
    unfolding form_read
    of_form w f =
        check_refuses Allowed (leb f 1) bad_form 0 _
        (λ _. record { listed = and_l (one_of row bad_form) (within read_numbers row) w; placed = refl })
        (λ _. check_refuses Allowed (eqb early 0) early 0 _ (λ n. first (λ e. rw (eq-eqb early 0 e) at n))
        (λ _. table_refuses Allowed late own s (of_table (and_r (one_of row bad_form) (within read_numbers row) w))))

    pub of_opening : T (within sections_numbers row) → (b f : ℕ) → Refuses Allowed (opened early late b f s)
    unfolding opened
    of_opening w b f =
        check_refuses Allowed (leb 1 b && leb b most_bound) bad_bound 0 _
        (λ _. record { listed = and_l (one_of row bad_bound) (within least_numbers row) w; placed = refl })
        (λ _. of_form (and_r (one_of row bad_bound) (within least_numbers row) w) f)

  of_lines : T (within check_numbers row) → OfLines Allowed lines
  of_lines w =
      record {
        shape = λ l h k. record { listed = in_row check_numbers row line_shape w tt; placed = (h, k) };
        emits = λ l h k. record { listed = in_row check_numbers row not_emitted w tt; placed = (h, k) };
        allows = λ l h k. record { listed = in_row check_numbers row not_applicable w tt; placed = (h, k) };
        stack = record { listed = in_row check_numbers row stack_not_empty w tt; placed = refl };
        goal = record { listed = in_row check_numbers row goal_missing w tt; placed = refl };
      }

  of_plan : T (one_of row plan_too_long) → (plan : List ℕ) → (plan_number plan ≡ 0 → ⊥) → Allowed (plan_number plan) 0
  of_plan w plan n =
      elim (dec_le (length plan) most_plan_bytes) [
        | yes h ↦ absurd (n (plan_fits plan h))
        | no h ↦ subst (λ (k : ℕ). Allowed k 0) (sym (plan_long plan (omega arith))) (record { listed = w; placed = refl })
      ]

  -- What refuses so is numbered so, where 0 is not in the row.
  pub numbered : {A : Type 0} → T (not (one_of row 0)) → (a : Answer A) → Refuses Allowed a → Tells row (length s) lines Short Tried a
  numbered {A} n a h =
      record {
        refused = λ number place e. subst (Refuses Allowed) e h;
        zero = (go a h, λ q. ap number_of q.1);
      }
    where
      go : (a : Answer A) → Refuses Allowed a → number_of a ≡ 0 → (x : A) × (a ≡ answer x)
      go (answer x) h e = (x, refl)
      go (refusal number place) h e = absurd (never (one_of row 0) (subst (λ (k : ℕ). T (one_of row k)) e h.listed) n)

-- So are the number and the place that are handed back.
pub handed : {A : Type 0} {row : List ℕ} {size lines : ℕ} {Short Tried : ℕ → Type 0} (a : Answer A) → Tells row size lines Short Tried a
    → Handed row size lines Short Tried (number_of a) (place_of a)
handed (answer x) q = record { result = λ _. refl; refused = λ n. absurd (n refl) }
handed (refusal number place) q =
    record {
      result = λ e. let z = q.zero.0 e in refused number place z.1;
      refused = λ _. q.refused number place refl;
    }

-- No number is read off a refusal.
pub no_value : {A : Type 0} (g : A → ℕ) (a : Answer A) → Nothing (number_of a) (value_of g a)
no_value g (answer y) n = absurd (n refl)
no_value g (refusal number place) n = refl

-- Entry by entry.
pub count_numbers : (b f : ℕ) (s : List ℕ) → Tells sections_numbers (length s) 0 Never Never (count_sections b f s)
unfolding count_sections
count_numbers b f s =
    numbered sections_numbers s 0 Never Never tt (count_sections b f s)
    (after_refuses _ (opened 0 0 b f s) _ (of_opening sections_numbers s 0 Never Never 0 0 (λ n. absurd (n refl)) (λ n. absurd (n refl)) tt b f) (λ t e. tt))

pub whole_numbers : (b f : ℕ) (s : List ℕ) → Tells sections_numbers (length s) 0 Never Never (whole_problem b f s)
unfolding whole_problem
whole_numbers b f s =
    numbered sections_numbers s 0 Never Never tt (whole_problem b f s)
    (after_refuses _ (opened 0 0 b f s) _ (of_opening sections_numbers s 0 Never Never 0 0 (λ n. absurd (n refl)) (λ n. absurd (n refl)) tt b f) (λ t e. tt))

pub least_numbers_lem : (f : ℕ) (s : List ℕ) → Tells least_numbers (length s) 0 Never Never (find_least f s)
unfolding find_least
least_numbers_lem f s =
    numbered least_numbers s 0 Never Never tt (find_least f s)
    (after_refuses _ (form_read 0 0 f s) _ (of_form least_numbers s 0 Never Never 0 0 (λ n. absurd (n refl)) (λ n. absurd (n refl)) tt f) (λ t e. tt))

pub section_numbers_lem : (b f : ℕ) (s : List ℕ) (k all at : ℕ)
    → Tells section_numbers (length s) 0 (ShortSection b f s k all at) Never (one_section b f s k all at)
unfolding one_section
section_numbers_lem b f s k all at =
    numbered section_numbers s 0 (ShortSection b f s k all at) Never tt (one_section b f s k all at)
    (after_refuses _ (opened 0 0 b f s) _ (of_opening section_numbers s 0 (ShortSection b f s k all at) Never 0 0 (λ n. absurd (n refl)) (λ n. absurd (n refl)) tt b f)
    (λ t e. after_refuses _ (chosen (sections_of b f t) k) (room_for all at)
    (check_refuses _ (ltb k (length (sections_of b f t))) no_such_section 0 _ (λ _. record { listed = tt; placed = refl }) (λ _. tt))
    (λ x d.
    let q = check_passed (ltb k (length (sections_of b f t))) no_such_section 0 _ d in
    let g : get_or (sections_of b f t) k [] ≡ x = cc q.1 in
    room_refuses _ all at x
    (λ l. record {
      listed = tt;
      placed = record {
        table = t;
        given = (opened_given 0 0 b f s t e).0;
        there = ltb→lt k (length (sections_of b f t)) q.0;
        bytes = ap length (sym g);
        room = l;
      };
    }))))

pub check_numbers_lem : (b f : ℕ) (s plan : List ℕ) → Tells check_numbers (length s) (length (lines_of plan)) Never Never (check_plan b f s plan)
unfolding check_plan
check_numbers_lem b f s plan =
    let n = length (lines_of plan) in
    numbered check_numbers s n Never Never tt (check_plan b f s plan)
    (after_refuses _ (opened 0 (plan_number plan) b f s) _
    (of_opening check_numbers s n Never Never 0 (plan_number plan) (λ n. absurd (n refl)) (of_plan check_numbers s n Never Never tt plan) tt b f)
    (λ t e. lines_refuse _ n (of_lines check_numbers s n Never Never tt) b f t (lines_of plan) refl))

pub expand_numbers_lem : (b f : ℕ) (s plan : List ℕ) (all : ℕ)
    → Tells expand_numbers (length s) (length (lines_of plan)) (ShortSteps b f s plan all) Never (expand_plan b f s plan all)
unfolding expand_plan
expand_numbers_lem b f s plan all =
    let n = length (lines_of plan) in
    let Short = ShortSteps b f s plan all in
    numbered expand_numbers s n Short Never tt (expand_plan b f s plan all)
    (after_refuses _ (opened 0 (plan_number plan) b f s) _
    (of_opening expand_numbers s n Short Never 0 (plan_number plan) (λ n. absurd (n refl)) (of_plan expand_numbers s n Short Never tt plan) tt b f)
    (λ t e. after_refuses _ (check_lines b f t (lines_of plan)) _
    (lines_refuse _ n (of_lines expand_numbers s n Short Never tt) b f t (lines_of plan) refl)
    (λ y d. room_refuses _ all 0 (step_bytes (expand_all f t (opers_of (lines_of plan))))
    (λ l. record {
      listed = tt;
      placed = record { table = t; given = (opened_given 0 (plan_number plan) b f s t e).0; bytes = refl; room = omega arith };
    }))))
