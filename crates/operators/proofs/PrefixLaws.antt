-- Joining the prefix of a method, a subtask at a time: what is left still gives the whole.
use mathlib.Core.Path.{◌≡◌, refl, sym, ap, ◌∙◌}
use mathlib.Core.List.{List, [], map}
use Prim.Native.Nat.{ℕ, ◌+◌, ◌≤◌, ◌<◌}
use native.Mathlib.Omega.{arith}
use lib.ListN.{length, get_or, drop}
use Rattle.rules.specs.Tables.{Table, action_count, action, method}
use Rattle.rules.specs.Facts.{Join, no_join, join_one, join_from, join_of}
use Rattle.rules.specs.Progression.{leading}
use Rattle.rules.specs.Operators.{joined}
use Rattle.laws.proofs.LeadingLaws.{Counted, leading_more, leading_stops, leading_ends, counted_more, counted_all, prefix_leads}
use Rattle.facts.specs.Sets.{join_read}
use Rattle.operators.specs.Prefixes.{IsPrefix}
use Rattle.operators.specs.declared.Prefix.{Prefix}

-- The first i tasks are joined in j.
pub record Joining (t : Table) (tasks : List ℕ) (j : Join) (i : ℕ) : Type 0 where
  pub within : i ≤ length tasks
  pub sets : join_from j (map (action t) (leading (action_count t) (drop i tasks))) ≡ join_of (map (action t) (leading (action_count t) tasks))
  pub count : Counted (action_count t) tasks i

-- All of them.
pub record Whole (t : Table) (tasks : List ℕ) (j : Join) (i : ℕ) : Type 0 where
  pub sets : j ≡ join_of (map (action t) (leading (action_count t) tasks))
  pub count : i ≡ length (leading (action_count t) tasks)

pub joining_begins : (t : Table) (tasks : List ℕ) → Joining t tasks no_join 0
unfolding join_of
joining_begins t tasks = record { within = omega arith; sets = refl; count = omega arith }

module _ (t : Table) (tasks : List ℕ) (j : Join) (i : ℕ) (h : Joining t tasks j i) where
  pub joining_more : i < length tasks → get_or tasks i 0 < action_count t → Joining t tasks (join_one j (action t (get_or tasks i 0))) (i + 1)
  unfolding join_from
  joining_more l a =
      record {
        within = omega arith;
        sets = ap (λ (ks : List ℕ). join_from j (map (action t) ks)) (sym (leading_more (action_count t) tasks i l a)) ∙ h.sets;
        count = counted_more (action_count t) tasks i l a h.count;
      }

  ends : leading (action_count t) (drop i tasks) ≡ [] → Whole t tasks j i
  unfolding join_from
  ends e =
      record {
        sets = ap (λ (ks : List ℕ). join_from j (map (action t) ks)) (sym e) ∙ h.sets;
        count = counted_all (action_count t) tasks i e h.count;
      }

  pub joining_stops : i < length tasks → action_count t ≤ get_or tasks i 0 → Whole t tasks j i
  joining_stops l a = ends (leading_stops (action_count t) tasks i l a)

  pub joining_ends : length tasks ≤ i → Whole t tasks j i
  joining_ends l = ends (leading_ends (action_count t) tasks i l)

-- The prefix in the plain form, and in the prefix form.
pub plain_prefix : (f : ℕ) (t : Table) (k : ℕ) (r : Prefix) → f ≡ 0 → join_read r.join ≡ no_join → r.count ≡ 0 → IsPrefix f t k r
unfolding joined join_of join_from
plain_prefix f t k r z j c = record { sets = rw z j; count = rw z c }

pub whole_prefix : (f : ℕ) (t : Table) (k : ℕ) (r : Prefix) → (f ≡ 0 → ⊥) → Whole t (method t k).subs (join_read r.join) r.count → IsPrefix f t k r
unfolding joined
whole_prefix f t k r z w = let e = prefix_leads f t k z in record { sets = rw e w.sets; count = rw e w.count }
