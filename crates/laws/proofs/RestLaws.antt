-- Points of rest, and the actions that are due between two of them: after a method its prefix is, and lies on top of the stack.
use Prim.Native.Nat.{ℕ, zero, suc, ◌+◌, ◌≤◌}
use mathlib.Core.Path.{◌≡◌, refl, ap, ◌∙◌}
use mathlib.Core.List.{List, [], ◌∷◌, ◌++◌}
use native.Mathlib.Omega.{arith}
use lib.ListN.{length, length-append, drop}
use lib.Dec.{T, ltb, eqb, leb→le, le→leb, ltb→lt, eqb→eq}
use Rattle.rules.specs.Tables.{Table, action_count, method_count, method}
use Rattle.rules.specs.Progression.{prefix, stays, resting}
use Rattle.laws.specs.Valid.{Valid}
use Rattle.laws.specs.Bounds.{Owed}
use Rattle.laws.proofs.JoinedPrefix.{Below, prefix_below, pushed}

-- A height that is within the bound is so at every point, one of rest or not.
pub low_rests : (b o : ℕ) (st : List ℕ) → length st ≤ b → T (resting b o st)
low_rests b zero st l = le→leb (length st) b l
low_rests b (suc o) st l = tt

-- A greater bound is kept too.
pub rests_more : (b b' o : ℕ) (st : List ℕ) → b ≤ b' → T (resting b o st) → T (resting b' o st)
rests_more b b' zero st l h = le→leb (length st) b' (omega (arith, leb→le (length st) b h))
rests_more b b' (suc o) st l h = tt

-- On top of other tasks, with so much more room.
pub rests_above : (a b o : ℕ) (st ts : List ℕ) → a + length ts ≤ b → T (resting a o st) → T (resting b o (st ++ ts))
rests_above a b zero st ts l h = le→leb (length (st ++ ts)) b (omega (arith, leb→le (length st) a h, length-append st ts))
rests_above a b (suc o) st ts l h = tt

-- Where tasks are due that lie on top of a stack, its height counts once they are gone.
pub rests_below : (b : ℕ) (ks st : List ℕ) → length st ≤ b → T (resting b (length ks) (ks ++ st))
rests_below b [] st l = le→leb (length st) b l
rests_below b (k ∷ ks) st l = tt

below_owed : (a : ℕ) (ks st : List ℕ) → Below a ks → Owed a (length ks) (ks ++ st)
below_owed a [] st h = tt
below_owed a (k ∷ ks) st h = (h.0, below_owed a ks st h.1)

drop_whole : (ks st : List ℕ) → drop (length ks) (ks ++ st) ≡ st
drop_whole [] st = refl
drop_whole (k ∷ ks) st = drop_whole ks st

module _ (f : ℕ) (t : Table) (k : ℕ) (st : List ℕ) where
  pub prefix_owed : Owed (action_count t) (length (prefix f t k)) ((method t k).subs ++ st)
  prefix_owed = rw (pushed f t k st) (below_owed (action_count t) (prefix f t k) (stays f t k ++ st) (prefix_below f t k))

  pub drop_prefix : drop (length (prefix f t k)) ((method t k).subs ++ st) ≡ stays f t k ++ st
  drop_prefix = ap (drop (length (prefix f t k))) (pushed f t k st) ∙ drop_whole (prefix f t k) (stays f t k ++ st)

-- A method is never due, so none comes where an action is.
pub none_due : {P : Type 0} (t : Table) → Valid t → (o k c : ℕ) (st : List ℕ) → Owed (action_count t) (suc o) (c ∷ st)
    → T (ltb k (method_count t))
    → T (eqb c (method t k).head)
    → P
none_due t valid o k c st w m a =
    absurd (omega (arith, ltb→lt c (action_count t) w.0, eqb→eq c (method t k).head a, (valid.method k (ltb→lt _ _ m)).low))
