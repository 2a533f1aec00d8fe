-- The choices in a state are the operators that may be applied there, in table order.
use Prim.Native.Nat.{ℕ, zero, suc, ◌+◌, ◌≤◌, ◌<◌}
use mathlib.Core.Path.{◌≡◌, refl, sym, ap, subst}
use mathlib.Core.Logic.{◌⊎◌, inl, inr}
use mathlib.Core.Bool.{Bool, true, false, cond}
use mathlib.Core.List.{List, ◌∷◌}
use native.Mathlib.Omega.{arith}
use native.Mathlib.Decide.{dec_lt}
use lib.Dec.{T, lt→ltb}
use Rattle.rules.specs.Tables.{Table, action_count, method_count}
use Rattle.rules.specs.Progression.{State, Step, act, mth}
use Rattle.rules.specs.Operators.{Operator, emitted}
use Rattle.theorems.proofs.Emission.{action_emitted, method_emitted}
use Rattle.theorems.proofs.Heights.{Known}
use Rattle.basics.specs.Lists.{Among}
use Rattle.rules.specs.Searches.{may, precedes}
use Rattle.rules.specs.Walks.{here, picks, choices}
use Rattle.sought.proofs.AmongLaws.{Rising, rising_append, same_among, among_left, among_right, among_append}
use Rattle.sought.proofs.OrderLaws.{may_be}

-- One operator's step comes before another's.
abbrev pub Before : Operator → Operator → Type 0
Before o p = T (precedes o.what p.what)

-- An operator that is emitted has a step of the table, at a position within the bound.
pub emitted_known : (b f : ℕ) (t : Table) (x : Step) (i : ℕ) → T (emitted b f t (record { what = x; at = i })) → Known t x × (i ≤ b)
emitted_known b f t (act k) i h = let q = (action_emitted b f t k i).0 h in (q.0, q.2)
emitted_known b f t (mth k) i h = let q = (method_emitted b f t k i).0 h in (q.0, q.3)

module _ (b f : ℕ) (t : Table) (s : State) where
  -- A pick is a step from number k on, and may be applied.
  record Pick (step : ℕ → Step) (n k : ℕ) (o : Operator) : Type 0 where
    number : ℕ
    low : k ≤ number
    high : number < k + n
    what : o.what ≡ step number
    ok : T (may b f t s o)

  later : (step : ℕ → Step) (n k : ℕ) (o : Operator) → Pick step n (suc k) o → Pick step (suc n) k o
  later step n k o q = record { number = q.number; low = omega (arith, q.low); high = omega (arith, q.high); what = q.what; ok = q.ok }

  picked : (step : ℕ → Step) (n k : ℕ) (o : Operator) → Among o (picks b f t s step n k) → Pick step n k o
  unfolding picks
  picked step zero k o m = absurd m
  picked step (suc n) k o m = go (may b f t s (here s (step k))) refl m (λ q. picked step n (suc k) o q)
    where
      first : (x : Bool) → may b f t s (here s (step k)) ≡ x → T x → o ≡ here s (step k) → Pick step (suc n) k o
      first x d h e =
          record {
            number = k;
            low = omega arith;
            high = omega arith;
            what = ap (λ (p : Operator). p.what) e;
            ok = subst (λ (p : Operator). T (may b f t s p)) (sym e) (subst T (sym d) h);
          }

      go : (x : Bool) → may b f t s (here s (step k)) ≡ x
          → Among o (cond x (here s (step k) ∷ picks b f t s step n (suc k)) (picks b f t s step n (suc k)))
          → (Among o (picks b f t s step n (suc k)) → Pick step n (suc k) o)
          → Pick step (suc n) k o
      go true d (inl e) r = first true d tt e
      go true d (inr q) r = later step n k o (r q)
      go false d q r = later step n k o (r q)

  unpicked : (step : ℕ → Step) (n k j : ℕ) → k ≤ j → j < k + n → T (may b f t s (here s (step j)))
      → Among (here s (step j)) (picks b f t s step n k)
  unfolding picks
  unpicked step zero k j l h q = absurd (omega arith)
  unpicked step (suc n) k j l h q =
      go (dec_lt k j) (may b f t s (here s (step k))) refl (λ g. unpicked step n (suc k) j g (omega arith) q)
    where
      rest : List Operator
      rest = picks b f t s step n (suc k)

      here_same : (k < j → ⊥) → here s (step j) ≡ here s (step k)
      here_same g = let e : j ≡ k = omega arith in ap (λ (i : ℕ). here s (step i)) e

      go : Dec (k < j) → (x : Bool) → may b f t s (here s (step k)) ≡ x → (k < j → Among (here s (step j)) rest)
          → Among (here s (step j)) (cond x (here s (step k) ∷ rest) rest)
      go (yes g) true c r = inr (r g)
      go (yes g) false c r = r g
      go (no g) true c r = inl (here_same g)
      go (no g) false c r = absurd (subst T c (subst (λ (o : Operator). T (may b f t s o)) (here_same g) q))

  rising : (step : ℕ → Step) → ((i j : ℕ) → i < j → T (precedes (step i) (step j))) → (n k : ℕ) → Rising Before (picks b f t s step n k)
  unfolding picks
  rising step h zero k = tt
  rising step h (suc n) k = go (may b f t s (here s (step k))) (rising step h n (suc k))
    where
      go : (x : Bool) → Rising Before (picks b f t s step n (suc k))
          → Rising Before (cond x (here s (step k) ∷ picks b f t s step n (suc k)) (picks b f t s step n (suc k)))
      go true r = (
        (λ o m.
            let q = picked step n (suc k) o m in subst (λ (x : Step). T (precedes (step k) x)) (sym q.what) (h k q.number (omega (arith, q.low)))),
        r,
      )
      go false r = r

  -- The actions that may be applied, and the methods.
  abbrev acts : List Operator
  acts = picks b f t s act (action_count t) 0

  abbrev mths : List Operator
  mths = picks b f t s mth (method_count t) 0

  pub choice_ok : (o : Operator) → Among o (choices b f t s) → T (may b f t s o)
  unfolding choices
  choice_ok o m = go (among_append o acts mths m)
    where
      go : Among o acts ⊎ Among o mths → T (may b f t s o)
      go (inl q) = (picked act (action_count t) 0 o q).ok
      go (inr q) = (picked mth (method_count t) 0 o q).ok

  pub choice_all : (o : Operator) → T (may b f t s o) → Among o (choices b f t s)
  unfolding choices
  choice_all o h =
      let m = may_be b f t s o h in
      let is : o ≡ here s o.what = λ i. record { what = o.what; at = m.1 i } in
      same_among (choices b f t s) is
      (go o.what (emitted_known b f t o.what o.at m.0).0 (subst (λ (p : Operator). T (may b f t s p)) is h))
    where
      go : (x : Step) → Known t x → T (may b f t s (here s x)) → Among (here s x) (choices b f t s)
      go (act k) l h = among_left (here s (act k)) acts mths (unpicked act (action_count t) 0 k (omega arith) (omega arith) h)
      go (mth k) l h = among_right (here s (mth k)) acts mths (unpicked mth (method_count t) 0 k (omega arith) (omega arith) h)

  pub choices_rise : Rising Before (choices b f t s)
  unfolding choices
  choices_rise =
      rising_append Before acts mths
      (rising act lt→ltb (action_count t) 0)
      (rising mth lt→ltb (method_count t) 0)
      (λ o p m n. go o p (picked act (action_count t) 0 o m).what (picked mth (method_count t) 0 p n).what)
    where
      go : {j k : ℕ} (o p : Operator) → o.what ≡ act j → p.what ≡ mth k → Before o p
      go {j} o p d e = subst (λ (x : Step). T (precedes x p.what)) (sym d) (subst (λ (x : Step). T (precedes (act j) x)) (sym e) tt)
