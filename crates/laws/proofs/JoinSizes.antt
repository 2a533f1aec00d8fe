-- The joined sets of a valid table's steps are sets of its facts.
use Prim.Native.Nat.{ℕ, ◌-◌, ◌^◌, ◌≤◌, ◌<◌}
use mathlib.Core.Path.{◌≡◌, refl}
use mathlib.Core.Bool.{Bool, true, false, cond}
use mathlib.Core.List.{List, [], ◌∷◌, map}
use native.Mathlib.Omega.{arith}
use lib.Bits.{and_lt, or_lt, xor_lt}
use lib.Dec.{ltb, ltb→lt}
use lib.Pow.{pow_pos}
use Rattle.rules.specs.Tables.{Table, Action, action_count, fact_count, all_facts, action}
use Rattle.rules.specs.Facts.{Join, without, no_join, join_one, join_from, join_of}
use Rattle.rules.specs.Progression.{act, mth, prefix}
use Rattle.rules.specs.Operators.{joined}
use Rattle.laws.specs.Valid.{Valid, GoodAction}
use Rattle.laws.specs.Joins.{Within}
use Rattle.laws.specs.Steps.{step_at}
use Rattle.laws.proofs.JoinedPrefix.{Below, prefix_below}

below_pow : (n s : ℕ) → s ≤ all_facts n → s < 2 ^ n
below_pow n s l = omega (arith, pow_pos n)

pub without_lt : (n a b : ℕ) → a < 2 ^ n → b < 2 ^ n → without a b < 2 ^ n
unfolding without
without_lt n a b p q = xor_lt n a _ p (and_lt n a b p q)

module _ (t : Table) (v : Valid t) where
  one_within : (j : Join) (a : Action) → Within (fact_count t) j → GoodAction t.head a → Within (fact_count t) (join_one j a)
  unfolding join_one
  one_within j a w g =
      let n = fact_count t in
      let needs = below_pow n a.needs g.needs in
      let adds = below_pow n a.adds g.adds in
      let dels = below_pow n a.dels g.dels in
      record {
        needs = or_lt n _ _ w.needs (without_lt n _ _ needs w.adds);
        adds = or_lt n _ _ (without_lt n _ _ w.adds dels) adds;
        dels = without_lt n _ _ (or_lt n _ _ w.dels dels) adds;
      }

  all_within : (ks : List ℕ) (j : Join) → Within (fact_count t) j → Below (action_count t) ks → Within (fact_count t) (join_from j (map (action t) ks))
  unfolding join_from
  all_within [] j w b = w
  all_within (k ∷ ks) j w b =
      all_within ks (join_one j (action t k)) (one_within j (action t k) w (v.action k (ltb→lt k (action_count t) b.0))) b.1

  none_within : Within (fact_count t) no_join
  none_within = let p = pow_pos (fact_count t) in record { needs = p; adds = p; dels = p }

  pub joined_low : (f i : ℕ) → Within (fact_count t) (joined f t (step_at t i))
  unfolding joined join_of
  joined_low f i = go (ltb i (action_count t)) refl
    where
      go : (c : Bool) → ltb i (action_count t) ≡ c → Within (fact_count t) (joined f t (cond c (act i) (mth (i - action_count t))))
      go true e = all_within (i ∷ []) no_join none_within (rw e tt, tt)
      go false e = all_within (prefix f t (i - action_count t)) no_join none_within (prefix_below f t (i - action_count t))
