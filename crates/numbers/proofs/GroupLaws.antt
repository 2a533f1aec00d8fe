-- A number read group by group from its first on.
use mathlib.Core.Path.{◌≡◌, refl, ap, sym, subst, ◌∙◌}
use mathlib.Core.List.{List}
use mathlib.Core.Bool.{Bool, true, false, cond}
use Prim.Native.Nat.{ℕ, suc, ◌+◌, ◌-◌, ◌*◌, ◌%◌, ◌^◌, ◌≤◌, ◌<◌}
use native.Mathlib.Omega.{arith}
use native.Mathlib.Numerals.{add-one}
use native.Mathlib.Nat.{pow-succ', pow-le-pow_right, mul-add, mul_comm, mul_assoc, mul-le-mul_right}
use borrow.Author.Tests.{lt-ltb, ne_eqb}
use lib.Dec.{eqb, lit<}
use lib.ListN.{length, drop, get_or}
use lib.Seq.{slice, slice-cons}
use Rattle.rules.specs.Reasons.{bad_number}
use Rattle.rules.specs.Numbers.{groups_before, groups_value, sound, read_number}
use Rattle.basics.specs.Readings.{got, bad}
use Rattle.laws.proofs.NumberLaws.{run_stop, run_more, spell_one, number_got, number_long}

-- The first j groups of the number at a place have the top bit set and stand for v; p is 128 ^ j.
pub record Begun (s : List ℕ) (at j p v : ℕ) : Type 0 where
  pub power : p ≡ 128 ^ j
  pub small : v < p
  pub more : at + groups_before (drop at s) ≡ at + j + groups_before (drop (at + j) s)
  pub spelt : (e : ℕ) → at + j ≤ e → e ≤ length s → groups_value (slice at e s) ≡ v + p * groups_value (slice (at + j) e s)

pub begun : (s : List ℕ) (at : ℕ) → Begun s at 0 1 0
begun s at =
    let z : at + 0 ≡ at = omega arith in
    record {
      power = refl;
      small = omega arith;
      more = ap (λ (n : ℕ). n + groups_before (drop n s)) (sym z);
      spelt = λ e _ _. omega (arith, ap (λ (n : ℕ). groups_value (slice n e s)) z);
    }

split : (v p g t : ℕ) → v + p * (g + 128 * t) ≡ v + g * p + p * 128 * t
split v p g t = omega (arith, mul-add p g (128 * t), mul_comm p g, mul_assoc p 128 t)

-- A group more has room below its power.
pub group_fits : (v p x : ℕ) → v < p → x < 128 → v + x * p < p * 128
group_fits v p x h k = let m : x ≤ 127 = omega arith in omega (arith, mul-le-mul_right p m)

pub power_fits : (j p : ℕ) → p ≡ 128 ^ j → j < 9 → p * 128 ≤ 2 ^ 63
power_fits j p e l = let m : j ≤ 8 = omega arith in omega (arith, pow-le-pow_right {n = 128} (lit< tt) m)

pub sound_some : (j b : ℕ) → j < 9 → 0 < b → sound j b ≡ true
unfolding sound
sound_some j b l h = rw (ne_eqb b 0 (omega arith), lt-ltb j 9 l) (go (eqb j 0))
  where
    go : (t : Bool) → cond t true true ≡ true
    go true = refl
    go false = refl

pub sound_empty : (j : ℕ) → 1 ≤ j → sound j 0 ≡ false
unfolding sound
sound_empty j h = rw (ne_eqb j 0 (omega arith))

pub sound_last : sound 9 1 ≡ true
unfolding sound
sound_last = refl

module _ {s : List ℕ} {at j p v : ℕ} (b : Begun s at j p v) (h : at + j < length s) where
  pub group_more : 128 ≤ get_or s (at + j) 0 → Begun s at (j + 1) (p * 128) (v + get_or s (at + j) 0 % 128 * p)
  unfolding groups_value
  group_more k =
      let x : at + j + 1 ≡ at + (j + 1) = omega arith in
      let y : suc (at + j) ≡ at + (j + 1) = omega arith in
      record {
        power = omega (arith, b.power, pow-succ' 128 j, ap (λ (n : ℕ). 128 ^ n) (add-one j));
        small = group_fits v p (get_or s (at + j) 0 % 128) b.small (omega arith);
        more = omega (arith, b.more, run_more s (at + j) h k, ap (λ (n : ℕ). groups_before (drop n s)) x);
        spelt =
            λ e l m.
            b.spelt e (omega arith) m
            ∙ ap (λ (t : ℕ). v + p * t) (ap groups_value (slice-cons (at + j) e s 0 (omega arith) m))
            ∙ split v p (get_or s (at + j) 0 % 128) (groups_value (slice (suc (at + j)) e s))
            ∙ ap (λ (n : ℕ). v + get_or s (at + j) 0 % 128 * p + p * 128 * groups_value (slice n e s)) y;
      }

  module _ (k : get_or s (at + j) 0 < 128) where
    ends : at + j ≡ at + groups_before (drop at s)
    ends = omega (arith, b.more, run_stop s (at + j) h k)

    here : at + j - at ≡ j
    here = omega arith

    pub group_last : sound j (get_or s (at + j) 0) ≡ true → read_number s at ≡ got (v + get_or s (at + j) 0 * p) (at + j + 1)
    group_last t =
        number_got s at (at + j) ends h (ap (λ (n : ℕ). sound n (get_or s (at + j) 0)) here ∙ t)
        ∙ ap (λ (n : ℕ). got n (at + j + 1))
        (b.spelt (at + j + 1) (omega arith) (omega arith)
        ∙ ap (λ (n : ℕ). v + p * n) (spell_one s (at + j) h k)
        ∙ ap (λ (n : ℕ). v + n) (mul_comm p (get_or s (at + j) 0)))

    pub group_bad : sound j (get_or s (at + j) 0) ≡ false → read_number s at ≡ bad bad_number at
    group_bad t = number_long s at (at + j) ends h (ap (λ (n : ℕ). sound n (get_or s (at + j) 0)) here ∙ t)

sound_alone : (b : ℕ) → sound 0 b ≡ true
unfolding sound
sound_alone b = refl

-- A number of one group, and the first group of a longer one.
module _ (s : List ℕ) (at : ℕ) (h : at < length s) where
  pub one_group : get_or s at 0 < 128 → read_number s at ≡ got (get_or s at 0) (at + 1)
  one_group k =
      let q : at ≡ at + groups_before (drop at s) = omega (arith, run_stop s at h k) in
      let z : at - at ≡ 0 = omega arith in
      number_got s at at q h (ap (λ (n : ℕ). sound n (get_or s at 0)) z ∙ sound_alone (get_or s at 0))
      ∙ ap (λ (n : ℕ). got n (at + 1)) (spell_one s at h k)

  pub first_group : 128 ≤ get_or s at 0 → Begun s at 1 128 (get_or s at 0 % 128)
  first_group k =
      let z : at + 0 ≡ at = omega arith in
      let g : get_or s (at + 0) 0 ≡ get_or s at 0 = ap (λ (n : ℕ). get_or s n 0) z in
      let v : 0 + get_or s (at + 0) 0 % 128 * 1 ≡ get_or s at 0 % 128 = omega (arith, g) in
      subst (λ (n : ℕ). Begun s at 1 128 n) v (group_more (begun s at) (omega arith) (omega (arith, g)))
