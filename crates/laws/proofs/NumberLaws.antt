-- Laws on the definitions of one number. Assumes nothing.
use mathlib.Core.Path.{◌≡◌, refl, ap, sym, subst, ◌∙◌}
use mathlib.Core.List.{List, [], ◌∷◌}
use Prim.Native.Nat.{ℕ, suc, ◌+◌, ◌-◌, ◌*◌, ◌%◌, ◌^◌, ◌≤◌, ◌<◌}
use native.Mathlib.Numerals.{add-one}
use native.Mathlib.Omega.{arith}
use borrow.Author.Tests.{lt-ltb, le-ltb, ne_eqb, eqb-true, eqb-false, leb-true, ltb-true}
use native.Mathlib.Nat.{pow-succ', pow-le-pow_right, one-mul}
use lib.Pow.{shl_exact}
use native.Mathlib.Decide.{dec_lt}
use mathlib.Core.Bool.{Bool, true, false, cond}
use lib.Dec.{ltb, leb, eqb, lit<}
use lib.ListN.{length, drop, get_or, drop_of_length-le, length-drop}
use lib.Seq.{drop-cons, slice, slice-cons, slice_empty, get_or-drop}
use Rattle.rules.specs.Reasons.{table_ends, bad_number}
use Rattle.rules.specs.Numbers.{groups_before, groups_value, sound, number_at, read_number, in_range, ranged}
use Rattle.basics.specs.Readings.{Reading, got, bad, then}

module _ (s : List ℕ) (i : ℕ) where
  pub run_end : length s ≤ i → groups_before (drop i s) ≡ 0
  unfolding groups_before
  run_end h = rw (drop_of_length-le s h)

  pub run_stop : i < length s → get_or s i 0 < 128 → groups_before (drop i s) ≡ 0
  unfolding groups_before
  run_stop h b = rw (drop-cons s i 0 h, lt-ltb _ _ b)

  pub run_more : i < length s → 128 ≤ get_or s i 0 → groups_before (drop i s) ≡ groups_before (drop (i + 1) s) + 1
  unfolding groups_before
  run_more h b = rw (drop-cons s i 0 h, le-ltb _ _ b, add-one, add-one)

-- the groups from i on stand for the one at i and 128 times the rest
module _ (s : List ℕ) (e : ℕ) (h : e < length s) where
  pub spell_one : get_or s e 0 < 128 → groups_value (slice e (e + 1) s) ≡ get_or s e 0
  unfolding groups_value
  spell_one b =
      let q : slice (suc e) (e + 1) s ≡ [] = subst (λ (n : ℕ). slice n (e + 1) s ≡ []) (add-one e) (slice_empty (e + 1) s) in
      ap groups_value (slice-cons e (e + 1) s 0 (omega arith) (omega arith)) ∙ omega (arith, ap groups_value q)

  pub spell_prev : (i : ℕ) → 0 < i → i ≤ e → groups_value (slice (i - 1) (e + 1) s) ≡ get_or s (i - 1) 0 % 128 + 128 * groups_value (slice i (e + 1) s)
  unfolding groups_value
  spell_prev i p q =
      let x : suc (i - 1) ≡ i = omega arith in
      ap groups_value (slice-cons (i - 1) (e + 1) s 0 (omega arith) (omega arith))
      ∙ ap (λ (n : ℕ). get_or s (i - 1) 0 % 128 + 128 * groups_value (slice n (e + 1) s)) x

-- what has n groups of room below 64 bits
pub room : (n v x : ℕ) → v < 2 * 128 ^ n → x < 128 → v * 128 + x < 2 * 128 ^ suc n
room n v x h k = omega (arith, pow-succ' 128 n)

pub room_fits : (n v x : ℕ) → n < 9 → v < 2 * 128 ^ n → x < 128 → v * 128 + x < 2 ^ 64
room_fits n v x l h k = omega (arith, room n v x h k, pow-le-pow_right {n = 128} (lit< tt) l)

-- a sound form leaves room: fewer than ten groups, or ten of which the last is at most 1
sound_big : (k b : ℕ) (p q : Bool) → eqb b 0 ≡ p → eqb k 9 ≡ q → 9 ≤ k → sound k b ≡ true → (k ≡ 9) × (b ≤ 1)
unfolding sound
sound_big k b true q eb ek l h =
    let z : eqb k 0 ≡ false = ne_eqb k 0 (omega arith) in
    absurd (eqb-false 0 0 (sym (rw (z, eb) at h)) refl)
sound_big k b false true eb ek l h =
    let z : eqb k 0 ≡ false = ne_eqb k 0 (omega arith) in
    let y : ltb k 9 ≡ false = le-ltb k 9 l in
    (eqb-true k 9 ek, leb-true b 1 (rw (z, eb, y, ek) at h))
sound_big k b false false eb ek l h =
    let z : eqb k 0 ≡ false = ne_eqb k 0 (omega arith) in
    let y : ltb k 9 ≡ false = le-ltb k 9 l in
    absurd (eqb-false 0 0 (sym (rw (z, eb, y, ek) at h)) refl)

pub sound_room : (k b : ℕ) → sound k b ≡ true → b < 128 → (k ≤ 9) × (b < 2 * 128 ^ (9 - k))
sound_room k b h u = go (dec_lt k 9)
  where
    go : Dec (k < 9) → (k ≤ 9) × (b < 2 * 128 ^ (9 - k))
    go (yes l) =
        let j : 1 ≤ 9 - k = omega arith in
        (omega arith, omega (arith, pow-le-pow_right {n = 128} (lit< tt) j))
    go (no l) =
        let w : (k ≡ 9) × (b ≤ 1) = sound_big k b (eqb b 0) (eqb k 9) refl refl (omega arith) h in
        let j : 0 ≤ 9 - k = omega arith in
        (omega arith, omega (arith, pow-le-pow_right {n = 128} (lit< tt) j))

-- what follows the bytes with the top bit set has none
pub run_below : (l : List ℕ) → groups_before l < length l → get_or l (groups_before l) 0 < 128
unfolding groups_before
run_below [] h = omega arith
run_below (b ∷ bs) h = go (ltb b 128) refl (run_below bs) h
  where
    go : (t : Bool) → ltb b 128 ≡ t → (groups_before bs < length bs → get_or bs (groups_before bs) 0 < 128) → cond t 0 (suc (groups_before bs)) < length (b ∷ bs) → get_or (b ∷ bs) (cond t 0 (suc (groups_before bs))) 0 < 128
    go true e r h = ltb-true b 128 e
    go false e r h = r (omega arith)

-- the three answers at a place, by where the last group stands
module _ (s : List ℕ) (at e : ℕ) (q : e ≡ at + groups_before (drop at s)) where
  pub last_below : e < length s → get_or s e 0 < 128
  last_below h =
      let l : groups_before (drop at s) < length (drop at s) = rw (length-drop at s) (omega arith) in
      rw (q, ← get_or-drop at s (groups_before (drop at s)) 0) (run_below (drop at s) l)

  pub number_ends : length s ≤ e → read_number s at ≡ bad table_ends at
  unfolding number_at
  number_ends h = rw (← q, le-ltb e (length s) h)

  pub number_long : e < length s → sound (e - at) (get_or s e 0) ≡ false → read_number s at ≡ bad bad_number at
  unfolding number_at
  number_long h t =
      let k : groups_before (drop at s) ≡ e - at = omega arith in
      rw (← q, lt-ltb e (length s) h, k, t)

  pub number_got : e < length s → sound (e - at) (get_or s e 0) ≡ true → read_number s at ≡ got (groups_value (slice at (e + 1) s)) (e + 1)
  unfolding number_at
  number_got h t =
      let k : groups_before (drop at s) ≡ e - at = omega arith in
      rw (← q, lt-ltb e (length s) h, k, t)

-- a number that was read lies in its range
in_range_got : (lo hi why at x y : ℕ) {v next : ℕ} (s t : Bool) → leb lo x ≡ s → leb x hi ≡ t → in_range lo hi why at x y ≡ got v next → (lo ≤ v) × (v ≤ hi)
unfolding in_range
in_range_got lo hi why at x y {v} {next} true true e f h =
    let g : got x y ≡ got v next = rw (e, f) at h in
    let q : x ≡ v = cc in
    (omega (arith, leb-true lo x e), omega (arith, leb-true x hi f))
in_range_got lo hi why at x y {v} {next} true false e f h =
    let g : bad why at ≡ got v next = rw (e, f) at h in
    let z : ◌≡◌ {A = ℕ} 0 1 = cc in
    omega arith
in_range_got lo hi why at x y {v} {next} false t e f h =
    let g : bad why at ≡ got v next = rw e at h in
    let z : ◌≡◌ {A = ℕ} 0 1 = cc in
    omega arith

after_got : (lo hi why at : ℕ) {v next : ℕ} (o : Reading ℕ) → then o (in_range lo hi why at) ≡ got v next → (lo ≤ v) × (v ≤ hi)
after_got lo hi why at (got x y) h = in_range_got lo hi why at x y (leb lo x) (leb x hi) refl refl h
after_got lo hi why at (bad x y) h = let z : ◌≡◌ {A = ℕ} 0 1 = cc in omega arith

pub ranged_got : (s : List ℕ) (lo hi why at : ℕ) {v next : ℕ} → ranged s lo hi why at ≡ got v next → (lo ≤ v) × (v ≤ hi)
unfolding ranged
ranged_got s lo hi why at h = after_got lo hi why at (read_number s at) h

-- a bit set by a shift
pub shl_one : (f : ℕ) → f < 64 → (1 * 2 ^ f) % 2 ^ 64 ≡ 2 ^ f
shl_one f h = shl_exact 1 f 64 (lit< tt) (omega arith) ∙ one-mul (2 ^ f)
