-- What figures say: the digits of their numbers.
use Prim.Native.Nat.{ℕ, zero, suc, ◌+◌, ◌*◌, ◌/◌, ◌%◌, ◌≤◌, ◌<◌}
use mathlib.Core.Path.{◌≡◌, refl, sym, ap, ◌∙◌}
use mathlib.Core.List.{List, [], ◌∷◌, ◌++◌}
use lib.ListN.{length, take, drop, get_or, length-append, length-take, length-drop}
use lib.Seq.{take_all, drop_at, take-append-le, drop-append-le, drop-cons}
use native.Mathlib.Nat.{mul-suc, le_refl}
use native.Mathlib.Decide.{dec_lt}
use native.Mathlib.Omega.{arith}
use borrow.Author.Tests.{lt-ltb, le-ltb}
use Rattle.template.specs.Sizes.{figure_count}
use Rattle.basics.specs.Lists.{upto}
use Rattle.basics.specs.Texts.{digit, digits, ThreeDigits}
use Rattle.laws.proofs.TextLaws.{digits_one, digits_more}
use Rattle.text.specs.Appends.{Appends}
use Rattle.text.proofs.AppendLaws.{appends_is, appends_less, drop_take}
use Rattle.template.specs.Figures.{Figures, figure}

-- ---- One figure, by the size of its number.

pub figure_one : (n : ℕ) → n < 10 → figure n ≡ (48 + n) ∷ 0 ∷ 0 ∷ 1 ∷ []
unfolding figure
figure_one n h = rw (lt-ltb n 10 h)

pub figure_two : (n : ℕ) → 10 ≤ n → n < 100 → figure n ≡ (48 + n / 10) ∷ (48 + n % 10) ∷ 0 ∷ 2 ∷ []
unfolding figure
figure_two n h k = rw (le-ltb n 10 h, lt-ltb n 100 k)

pub figure_three : (n : ℕ) → 100 ≤ n → figure n ≡ (48 + n / 100) ∷ (48 + n / 10 % 10) ∷ (48 + n % 10) ∷ 3 ∷ []
unfolding figure
figure_three n h = rw (le-ltb n 10 (omega arith), le-ltb n 100 h)

-- What is read from a figure.
record Says (f x : List ℕ) : Type 0 where
  four : length f ≡ 4
  long : get_or f 3 0 ≡ length x
  front : take (get_or f 3 0) f ≡ x
  most : length x ≤ 3

says : (n : ℕ) → ThreeDigits n → Says (figure n) (digits n)
says n h =
    elim (dec_lt n 10) [
      | yes p ↦ rw (figure_one n p, one n p) (record { four = refl; long = refl; front = refl; most = omega arith })
      | no p ↦ elim (dec_lt n 100) [
        | yes q ↦ rw (figure_two n (omega arith) q, two n (omega arith) q) (record { four = refl; long = refl; front = refl; most = omega arith })
        | no q ↦
            let b : n / 10 / 10 ≡ n / 100 = omega arith in
            let e : digits n ≡ (48 + n / 100) ∷ (48 + n / 10 % 10) ∷ (48 + n % 10) ∷ [] =
            digits_more n (omega arith) ∙ ap (λ (l : List ℕ). l ++ digit n) (two (n / 10) (omega arith) (omega arith) ∙ ap (λ (k : ℕ). (48 + k) ∷ (48 + n / 10 % 10) ∷ []) b) in
            rw (figure_three n (omega arith), e) (record { four = refl; long = refl; front = refl; most = omega arith })
      ]
    ]
  where
    one : (n : ℕ) → n < 10 → digits n ≡ (48 + n) ∷ []
    one n h = digits_one n h ∙ ap (λ (k : ℕ). (48 + k) ∷ []) (omega arith)

    two : (n : ℕ) → 10 ≤ n → n < 100 → digits n ≡ (48 + n / 10) ∷ (48 + n % 10) ∷ []
    two n h k = digits_more n h ∙ ap (λ (l : List ℕ). l ++ digit n) (one (n / 10) (omega arith))

figure_four : (n : ℕ) → length (figure n) ≡ 4
figure_four n =
    elim (dec_lt n 10) [
      | yes p ↦ rw (figure_one n p)
      | no p ↦ elim (dec_lt n 100) [
        | yes q ↦ rw (figure_two n (omega arith) q)
        | no q ↦ rw (figure_three n (omega arith))
      ]
    ]

-- ---- One among all.

figures_length : (m : ℕ) → length (upto figure m) ≡ 4 * m
unfolding upto
figures_length zero = refl
figures_length (suc m) = length-append (upto figure m) (figure m) ∙ rw (figures_length m, figure_four m, mul-suc) (omega arith)

among : (m n : ℕ) → n < m → take 4 (drop (4 * n) (upto figure m)) ≡ figure n
unfolding upto
among zero n h = absurd (omega arith)
among (suc m) n h =
    elim (dec_lt n m) [
      | yes p ↦
          ap (take 4) (drop-append-le (4 * n) (upto figure m) (figure m) (rw (figures_length m) (omega arith)))
          ∙ take-append-le 4 (drop (4 * n) (upto figure m)) (figure m) (rw (length-drop, figures_length m) (omega arith))
          ∙ among m n p
      | no p ↦
          let e : n ≡ m = omega arith in
          rw e (ap (take 4) (drop_at (upto figure m) (figure m) (4 * m) (figures_length m)) ∙ take_all 4 (figure m) (rw (figure_four m) (le_refl 4)))
    ]

pub figures_room : (s : List ℕ) (m : ℕ) → Figures s m → 4 * m ≤ length s
unfolding Figures
figures_room s m h =
    let e : length (take (4 * m) s) ≡ 4 * m = ap length h ∙ figures_length m in
    omega (arith, rw length-take at e)

-- The bytes of s from k on.
four : (s : List ℕ) (k : ℕ) → k + 4 ≤ length s → take 4 (drop k s) ≡ get_or s k 0 ∷ get_or s (k + 1) 0 ∷ get_or s (k + 2) 0 ∷ get_or s (k + 3) 0 ∷ []
four s k h =
    let a : k + 1 ≡ suc k = omega arith in
    let b : k + 2 ≡ suc (suc k) = omega arith in
    let c : k + 3 ≡ suc (suc (suc k)) = omega arith in
    rw (a, b, c, drop-cons s k 0 (omega arith), drop-cons s (suc k) 0 (omega arith), drop-cons s (suc (suc k)) 0 (omega arith), drop-cons s (suc (suc (suc k))) 0 (omega arith))

module _ (s : List ℕ) (n : ℕ) (h : Figures s figure_count) (p : n < figure_count) where
  -- The four bytes of the figure of n.
  read : get_or s (n * 4) 0 ∷ get_or s (n * 4 + 1) 0 ∷ get_or s (n * 4 + 2) 0 ∷ get_or s (n * 4 + 3) 0 ∷ [] ≡ figure n
  unfolding Figures
  read =
      let e : n * 4 ≡ 4 * n = omega arith in
      let room = figures_room s figure_count h in
      sym (four s (n * 4) (omega arith))
      ∙ ap (λ (k : ℕ). take 4 (drop k s)) e
      ∙ sym (drop_take s (4 * n) 4 (4 * figure_count) (omega arith) (omega arith))
      ∙ ap (λ (l : List ℕ). take 4 (drop (4 * n) l)) h
      ∙ among figure_count n p

  pub figure_size : get_or s (n * 4 + 3) 0 ≤ 3
  figure_size =
      let f = says n (omega arith) in
      let e : get_or s (n * 4 + 3) 0 ≡ get_or (figure n) 3 0 = ap (λ (l : List ℕ). get_or l 3 0) read in
      omega (arith, f.long, f.most)

  -- A number, written from its figure.
  pub figure_appends : {o new : List ℕ} {at r : ℕ} → at ≤ length o
      → Appends o at (get_or s (n * 4) 0 ∷ get_or s (n * 4 + 1) 0 ∷ get_or s (n * 4 + 2) 0 ∷ get_or s (n * 4 + 3) 0 ∷ []) new r
      → Appends o at (digits n) new (at + get_or s (n * 4 + 3) 0)
  figure_appends {o} {new} {at} {r} room w =
      let f = says n (omega arith) in
      let e : get_or s (n * 4 + 3) 0 ≡ get_or (figure n) 3 0 = ap (λ (l : List ℕ). get_or l 3 0) read in
      let v : Appends o at (figure n) new r = appends_is (sym read) w in
      let k : get_or (figure n) 3 0 ≤ length (figure n) = omega (arith, f.long, f.most, f.four) in
      rw e (appends_is (sym f.front) (appends_less (get_or (figure n) 3 0) room k v))
