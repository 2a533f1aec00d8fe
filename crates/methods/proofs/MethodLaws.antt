-- A method's words that are stored, and methods that were read.
use mathlib.Core.Path.{◌≡◌, refl, ap, sym, ◌∙◌}
use mathlib.Core.List.{List, [], ◌∷◌}
use Prim.Native.Nat.{ℕ, ◌+◌, ◌*◌, ◌≤◌, ◌<◌}
use native.Mathlib.Nat.{add-zero}
use native.Mathlib.Numerals.{towards_suc}
use native.Mathlib.Omega.{arith}
use lib.ListN.{length, get_or, take, set}
use lib.Dec.{lit<}
use lib.Seq.{sets, get_or-set_same}
use Rattle.rules.specs.Reasons.{out_of_range, not_there}
use Rattle.rules.specs.Limits.{most_subtasks}
use Rattle.basics.specs.Readings.{got, then, many}
use Rattle.rules.specs.Numbers.{ranged}
use Rattle.basics.specs.Lists.{rows}
use Rattle.words.specs.Words.{cell_of, method_at, method_of, per_method, first_method}
use Rattle.rules.specs.Tables.{Method, no_method, read_method}
use Rattle.laws.proofs.StoreLaws.{held, kept, below, kept_less}
use Rattle.laws.proofs.ListLaws.{rows_length, rows_at, rows_same}
use Rattle.laws.proofs.NumberLaws.{ranged_got}
use Rattle.laws.proofs.TableLaws.{each, many_all}
use Rattle.std.proofs.Common.{Result, Ok, Err}
use Rattle.basics.specs.declared.Refusal.{Refusal}
use Rattle.basics.specs.Readings.{onward_of}

-- A word that is stored after j others.
pub cell_stored : (w : List ℕ) (b j v : ℕ) → b + j < length w → cell_of b (set w (b + j) v) j ≡ v
cell_stored w b j v h = get_or-set_same w (b + j) v 0 h

pub cell_kept : (w w' : List ℕ) (b k : ℕ) → take (b + k) w' ≡ take (b + k) w → (j : ℕ) → j < k → cell_of b w' j ≡ cell_of b w j
cell_kept w w' b k q j l = below w w' (b + k) q (b + j) (omega arith)

-- A method's head and count that are stored, under what keeps them.
pub put_method : (w w' : List ℕ) (b head n : ℕ) → b + 2 ≤ length w → take (b + 2) w' ≡ take (b + 2) (set (set w b head) (b + 1) n) → (take b w' ≡ take b w) × (method_at w' b ≡ record { head = head; subs = rows (cell_of (b + 2) w') n })
put_method w w' b head n h q =
    let vs : List ℕ = head ∷ n ∷ [] in
    let v : List ℕ = set (set w b head) (b + 1) n in
    let e : v ≡ sets w b vs = simp towards_suc in
    let at : (i : ℕ) → i < 2 → get_or w' (b + i) 0 ≡ get_or vs i 0 = λ i k. below v w' (b + 2) q (b + i) (omega arith) ∙ ap (λ (x : List ℕ). get_or x (b + i) 0) e ∙ held w vs b h i k in
    let at0 : get_or w' b 0 ≡ head = ap (λ (x : ℕ). get_or w' x 0) (sym (add-zero b)) ∙ at 0 (lit< tt) in
    let at1 : get_or w' (b + 1) 0 ≡ n = at 1 (lit< tt) in (
      kept_less v w' b (b + 2) (omega arith) q ∙ ap (take b) e ∙ kept w vs b h,
      λ i. record { head = at0 i; subs = rows (cell_of (b + 2) w') (at1 i) },
    )

-- A method that was read has at most eight subtasks.
few : (s : List ℕ) (lo hi at : ℕ) (m : Method) (n : ℕ) → read_method s lo hi at ≡ got m n → length m.subs ≤ most_subtasks
unfolding read_method
few s lo hi at m n e =
    each (ranged s lo hi not_there at) _ e λ head p1 e1 g1.
    each (ranged s 0 most_subtasks out_of_range p1) _ g1 λ c p2 e2 g2.
    each (many (ranged s 0 hi not_there) c p2) _ g2 λ subs p3 e3 g3.
    let q : record { head = head; subs = subs } ≡ m = cc in
    let r = many_all (ranged s 0 hi not_there) p2 (λ x. x ≤ hi) 0 (λ at x n e. (ranged_got _ _ _ _ _ e).1) c e3 in
    omega (arith, r.0, (ranged_got _ _ _ _ _ e2).1, ap (λ (x : Method). length x.subs) q)

-- The methods before the k-th were read and are kept.
pub method_kept : (s : List ℕ) (lo hi from : ℕ) (w w' : List ℕ) (k : ℕ) {at : ℕ} → many (read_method s lo hi) k from ≡ got (rows (method_of w) k) at → take (first_method + per_method * k) w' ≡ take (first_method + per_method * k) w → (j : ℕ) → j < k → method_of w' j ≡ method_of w j
method_kept s lo hi from w w' k e q j l =
    let b : ℕ = first_method + per_method * j in
    let n : ℕ = get_or w (b + 1) 0 in
    let at : (i : ℕ) → i < first_method + per_method * k → get_or w' i 0 ≡ get_or w i 0 = below w w' (first_method + per_method * k) q in
    let f : length (get_or (rows (method_of w) k) j no_method).subs ≤ most_subtasks = (many_all (read_method s lo hi) from (λ m. length m.subs ≤ most_subtasks) no_method (few s lo hi) k e).1 j l in
    let g : length (get_or (rows (method_of w) k) j no_method).subs ≡ n = ap (λ (m : Method). length m.subs) (rows_at (method_of w) no_method k j l) ∙ rows_length (cell_of (b + 2) w) n in
    let c : rows (cell_of (b + 2) w') n ≡ rows (cell_of (b + 2) w) n = rows_same (cell_of (b + 2) w') (cell_of (b + 2) w) n (λ i h. at (b + 2 + i) (omega arith)) in
    let d : rows (cell_of (b + 2) w') (get_or w' (b + 1) 0) ≡ rows (cell_of (b + 2) w) n = ap (rows (cell_of (b + 2) w')) (at (b + 1) (omega arith)) ∙ c in
    λ i. record { head = at b (omega arith) i; subs = d i }

-- What a step says, carried on.
step_map : {A B : Type 0} (f : A → B) (r : Result ℕ Refusal) (a : A) → then (onward_of r a) (λ x at. got (f x) at) ≡ onward_of r (f a)
step_map f (Ok at) a = refl
step_map f (Err e) a = refl

pub method_got : (s : List ℕ) (lo hi at : ℕ) {head n next from : ℕ} (r : Result ℕ Refusal) (xs : List ℕ) → ranged s lo hi not_there at ≡ got head next → ranged s 0 most_subtasks out_of_range next ≡ got n from → onward_of r xs ≡ many (ranged s 0 hi not_there) n from → read_method s lo hi at ≡ onward_of r (record { head = head; subs = xs })
unfolding read_method
method_got s lo hi at {head} r xs e f g = rw (e, f, ← g) (step_map {B = Method} (λ ys. record { head = head; subs = ys }) r xs)
