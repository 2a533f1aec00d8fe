-- Writing by chunks that reach over the end of what is asked.
use Prim.Native.Nat.{ℕ, ◌+◌, ◌≤◌}
use mathlib.Core.Path.{◌≡◌, sym, ap, ◌∙◌}
use mathlib.Core.List.{List, [], ◌∷◌, ◌++◌, append-nil}
use lib.ListN.{length, take, drop, set, length-set, length-drop, drop_of_length-le}
use lib.Seq.{sets, sets-eq, drop-drop, take-take, take-add, length-take-le}
use native.Mathlib.Omega.{arith}
use Rattle.text.specs.Appends.{Appends}
use Rattle.text.proofs.AppendLaws.{◌▸◌, appends_is, appends_less, appends_sets, appends_at}

-- w bytes of s, by way of an array of w bytes.
pub chunk_appends : (o s n c₀ c : List ℕ) (at k w d : ℕ) → c ≡ sets c₀ 0 (take d (drop k s)) → n ≡ sets o at c → length n ≡ length o
    → at + w ≤ length o → k + w ≤ length s → length c₀ ≡ w → d ≡ w → Appends o at (take w (drop k s)) n (at + w)
chunk_appends o s n c₀ c at k w d a b z h p l e =
    let x : List ℕ = take w (drop k s) in
    let lx : length x ≡ w = length-take-le w (drop k s) (rw length-drop (omega arith)) in
    let whole : c ≡ x =
    a ∙ ap (λ (q : ℕ). sets c₀ 0 (take q (drop k s))) e
    ∙ sets-eq x c₀ 0 (omega arith)
    ∙ ap (λ (y : List ℕ). x ++ y) (drop_of_length-le c₀ {i = 0 + length x} (omega arith))
    ∙ append-nil x in
    let g : Appends o at x n (at + length x) = appends_sets o x n at (omega arith) (b ∙ ap (sets o at) whole) z in
    rw lx at g

-- Of the k bytes that are written, n count.
pub part_less : {o m : List ℕ} (s : List ℕ) (at from k n : ℕ) → n ≤ k → from + k ≤ length s → at ≤ length o
    → Appends o at (take k (drop from s)) m (at + k) → Appends o at (take n (drop from s)) m (at + n)
part_less s at from k n p r q w =
    let l : length (take k (drop from s)) ≡ k = length-take-le k (drop from s) (rw length-drop (omega arith)) in
    appends_is (sym (take-take n k (drop from s) p)) (appends_less n q (rw l p) w)

-- k bytes, and then 32 of which 30 count.
pub part_more : {o n m : List ℕ} (s : List ℕ) (at from k : ℕ) → from + k + 32 ≤ length s → at + k ≤ length n
    → Appends o at (take k (drop from s)) n (at + k) → Appends n (at + k) (take 32 (drop (from + k) s)) m (at + k + 32)
    → Appends o at (take (k + 30) (drop from s)) m (at + (k + 30))
part_more s at from k far room w v =
    let e : take (k + 30) (drop from s) ≡ take k (drop from s) ++ take 30 (drop (from + k) s) =
    take-add k 30 (drop from s) ∙ ap (λ (x : List ℕ). take k (drop from s) ++ take 30 x) (drop-drop k from s) in
    let q : at + (k + 30) ≡ at + k + 30 = omega arith in
    rw q (appends_is e (w ▸ part_less s (at + k) (from + k) 32 30 (omega arith) far room v))

pub four_appends : (o : List ℕ) (at a b c d : ℕ) → at + 4 ≤ length o
    → Appends o at (a ∷ b ∷ c ∷ d ∷ []) (set (set (set (set o at a) (at + 1) b) (at + 2) c) (at + 3) d) (at + 4)
four_appends o at a b c d h =
    appends_at o at a (at + 1) (omega arith) (omega arith)
    ▸ appends_at (set o at a) (at + 1) b (at + 2) (simp length-set (omega arith)) (omega arith)
    ▸ appends_at (set (set o at a) (at + 1) b) (at + 2) c (at + 3) (simp length-set (omega arith)) (omega arith)
    ▸ appends_at (set (set (set o at a) (at + 1) b) (at + 2) c) (at + 3) d (at + 4) (simp length-set (omega arith)) (omega arith)
