-- What reads one after the other have taken from a reader, whose bytes may be known.
use Prim.Native.Nat.{ℕ, ◌+◌, ◌-◌, ◌≤◌}
use mathlib.Core.Path.{◌≡◌, sym, ap, ◌∙◌}
use mathlib.Core.List.{List, ◌++◌, append_assoc}
use native.Mathlib.Omega.{arith}
use borrow.Rule.Slice.PartMut.{put_mid, post_of, mid_of, same_len_mid}
use Rattle.std.proofs.Math.ListN.{length, take, drop, length-drop}
use Rattle.std.proofs.Math.Seq.{length-take-le, take-append-add}
use Rattle.std.proofs.lemmas.List.{take-append-le}
use Rattle.std.specs.Prelude.{None, Some}
use Rattle.std.specs.Io.KnownBytes.{Consumes}
use Rattle.std.specs.declared.option.Option.{Option}

pub read_more : (old mid new : Option (List ℕ)) (a b : List ℕ) → Consumes old mid a → Consumes mid new b → Consumes old new (a ++ b)
read_more None mid new a b h k = tt
read_more (Some xs) None new a b h k = absurd h
read_more (Some xs) (Some ys) None a b h k = absurd k
read_more (Some xs) (Some ys) (Some zs) a b h k = h ∙ ap (λ (l : List ℕ). a ++ l) k ∙ sym (append_assoc a b zs)

-- The first bytes of a buffer into whose rest from c on a part was read.
pub front_more : (buffer part : List ℕ) (c k n : ℕ) → c ≤ length buffer → n ≤ length part
    → take (c + n) (put_mid c k buffer part) ≡ take c buffer ++ take n part
front_more buffer part c k n h l =
    let e = length-take-le c buffer h in
    ap (λ (m : ℕ). take (m + n) (put_mid c k buffer part)) (sym e)
    ∙ take-append-add (take c buffer) (part ++ post_of c k buffer) n
    ∙ ap (λ (x : List ℕ). take c buffer ++ x) (take-append-le n part (post_of c k buffer) l)

pub front_within : (buffer part : List ℕ) (c n : ℕ) → c ≤ length buffer → n ≤ length part
    → length part ≡ length (mid_of c (length buffer - c) buffer) → c + n ≤ length (put_mid c (length buffer - c) buffer part)
front_within buffer part c n h l e =
    let rest : length buffer - c ≤ length (drop c buffer) = omega (arith, length-drop c buffer) in
    omega (arith, e, same_len_mid c (length buffer - c) buffer part e, length-take-le (length buffer - c) (drop c buffer) rest)
