-- Laws of tests.
use mathlib.Core.Path.{◌≡◌, refl}
use mathlib.Core.Bool.{Bool, true, false, ◌&&◌, not, cond}
use lib.Dec.{T}

pub and_l : (a b : Bool) → T (a && b) → T a
and_l true b h = tt
and_l false b h = h

pub and_r : (a b : Bool) → T (a && b) → T b
and_r true b h = h
and_r false b h = absurd h

pub and_i : (a b : Bool) → T a → T b → T (a && b)
and_i true b h k = k
and_i false b h k = h

pub not_and_not : (a b : Bool) → T (not (a && not b)) → T a → T b
not_and_not true true h k = tt
not_and_not true false h k = h
not_and_not false b h k = absurd k

pub cond_true : {A : Type 0} (x : Bool) (a b : A) → T x → cond x a b ≡ a
cond_true true a b h = refl
cond_true false a b h = absurd h

pub cond_false : {A : Type 0} (x : Bool) (a b : A) → T (not x) → cond x a b ≡ b
cond_false true a b h = absurd h
cond_false false a b h = refl
