-- The step list's bytes read back as its steps.
use Prim.Native.Nat.{ℕ, ◌+◌, ◌-◌, ◌*◌, ◌/◌, ◌%◌, ◌<◌}
use mathlib.Core.Path.{◌≡◌, refl, sym, ap, ◌∙◌}
use mathlib.Core.List.{List, [], ◌∷◌}
use native.Mathlib.Omega.{arith}
use borrow.Author.Tests.{lt-ltb, le-ltb}
use Rattle.rules.specs.Limits.{method_words}
use Rattle.rules.specs.Progression.{Step, act, mth}
use Rattle.rules.specs.Checks.{step_bytes}
use Rattle.theorems.specs.StepLists.{step_of, steps_of, Numbered, AllBytes}

pub bytes_small : (xs : List Step) → Numbered xs → AllBytes (step_bytes xs)
unfolding step_bytes
bytes_small [] h = tt
bytes_small (act k ∷ xs) h = (omega arith, (omega (arith, h.0), bytes_small xs h.1))
bytes_small (mth k ∷ xs) h = (omega arith, (omega (arith, h.0), bytes_small xs h.1))

act_back : (k : ℕ) → k < method_words → step_of (k % 256 + 256 * (k / 256)) ≡ act k
act_back k l =
    let e : k % 256 + 256 * (k / 256) ≡ k = omega arith in
    rw (e, lt-ltb k method_words l)

mth_back : (k : ℕ) → step_of ((method_words + k) % 256 + 256 * ((method_words + k) / 256)) ≡ mth k
mth_back k =
    let w = method_words + k in
    let e : w % 256 + 256 * (w / 256) ≡ w = omega arith in
    let d : w - method_words ≡ k = omega arith in
    ap step_of e ∙ rw (le-ltb w method_words (omega arith), d)

pub read_back : (xs : List Step) → Numbered xs → steps_of (step_bytes xs) ≡ xs
unfolding step_bytes steps_of
read_back [] h = refl
read_back (act k ∷ xs) h = λ i. act_back k h.0 i ∷ read_back xs h.1 i
read_back (mth k ∷ xs) h = λ i. mth_back k i ∷ read_back xs h.1 i

pub same_bytes : (xs ys : List Step) → Numbered xs → Numbered ys → step_bytes xs ≡ step_bytes ys → xs ≡ ys
same_bytes xs ys h k e = sym (read_back xs h) ∙ ap steps_of e ∙ read_back ys k
