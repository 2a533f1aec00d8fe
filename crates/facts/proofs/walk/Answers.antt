use mathlib.Core.Path.{sym, ap, ap₂, ◌∙◌}
use Prim.Native.Nat.{ℕ}
use lib.Bits.{and_zero_l}
use lib.Count.{count_trailing_zeros, trailing_of_zero}
use borrow.Author.Tests.{le-ltb}
use mathlib.Core.Bool.{Bool, cond}
use mathlib.Core.List.{[], ◌∷◌}
use Rattle.rules.specs.Facts.{members_of}
use Rattle.laws.proofs.MemberLaws.{past, first, members_lowest}
use Rattle.facts.specs.Sets.{set_of}
use Rattle.facts.proofs.walk.Goals as goal

pub returns-then-bits-eq0-clause-members : goal.returns-then-bits-eq0-clause-members
returns-then-bits-eq0-clause-members c = λ (n : ℕ) h.
    let none = c.if-bits-eq0.true in
    let rest = ap past none ∙ and_zero_l 0 ∙ sym none in
    let all = members_lowest n 64 _ h ∙ ap₂ (first n) (ap (count_trailing_zeros 64) none ∙ trailing_of_zero 64) (ap (members_of n) rest) in
    sym (all ∙ ap (λ (b : Bool). cond b (64 ∷ members_of n (set_of c.args.s)) []) (le-ltb 64 n h))

pub returns-clause-members : goal.returns-clause-members
returns-clause-members c = λ (n : ℕ) h. sym (members_lowest n 64 (set_of c.args.s) h)
