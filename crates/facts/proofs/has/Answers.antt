use Prim.Native.Nat.{ℕ, ◌/◌, ◌^◌}
use mathlib.Core.Path.{ap, sym, ◌∙◌}
use lib.Bits.{and_mask}
use lib.Dec.{eqb}
use Rattle.laws.proofs.SetLaws.{has_bit}
use Rattle.facts.specs.Sets.{set_of}
use Rattle.facts.proofs.has.Goals as goal

pub returns : goal.returns
returns c =
    ap (λ (b : ℕ). eqb b 1) (and_mask (set_of c.args.s / 2 ^ c.args.k) 1) ∙ sym (has_bit (set_of c.args.s) c.args.k)
