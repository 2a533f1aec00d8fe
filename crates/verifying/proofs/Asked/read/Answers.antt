use native.Mathlib.Omega.{arith}
use mathlib.Core.Path.{◌≡◌, ◌∙◌}
use Prim.Native.Nat.{◌+◌, ◌*◌}
use lib.ListN.{take, drop}
use Rattle.rules.specs.Programs.{size_in}
use Rattle.verifying.proofs.Asked.read.Goals as goal

pub returns : goal.returns
unfolding size_in
returns c =
    let s = c.args.input.now in
    let size : c.two_bytes-size.result ≡ size_in s = c.two_bytes-size.ensures.value ∙ (λ i. c.byte.ensures i + 256 * c.byte-2.ensures i) in
    record {
      numbers = (c.byte-3.ensures, c.byte-4.ensures);
      table = c.split-2.ensures.front ∙ (λ i. take (size i) (c.split.ensures.back i));
      plan = c.split-2.ensures.back ∙ (λ i. drop (size i) (c.split.ensures.back i));
      size = omega (arith, size, c.two_bytes-size.ensures.upper_bound);
    }
