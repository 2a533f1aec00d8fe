use Prim.Native.Nat.{ℕ}
use mathlib.Core.Path.{sym}
use lib.ListN.{length-replicate}
use Rattle.parts.specs.Sizes.{part_bytes}
use Rattle.parts.proofs.space.Goals as goal

pub returns : goal.returns
returns c = sym (length-replicate {A = ℕ} part_bytes 0)
