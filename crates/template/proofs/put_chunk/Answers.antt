use Prim.Native.Nat.{◌+◌, ◌-◌}
use mathlib.Core.Path.{refl}
use native.Mathlib.Omega.{arith}
use Rattle.template.proofs.ChunkLaws.{chunk_appends}
use Rattle.template.proofs.put_chunk.Goals as goal

pub returns : goal.returns
returns c =
    let first = c.copy.ensures in
    let then = c.copy-2.ensures in
    let a = c.args in
    chunk_appends _ a.s.now _ _ _ _ a.from 32 (a.from + 32 - a.from) first.0 then.0 then.1 (omega arith) (omega arith) refl (omega arith)
