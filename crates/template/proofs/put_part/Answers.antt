use mathlib.Core.Path.{refl, ◌∙◌}
use native.Mathlib.Omega.{arith}
use Rattle.template.proofs.ChunkLaws.{part_less, part_more}
use Rattle.template.proofs.put_part.Goals as goal

pub loop-k-init : goal.loop-k-init
loop-k-init c = (omega arith, refl, λ o w. w)

pub loop-k-preserved : goal.loop-k-preserved
loop-k-preserved c =
    let put = c.put_chunk-in-loop-k.ensures in
    let l = c.loop-k in
    let a = c.args in
    (omega arith, put.size ∙ l.invariant.1, λ o w. part_more a.s.now a.at a.from l.k (omega arith) (omega arith) (l.invariant.2 o w) put)

pub returns : goal.returns
returns c =
    let l = c.loop-k in
    let a = c.args in
    let first = part_less a.s.now a.at a.from 32 30 (omega arith) (omega arith) (omega arith) c.put_chunk.ensures in
    record { appends = part_less a.s.now a.at a.from l.k a.n (omega arith) (omega arith) (omega arith) (l.invariant.2 _ first); value = refl }
