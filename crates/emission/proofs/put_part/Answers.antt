use Prim.Native.Nat.{◌<◌}
use Rattle.rules.specs.Programs.{refused_line}
use Rattle.report.proofs.PartLaws.{only_part, part_says}
use Rattle.emission.proofs.put_part.Goals as goal

pub returns-in-Err-clause-says : goal.returns-in-Err-clause-says
returns-in-Err-clause-says c =
    let line = refused_line c.in-Err.refusal.number c.in-Err.refusal.place in
    let w = c.refused-size in
    let first : c.args.next < 1 = rw c.in-Err.is at c.requires.2 in
    rw c.in-Err.is (part_says (λ _. line) c.args.next 1 w.result w.new.out c.part_of.result c.part_of.ensures (only_part line c.args.next w.result first w.ensures.appends))
