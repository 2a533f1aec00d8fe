use mathlib.Core.Path.{sym, ◌∙◌}
use Prim.Native.Nat.{◌+◌, ◌*◌}
use lib.ListN.{get_or}
use Rattle.words.proofs.ViewLaws.{action_is}
use Rattle.words.proofs.Words.action_at.Goals as goal

pub returns : goal.returns
returns c =
    let e = c.get.ensures in
    let d = c.get-2.ensures in
    let g = c.get-3.ensures in
    (λ i. record { needs = e i; adds = d i; dels = g i; cost = get_or c.args.self.all.now (7 + 4 * c.args.k + 3) 0 }) ∙ sym (action_is c.args.self.all.now c.args.k c.requires)
