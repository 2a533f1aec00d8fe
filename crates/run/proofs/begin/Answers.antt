use mathlib.Core.Path.{◌∙◌}
use mathlib.Core.List.{[], ◌∷◌}
use Prim.Native.Nat.{◌<◌}
use native.Mathlib.Omega.{arith}
use lib.ListN.{length, length-set}
use lib.Seq.{get_or-set_same}
use Rattle.rows.specs.Stacks.{stack_of}
use Rattle.run.proofs.begin.Goals as goal

pub returns : goal.returns
unfolding stack_of
returns c =
    let l : 0 < length c.args.stack.now = omega (arith, c.requires) in
    let e = get_or-set_same c.args.stack.now 0 _ 0 l ∙ c.start_task.ensures in
    let d = c.start_facts.ensures in record { stack_after = (λ i. record { facts = d i; stack = e i ∷ []; operators = 0; steps = 0; cost = 0 }); stack_len = (simp length-set c.requires, record { height = omega arith; operators = omega arith; steps = omega arith; cost = omega arith }) }
