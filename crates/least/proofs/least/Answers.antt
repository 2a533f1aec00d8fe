use mathlib.Core.Path.{sym, ◌∙◌}
use native.Mathlib.Omega.{arith}
use Rattle.rules.specs.Limits.{most_tasks}
use Rattle.laws.proofs.RoundLaws.{settled_least}
use Rattle.words.specs.Words.{table_of}
use Rattle.least.proofs.BoundLaws.{ones_kept}
use Rattle.least.proofs.least.Goals as goal

pub settle-requires : goal.settle-requires
settle-requires c =
    let n = c.action_count in ones_kept c.args.form (table_of c.args.words.all.now) most_tasks n.result _ n.ensures
    (omega (arith, n.ensures, c.args.words.held.valid.head.actions, c.args.words.held.valid.head.tasks)) (omega (arith, c.args.words.held.valid.head.actions, c.args.words.held.valid.head.tasks)) c.put_ones.ensures

pub returns : goal.returns
returns c =
    let v = c.settle.ensures in
    c.start_bound.ensures ∙ sym (settled_least c.args.form (table_of c.args.words.all.now) _ c.args.words.held.valid v.kept v.settled)
