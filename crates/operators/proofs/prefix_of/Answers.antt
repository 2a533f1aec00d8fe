use mathlib.Core.Path.{◌≡◌, refl, sym, ap, ◌∙◌, subst}
use Prim.Native.Nat.{◌+◌}
use native.Mathlib.Omega.{arith}
use lib.ListN.{get_or}
use Rattle.rules.specs.Tables.{action, method}
use Rattle.rules.specs.Facts.{Join, join_one}
use Rattle.words.specs.Words.{table_of}
use Rattle.facts.specs.Sets.{join_read}
use Rattle.operators.proofs.PrefixLaws.{Joining, joining_begins, joining_more, joining_stops, joining_ends, plain_prefix, whole_prefix}
use Rattle.operators.proofs.prefix_of.Goals as goal

pub returns-then-form-eq0 : goal.returns-then-form-eq0
returns-then-form-eq0 c = plain_prefix _ _ _ _ c.if-form-eq0.true c.no_join-join.ensures refl

pub loop-count-init : goal.loop-count-init
loop-count-init c =
    let a = c.args in (
      c.width_of-width.ensures,
      c.action_count-actions.ensures,
      subst (λ (j : Join). Joining (table_of a.words.all.now) (method (table_of a.words.all.now) a.k).subs j 0) (sym c.no_join-join.ensures)
          (joining_begins _ _),
    )

pub returns-then-actions-task : goal.returns-then-actions-task
returns-then-actions-task c =
    let l = c.loop-count in
    let w = l.invariant.2 in
    whole_prefix _ _ _ _ c.if-form-eq0.false
    (joining_stops _ _ _ _ w (omega arith) (omega arith))

pub loop-count-preserved : goal.loop-count-preserved
loop-count-preserved c =
    let a = c.args in
    let l = c.loop-count in
    let t = table_of a.words.all.now in
    let tasks = (method t a.k).subs in
    let task = c.subtask-task.ensures in
    let next = joining_more t tasks (join_read l.join) l.count l.invariant.2 (omega arith) (omega arith) in
    let e : join_read c.join_one-join.result ≡ join_one (join_read l.join) (action t (get_or tasks l.count 0)) =
    c.join_one-join.ensures ∙ ap (join_one (join_read l.join)) (c.action_at.ensures ∙ ap (action t) task) in
    (l.invariant.0, l.invariant.1, subst (λ (j : Join). Joining t tasks j (l.count + 1)) (sym e) next)

pub returns : goal.returns
returns c =
    let l = c.loop-count in
    let e : l.count ≡ c.width_of-width.result = omega arith in
    whole_prefix _ _ _ _ c.if-form-eq0.false (rw e at (joining_ends _ _ _ _ l.invariant.2 (omega arith)))
