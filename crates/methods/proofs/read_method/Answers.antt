use Rattle.std.proofs.Common.{rules}
use mathlib.Core.Path.{refl, ap, sym, ◌∙◌}
use native.Mathlib.Omega.{arith}
use Rattle.basics.specs.Readings.{onward_of}
use Rattle.rules.specs.Tables.{read_method}
use Rattle.methods.proofs.MethodLaws.{put_method, method_got}
use Rattle.methods.proofs.read_method.Goals as goal

pub returns-in_err-head : goal.returns-in_err-head
unfolding read_method
returns-in_err-head c = (search rules, refl)

pub returns-in_err-n : goal.returns-in_err-n
unfolding read_method
returns-in_err-n c = (search rules, refl)

pub returns : goal.returns
returns c =
    let a = c.args in
    let sub = c.read_subtasks in
    let head = c.in_ok-head.head in
    let n = c.in_ok-n.n in
    let w = sub.new.words in
    let m = put_method a.words.now w a.b head n (omega arith) sub.ensures.1 in
    let read = method_got a.s.now a.lo a.hi a.at sub.result _ (sym c.in_ok-head.ensures.reading) (sym c.in_ok-n.ensures.reading) sub.ensures.0 in
    (ap (onward_of sub.result) m.1 ∙ sym read, m.0)
