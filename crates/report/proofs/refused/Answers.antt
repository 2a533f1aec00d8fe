use native.Mathlib.Omega.{arith}
use Rattle.text.proofs.PutLaws.{appended}
use Rattle.basics.specs.Texts.{bytes, digits}
use Rattle.text.proofs.AppendLaws.{◌▸◌, appends_is}
use Rattle.rules.specs.Programs.{refused_line}
use Rattle.report.proofs.ReportLaws.{three_words}
use Rattle.report.proofs.refused.Goals as goal

pub returns-clause-appends : goal.returns-clause-appends
unfolding refused_line
returns-clause-appends c =
    let a = c.args in
    let first = appended c.put-first.ensures (omega (arith, c.put-first.ensures.next, c.requires)) in
    let feed = appended c.put.ensures (omega (arith, c.put-first.ensures.next, first.size, c.put_word-second.ensures.upper_bound, c.put_word-end.ensures.upper_bound, c.put_word-second.ensures.appends.size, c.put_word-end.ensures.appends.size, c.put.ensures.next, c.requires)) in
    appends_is (three_words (bytes "refused") (digits a.refusal.number) (digits a.refusal.place))
    (first ▸ c.put_word-second.ensures.appends ▸ c.put_word-end.ensures.appends ▸ feed)
