use mathlib.Core.Path.{sym, ap, ◌∙◌}
use Rattle.replies.specs.Findings.{found_of}
use Rattle.finding.proofs.FoundLaws.{plan_put, refusal_put}
use Rattle.finding.proofs.put_text.Goals as goal

pub returns-in-Ok : goal.returns-in-Ok
returns-in-Ok c =
    let f = c.find.ensures in
    let put = plan_put c.args.input.now c.args.out.now _ f.out_after _ c.requires (sym (ap found_of c.in-Ok.is) ∙ f.result_value) in
    record { appends = put.0; upper_bound = put.1 }

pub returns-in-Err-clause-appends : goal.returns-in-Err-clause-appends
returns-in-Err-clause-appends c =
    let f = c.find.ensures in
    refusal_put c.args.input.now c.args.out.now _ f.out_after (sym (ap found_of c.in-Err.is) ∙ f.result_value) c.refused.ensures.appends
