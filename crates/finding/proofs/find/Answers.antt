use mathlib.Core.Path.{ap, ◌∙◌}
use lib.ListN.{length}
use Rattle.rules.specs.Refusals.{Sought, find_plan, text_found, written}
use Rattle.rules.specs.Programs.{find_input}
use Rattle.basics.specs.Answers.{Answer}
use Rattle.sought.proofs.SearchAnswers.{search_is_find}
use Rattle.replies.specs.Findings.{figures}
use Rattle.finding.proofs.find.Goals as goal

pub returns : goal.returns
unfolding find_input
returns c =
    let a = c.read-asked.ensures in
    let w = c.write.ensures in
    let found = search_is_find _ _ _ _ _ (length c.args.out.now) c.requires
    ∙ (λ i. find_plan (a.numbers.0 i) (a.numbers.1 i) (a.limits.0 i) (a.limits.1 i) (a.table i)) in
    record {
      result_value = w.result_value ∙ ap figures found;
      out_after = w.text_after ∙ ap (λ (x : Answer Sought). written c.args.out.now 0 (text_found x)) found;
    }
