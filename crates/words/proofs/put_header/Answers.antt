use mathlib.Core.Path.{ap, ◌∙◌}
use mathlib.Core.List.{List}
use lib.ListN.{set}
use Rattle.facts.specs.Sets.{set_of}
use Rattle.words.specs.Words.{goal_word, header_read}
use Rattle.words.proofs.PutLaws.{put_header}
use Rattle.words.proofs.put_header.Goals as goal

pub returns : goal.returns
returns c =
    let h = c.args.h in
    put_header c.args.words.now (header_read h) c.requires _ (c.put-2.ensures ∙ ap (λ (w : List _). set w goal_word (set_of h.goal)) c.put.ensures)
