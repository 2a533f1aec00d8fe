use Rattle.rules.specs.Sections.{sections_of}
use Rattle.rules.specs.Refusals.{chosen}
use Rattle.words.specs.Words.{table_of}
use Rattle.placing.proofs.SectionCallLaws.{room_told}
use Rattle.placing.proofs.measured.Goals as goal

pub returns : goal.returns
returns c =
    let a = c.args in
    room_told a.size a.at (chosen (sections_of a.bound a.form (table_of a.words.all.now)) a.index) c.put_section.ensures.result_value c.reply_for.ensures
