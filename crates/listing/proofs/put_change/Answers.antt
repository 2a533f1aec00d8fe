use Rattle.facts.specs.Sets.{set_of}
use Rattle.text.proofs.PutLaws.{◌▹◌, puts_is}
use Rattle.listing.proofs.LineLaws.{change_line}
use Rattle.listing.proofs.put_change.Goals as goal

pub returns-clause-puts : goal.returns-clause-puts
returns-clause-puts c =
    let a = c.args in puts_is (change_line (set_of a.needs) (set_of a.dels) a.k _ _ c.has.ensures c.has-2.ensures) (c.put_field-value.ensures.puts ▹ c.put_either-next.ensures.puts ▹ c.put_either.ensures.puts)
