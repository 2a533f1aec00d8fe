use Rattle.text.proofs.PutLaws.{◌▹◌, puts_is}
use Rattle.listing.proofs.LineLaws.{holds_line}
use Rattle.listing.proofs.put_holds.Goals as goal

pub returns-clause-puts : goal.returns-clause-puts
returns-clause-puts c =
    puts_is (holds_line c.args.k) (c.put_field-next.ensures.puts ▹ c.put.ensures)
