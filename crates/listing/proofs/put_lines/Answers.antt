use Rattle.facts.specs.Sets.{set_of}
use native.Mathlib.Omega.{arith}
use mathlib.Core.Path.{◌≡◌, ap, ◌∙◌}
use Rattle.basics.specs.Lists.{upto}
use Rattle.laws.proofs.TextLaws.{upto_more}
use Rattle.text.proofs.PutLaws.{◌▹◌, puts_is, puts_none}
use Rattle.listing.specs.Listings.{line_bytes}
use Rattle.listing.proofs.LineLaws.{list_lines, lines_more}
use Rattle.listing.proofs.put_lines.Goals as goal

pub loop-k-init : goal.loop-k-init
unfolding upto
loop-k-init c = record { puts = puts_none _ _; low = omega arith }

pub loop-k-preserved : goal.loop-k-preserved
loop-k-preserved c =
    record {
      puts = puts_is (upto_more _ _) (c.loop-k.invariant.puts ▹ c.put_line-next.ensures.puts);
      low = omega (arith, c.put_line-next.ensures.upper_bound, lines_more (line_bytes c.args.says) c.loop-k.k);
    }

pub returns-clause-puts : goal.returns-clause-puts
returns-clause-puts c =
    let a = c.args in
    let e : a.n ≡ c.loop-k.k = omega arith in
    puts_is (list_lines a.says a.n (set_of a.set) ∙ ap (upto _) e) c.loop-k.invariant.puts
