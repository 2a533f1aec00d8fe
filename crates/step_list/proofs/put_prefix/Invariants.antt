use mathlib.Core.Path.{◌≡◌}
use mathlib.Core.List.{map}
use lib.ListN.{take}
use lib.Seq.{sets}
use Rattle.rules.specs.Tables.{method}
use Rattle.rules.specs.Progression.{act}
use Rattle.rules.specs.Checks.{step_bytes}
use Rattle.words.specs.Words.{table_of}
use Rattle.step_list.proofs.put_prefix.Given as goal

abbrev pub invariant-loop-j : goal.invariant-loop-j
invariant-loop-j l =
    l.out ≡ sets l.initial.out l.at (step_bytes (map act (take l.j (method (table_of l.words.all.now) l.k).subs)))
