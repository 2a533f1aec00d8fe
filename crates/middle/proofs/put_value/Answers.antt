use Prim.Native.Nat.{ℕ}
use mathlib.Core.Path.{sym, ap}
use mathlib.Core.List.{[], ◌∷◌}
use Rattle.basics.specs.Texts.{digits, line}
use Rattle.text.proofs.PutLaws.{puts_is}
use Rattle.middle.proofs.put_value.Goals as goal

pub returns-clause-puts : goal.returns-clause-puts
returns-clause-puts c =
    puts_is (ap (λ (n : ℕ). line (digits n ∷ [])) (sym c.start_value-value.ensures)) c.put_line.ensures.puts
