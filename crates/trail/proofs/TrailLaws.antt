-- One operator marked.
use Prim.Native.Nat.{ℕ, ◌<◌}
use mathlib.Core.Path.{◌≡◌, ◌∙◌}
use mathlib.Core.List.{List}
use native.Mathlib.Omega.{arith}
use lib.ListN.{length, set, length-set}
use lib.Seq.{get_or-set_same, get_or-set_other}
use Rattle.trail.specs.declared.Mark.{Mark}
use Rattle.trail.specs.Trails.{unmarked, Marked}

pub marks : (old : List Mark) (i : ℕ) (x m : Mark) → x ≡ m → i < length old → Marked old i m (set old i x)
marks old i x m e l =
    record {
      size = length-set old i x;
      here = get_or-set_same old i x unmarked l ∙ e;
      kept = λ j k. get_or-set_other old i j x unmarked (λ z. omega arith);
    }
