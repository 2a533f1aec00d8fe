use mathlib.Core.Path.{refl}
use native.Mathlib.Omega.{arith}
use lib.ListN.{length-set}
use Rattle.template.proofs.ChunkLaws.{four_appends}
use Rattle.template.proofs.put_four.Goals as goal

pub bounds-out-second : goal.bounds-out-second
bounds-out-second c = simp length-set (omega arith)

pub bounds-out-third : goal.bounds-out-third
bounds-out-third c = simp length-set (omega arith)

pub bounds-out-fourth : goal.bounds-out-fourth
bounds-out-fourth c = simp length-set (omega arith)

pub returns : goal.returns
returns c = record { appends = four_appends _ _ _ _ _ _ c.requires; value = refl }
