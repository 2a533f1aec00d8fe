-- A verdict alone measures the step list.
use Prim.Native.Nat.{ℕ, ◌*◌}
use mathlib.Core.Path.{◌≡◌, sym, ap, ◌∙◌}
use mathlib.Core.List.{List}
use Rattle.basics.specs.Answers.{Answer, after, length_of}
use Rattle.rules.specs.Checks.{Tally}
use Rattle.rules.specs.Refusals.{room_of, check_plan, expand_plan}
use Rattle.theorems.proofs.Expansion.{expansion_measured}

pub measured : (b f : ℕ) (s plan : List ℕ) (size : ℕ) {v : Answer Tally} {r : Answer ℕ} → r ≡ after v (λ y. room_of size 0 (2 * y.steps)) → v ≡ check_plan b f s plan
    → r ≡ length_of (expand_plan b f s plan size)
measured b f s plan size e d = e ∙ ap (λ (v : Answer Tally). after v (λ y. room_of size 0 (2 * y.steps))) d ∙ sym (expansion_measured _ _ _ _ _)
