-- An operator's step, told by numbers.
use Rattle.std.specs.Prelude.{ℕ, zero, suc}
use Rattle.rules.specs.Progression.{Step, act, mth}

-- Kind 0 is an action, any other a method.
abbrev pub kind_step : ℕ → ℕ → Step
kind_step zero k = act k
kind_step (suc n) k = mth k
