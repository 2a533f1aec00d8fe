-- How many variables a problem has at most.
use Rattle.std.specs.Prelude.{ℕ, ◌+◌}
use Rattle.rules.specs.Limits.{most_facts, most_bound}

abbrev pub most_variables : ℕ
most_variables = most_facts + 1 + most_bound
