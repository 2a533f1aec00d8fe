-- Room for the parts of a problem's text.
use Rattle.std.specs.Prelude.{ℕ, ◌+◌, ◌*◌}
use Rattle.rules.specs.Limits.{most_section_bytes}
use Rattle.problem.specs.Sizes.{most_variables}
use Rattle.template.specs.Sizes.{margin, step_text_bytes}

-- The sections of the variables; and all before the operators, which are two sections more.
abbrev pub variables_bytes : ℕ
variables_bytes = most_section_bytes * most_variables

abbrev pub front_bytes : ℕ
front_bytes = variables_bytes + 2 * most_section_bytes

-- What the operators of one step need.
abbrev pub step_space : ℕ
step_space = step_text_bytes + margin

-- What is written at a time: room for all that stands before the operators, and then for the operators of five steps.
abbrev pub part_bytes : ℕ
part_bytes = 256 * most_section_bytes
