-- The limits that document 01 names, each once.
use Rattle.std.specs.Prelude.{ℕ}

-- "F facts (0 to 64); A actions (0 to 255); C abstract tasks (at least 1, A + C at most 256); M methods (0 to 512)".
abbrev pub most_facts : ℕ
most_facts = 64

abbrev pub most_actions : ℕ
most_actions = 255

abbrev pub most_tasks : ℕ
most_tasks = 256

abbrev pub most_methods : ℕ
most_methods = 512

-- "its count n of subtasks (0 to 8)"; "its cost (0 to 65,535)".
abbrev pub most_subtasks : ℕ
most_subtasks = 8

abbrev pub most_cost : ℕ
most_cost = 65535

-- "bound not 1 to 64".
abbrev pub most_bound : ℕ
most_bound = 64

-- "A table is at most 32,768 bytes"; "plan over 65,536 bytes"; "No section is longer than 2,048 bytes".
abbrev pub most_table_bytes : ℕ
most_table_bytes = 32768

abbrev pub most_plan_bytes : ℕ
most_plan_bytes = 65536

abbrev pub most_section_bytes : ℕ
most_section_bytes = 2048

-- Document 02, C-11: "at most L operators (1 to 256), and a budget of operators applied (0 to 1,000,000)".
abbrev pub most_limit : ℕ
most_limit = 256

abbrev pub most_budget : ℕ
most_budget = 1000000

-- "method k as 1,024 + k": the first word of a step list that stands for a method.
abbrev pub method_words : ℕ
method_words = 1024
