-- Least bounds compared: of tables that differ in facts, of the two forms, and with the bound of a plan that is accepted.
use Rattle.std.specs.Prelude.{ℕ, ◌+◌, ◌≤◌, ◌≡◌}
use Rattle.rules.specs.Limits.{most_bound}
use Rattle.rules.specs.Tables.{Table}

-- The tables have the same tasks, methods and starting task. Their facts may differ, and what an action needs, changes and costs.
pub record SameStacks (t u : Table) : Type 0 where
  pub actions : t.head.actions ≡ u.head.actions
  pub abstracts : t.head.abstracts ≡ u.head.abstracts
  pub count : t.head.methods ≡ u.head.methods
  pub start : t.head.start ≡ u.head.start
  pub methods : t.methods ≡ u.methods

-- Where form 0 has one form 1 has one, never above it; where both have, form 0's is at most 7 more; and form 0 has one where that
-- keeps within the highest bound.
pub record Compared (plain prefixed : ℕ) : Type 0 where
  pub there : 1 ≤ plain → 1 ≤ prefixed
  pub below : 1 ≤ plain → prefixed ≤ plain
  pub near : 1 ≤ plain → 1 ≤ prefixed → plain ≤ prefixed + 7
  pub back : 1 ≤ prefixed → prefixed + 7 ≤ most_bound → 1 ≤ plain

-- There is a least bound, and the bound is not below it.
pub record Reaches (bound least : ℕ) : Type 0 where
  pub there : 1 ≤ least
  pub enough : least ≤ bound
