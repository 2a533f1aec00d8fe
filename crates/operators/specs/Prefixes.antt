-- What the code's prefix says.
use Rattle.std.specs.Prelude.{ℕ, ◌≡◌, length}
use Rattle.rules.specs.Tables.{Table}
use Rattle.rules.specs.Progression.{prefix, mth}
use Rattle.rules.specs.Operators.{joined}
use Rattle.facts.specs.Sets.{join_read}
use Rattle.operators.specs.declared.Prefix.{Prefix}

-- The prefix of method k in form f: its joined sets, and its length p.
pub record IsPrefix (f : ℕ) (t : Table) (k : ℕ) (r : Prefix) : Type 0 where
  pub sets : join_read r.join ≡ joined f t (mth k)
  pub count : r.count ≡ length (prefix f t k)
