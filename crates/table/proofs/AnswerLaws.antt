-- What a table that was read leaves in the words.
use mathlib.Core.Path.{◌≡◌}
use mathlib.Core.List.{List}
use Prim.Native.Nat.{ℕ, ◌≤◌}
use lib.ListN.{length}
use Rattle.rules.specs.Tables.{decode}
use Rattle.laws.proofs.TableLaws.{valid}
use Rattle.laws.proofs.AnswerLaws.{via}
use Rattle.words.specs.Words.{table_words, table_of, Held}
use Rattle.std.proofs.Common.{Result, Ok}
use Rattle.basics.specs.declared.Refusal.{Refusal}
use Rattle.basics.specs.Readings.{onward_of}

-- Words into which a table was read hold it.
pub read_held : (s w : List ℕ) (r : Result ℕ Refusal) {at : ℕ} → table_words ≤ length w → onward_of r (table_of w) ≡ decode s → r ≡ Ok at → Held w
read_held s w r {at} h e p = record { size = h; valid = valid s (table_of w) at (via (λ (q : Result ℕ Refusal). onward_of q (table_of w)) e p) }
