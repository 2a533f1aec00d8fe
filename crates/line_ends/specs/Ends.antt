-- Where the lines of a text end. A byte past the end reads as 0.
use Rattle.std.specs.Prelude.{◌&&◌, cond, List, [], ◌∷◌, ◌≢◌, ◌≡◌, ℕ, zero, suc, ◌+◌, ◌≤◌, ◌<◌, eqb, length, get_or, Option, None, Some}

-- How many bytes end an operator's line at a place: one line feed, or a carriage return and a line feed; 0 where neither stands there.
unfoldable pub end_bytes : List ℕ → ℕ → ℕ
end_bytes s at = cond (eqb (get_or s at 0) 10) 1 (cond (eqb (get_or s at 0) 13 && eqb (get_or s (at + 1) 0) 10) 2 0)

-- So many bytes, or none.
abbrev pub some_bytes : ℕ → Option ℕ
some_bytes zero = None
some_bytes (suc n) = Some (suc n)

-- How many bytes come before the first line feed, or before the end.
unfoldable pub feed_at : List ℕ → ℕ
feed_at [] = 0
feed_at (b ∷ bs) = cond (eqb b 10) 0 (suc (feed_at bs))

-- A line feed comes, at a place or after it: no byte up to there has to be tested for being there.
pub record Fed (s : List ℕ) (at : ℕ) : Type 0 where
  pub feed : ℕ
  pub ahead : at ≤ feed
  pub within : feed < length s
  pub ends : get_or s feed 0 ≡ 10

-- Up to `end` there are whole lines, and no line feed after it.
pub record Whole (s : List ℕ) (end : ℕ) : Type 0 where
  pub within : end ≤ length s
  pub fed : (at : ℕ) → at < end → Fed s at
  pub none_after : (i : ℕ) → end ≤ i → get_or s i 0 ≢ 10
