-- A line feed that comes, and the ways out of a line's end, for bytes in hand.
use mathlib.Core.Path.{◌≡◌, ap, ◌∙◌}
use mathlib.Core.Bool.{Bool, true, false, ◌&&◌, cond}
use mathlib.Core.List.{List}
use mathlib.Core.Logic.{◌≢◌}
use Prim.Native.Nat.{ℕ, ◌+◌, ◌≤◌, ◌<◌}
use native.Mathlib.Omega.{arith}
use native.Mathlib.Numerals.{add-one}
use lib.Dec.{eqb}
use lib.ListN.{length, get_or, drop}
use lib.Seq.{drop-cons}
use borrow.Author.Tests.{eq-eqb, ne_eqb}
use Rattle.line_ends.specs.Ends.{end_bytes, feed_at, Fed}

-- A line feed comes: the place is inside, and after another byte it comes still.
module _ {s : List ℕ} {at : ℕ} (f : Fed s at) where
  pub fed_inside : at < length s
  fed_inside = omega (arith, f.ahead, f.within)

  module _ {x : ℕ} (e : x ≡ get_or s at 0) where
    pub fed_on : x ≢ 10 → (q : ℕ) → q ≡ at + 1 → Fed s q
    fed_on n q o =
        let d : at ≢ f.feed = λ h. n (e ∙ ap (λ (i : ℕ). get_or s i 0) h ∙ f.ends) in
        record { feed = f.feed; ahead = omega (arith, f.ahead, d, o); within = f.within; ends = f.ends }

-- The ways out of a line's end, by whether a line feed stands at its place, and whether a carriage return does with a line feed after it.
module _ (s : List ℕ) (at : ℕ) {feed : Bool} (ef : feed ≡ eqb (get_or s at 0) 10) where
  pub end_feed : feed ≡ true → 1 ≡ end_bytes s at
  unfolding end_bytes
  end_feed h = rw (← ef, h)

  module _ (h : feed ≡ false) {both : Bool} (eb : both ≡ (eqb (get_or s at 0) 13 && eqb (get_or s (at + 1) 0) 10)) where
    pub end_none : both ≡ false → 0 ≡ end_bytes s at
    unfolding end_bytes
    end_none g = rw (← ef, h, ← eb, g)

    pub end_both : both ≡ true → 2 ≡ end_bytes s at
    unfolding end_bytes
    end_both g = rw (← ef, h, ← eb, g)

-- A line's end has at most two bytes.
pub end_most : (s : List ℕ) (at : ℕ) → end_bytes s at ≤ 2
unfolding end_bytes
end_most s at = go (eqb (get_or s at 0) 10) (eqb (get_or s at 0) 13 && eqb (get_or s (at + 1) 0) 10)
  where
    go : (x y : Bool) → cond x 1 (cond y 2 0) ≤ 2
    go true y = omega arith
    go false true = omega arith
    go false false = omega arith

-- The line feed from a place on.
module _ (s : List ℕ) (i : ℕ) where
  pub feed_stop : i < length s → get_or s i 0 ≡ 10 → feed_at (drop i s) ≡ 0
  unfolding feed_at
  feed_stop h b = rw (drop-cons s i 0 h, eq-eqb _ _ b)

  pub feed_more : i < length s → get_or s i 0 ≢ 10 → feed_at (drop i s) ≡ feed_at (drop (i + 1) s) + 1
  unfolding feed_at
  feed_more h b = rw (drop-cons s i 0 h, ne_eqb _ _ b, add-one, add-one)
