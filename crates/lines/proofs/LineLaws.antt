-- The ways out of a number and of a line, for bytes in hand.
use Rattle.std.specs.Prelude.{None, Some}
use mathlib.Core.Path.{◌≡◌, sym, ap, ◌∙◌}
use mathlib.Core.Bool.{true, false}
use mathlib.Core.List.{List}
use Prim.Native.Nat.{ℕ, ◌+◌, ◌-◌, ◌*◌}
use lib.ListN.{get_or, drop}
use borrow.Author.Tests.{eq-eqb, ne_eqb}
use mathlib.Core.Logic.{◌≢◌}
use Rattle.rules.specs.Plans.{is_digit}
use Rattle.line_ends.specs.Ends.{end_bytes, feed_at}
use Rattle.lines.specs.Places.{small_at, bracketed, positioned, named, kind_of, operator_at, line_at}
use Rattle.rules.specs.declared.Kind.{Kind}
use Rattle.lines.specs.declared.Line.TheVariants.{Operator, Comment}

module _ (s : List ℕ) (at a : ℕ) (ea : a ≡ get_or s at 0) where
  pub small_none : is_digit a ≡ false → None ≡ small_at s at
  unfolding small_at
  small_none d = rw (← ea, d)

  module _ (d : is_digit a ≡ true) (b : ℕ) (eb : b ≡ get_or s (at + 1) 0) where
    pub small_one : is_digit b ≡ false → Some (a - 48, at + 1) ≡ small_at s at
    unfolding small_at
    small_one e = rw (← ea, d, ← eb, e)

    module _ (e : is_digit b ≡ true) where
      pub small_zero : a ≡ 48 → None ≡ small_at s at
      unfolding small_at
      small_zero z = rw (← ea, d, ← eb, e, eq-eqb a 48 z)

      module _ (z : a ≢ 48) (c : ℕ) (ec : c ≡ get_or s (at + 2) 0) where
        pub small_two : is_digit c ≡ false → Some ((a - 48) * 10 + (b - 48), at + 2) ≡ small_at s at
        unfolding small_at
        small_two f = rw (← ea, d, ← eb, e, ne_eqb a 48 z, ← ec, f)

        pub small_three : is_digit c ≡ true → Some (((a - 48) * 10 + (b - 48)) * 10 + (c - 48), at + 3) ≡ small_at s at
        unfolding small_at
        small_three f = rw (← ea, d, ← eb, e, ne_eqb a 48 z, ← ec, f)

-- The ways out after a position, by its closing bracket y and the bytes of the line's end after it.
module _ (s : List ℕ) (kind : Kind) (number position q y : ℕ) (ey : y ≡ get_or s q 0) where
  pub close_other : y ≢ 41 → None ≡ bracketed s kind number (Some (position, q))
  close_other n = rw (← ey, ne_eqb y 41 n)

  module _ (e : y ≡ 41) {end : ℕ} (ee : end ≡ end_bytes s (q + 1)) where
    pub close_on : end ≡ 0 → None ≡ bracketed s kind number (Some (position, q))
    close_on n = rw (← ey, eq-eqb y 41 e, ← ee, eq-eqb end 0 n)

    pub close_ends : end ≢ 0 → (next : ℕ) → next ≡ q + 1 + end → Some (Operator (record { kind = kind; number = number; position = position }) next) ≡ bracketed s kind number (Some (position, q))
    close_ends n next o = rw (← ey, eq-eqb y 41 e, ← ee, ne_eqb end 0 n, ← o)

-- The ways out of an operator, by the letter k.
module _ (s : List ℕ) (at k : ℕ) (ek : k ≡ get_or s (at + 1) 0) where
  pub no_kind : kind_of k ≡ None → None ≡ operator_at s at
  unfolding operator_at
  no_kind h = sym (ap (named s (at + 2)) (ap kind_of (sym ek) ∙ h))

  module _ {kind : Kind} (h : kind_of k ≡ Some kind) where
    pub after_kind : operator_at s at ≡ positioned s kind (small_at s (at + 2))
    unfolding operator_at
    after_kind = ap (named s (at + 2)) (ap kind_of (sym ek) ∙ h)

-- The ways out of a line by its first byte.
module _ (s : List ℕ) (at c : ℕ) (ec : c ≡ get_or s at 0) where
  pub at_operator : c ≡ 40 → operator_at s at ≡ line_at s at
  unfolding line_at
  at_operator h = rw (← ec, eq-eqb c 40 h)

  module _ (h : c ≢ 40) where
    pub at_other : c ≢ 59 → None ≡ line_at s at
    unfolding line_at
    at_other g = rw (← ec, ne_eqb c 40 h, ne_eqb c 59 g)

    pub at_comment : c ≡ 59 → (e : ℕ) → e ≡ at + feed_at (drop at s) → Some (Comment (e + 1)) ≡ line_at s at
    unfolding line_at
    at_comment g e q = rw (← ec, ne_eqb c 40 h, eq-eqb c 59 g, ← q)
