-- Laws of numbers and lines in a plan text.
use Prim.Native.Nat.{ℕ, zero, suc}
use mathlib.Core.Path.{◌≡◌, refl, ap, ◌∙◌}
use mathlib.Core.Bool.{Bool, true, false, ◌&&◌, not}
use mathlib.Core.List.{List, [], ◌∷◌, ◌++◌, append-nil}
use native.Mathlib.Omega.{arith}
use lib.Dec.{T, eqb}
use lib.ListN.{get_or}
use lib.Seq.{append_snoc}
use borrow.Author.Tests.{eqb-true, eq-eqb}
use Rattle.rules.specs.Plans.{is_digit, read, more, line_of, leftover, lines_from}
use Rattle.laws.proofs.TestLaws.{and_l, and_r, and_i, cond_false}

-- A number ends where no digit follows.
pub no_more : (j n c : ℕ) (cs : List ℕ) → T (not (is_digit c)) → more j n (c ∷ cs) ≡ read n (c ∷ cs)
no_more zero n c cs h = refl
no_more (suc j) n c cs h = cond_false (is_digit c) _ _ h

-- No byte is a line feed.
abbrev pub no_feed : List ℕ → Bool
no_feed [] = true
no_feed (c ∷ cs) = not (eqb c 10) && no_feed cs

pub not_feed : (c : ℕ) → T (not (eqb c 10)) → c ≡ 10 → ⊥
not_feed c h e = rw (eq-eqb c 10 e) at h

pub no_feed_at : (ds : List ℕ) → T (no_feed ds) → (i : ℕ) → get_or ds i 0 ≡ 10 → ⊥
no_feed_at [] h i e = omega arith
no_feed_at (d ∷ ds) h zero e = not_feed d (and_l (not (eqb d 10)) (no_feed ds) h) e
no_feed_at (d ∷ ds) h (suc i) e = no_feed_at ds (and_r (not (eqb d 10)) (no_feed ds) h) i e

-- A text has no line feed, or it has a first one.
pub by_feed_lem : {P : Type 0} (ds : List ℕ) → (T (no_feed ds) → P) → ((cs rest : List ℕ) → T (no_feed cs) → ds ≡ cs ++ (10 ∷ rest) → P) → P
by_feed_lem [] f g = f tt
by_feed_lem {P} (d ∷ ds) f g = go (eqb d 10) refl (by_feed_lem {P = P} ds)
  where
    go : (x : Bool) → eqb d 10 ≡ x
        → ((T (no_feed ds) → P) → ((cs rest : List ℕ) → T (no_feed cs) → ds ≡ cs ++ (10 ∷ rest) → P) → P) → P
    go true e later = g [] ds tt (ap (λ (c : ℕ). c ∷ ds) (eqb-true d 10 e))
    go false e later =
        let n : T (not (eqb d 10)) = rw e tt in
        later
        (λ h. f (and_i (not (eqb d 10)) (no_feed ds) n h))
        (λ cs rest h q. g (d ∷ cs) rest (and_i (not (eqb d 10)) (no_feed cs) n h) (ap (λ (l : List ℕ). d ∷ l) q))

-- A line up to its line feed, and what has none.
pub fed : (acc cs ds : List ℕ) → T (no_feed cs) → lines_from acc (cs ++ (10 ∷ ds)) ≡ line_of (acc ++ cs) ∷ lines_from [] ds
fed acc [] ds h = rw append-nil
fed acc (c ∷ cs) ds h =
    cond_false (eqb c 10) _ _ (and_l (not (eqb c 10)) (no_feed cs) h)
    ∙ fed (acc ++ (c ∷ [])) cs ds (and_r (not (eqb c 10)) (no_feed cs) h)
    ∙ ap (λ (l : List ℕ). line_of l ∷ lines_from [] ds) (append_snoc acc c cs)

pub unfed : (acc ds : List ℕ) → T (no_feed ds) → lines_from acc ds ≡ leftover (acc ++ ds)
unfed acc [] h = rw append-nil
unfed acc (c ∷ cs) h =
    cond_false (eqb c 10) _ _ (and_l (not (eqb c 10)) (no_feed cs) h)
    ∙ unfed (acc ++ (c ∷ [])) cs (and_r (not (eqb c 10)) (no_feed cs) h)
    ∙ ap leftover (append_snoc acc c cs)
