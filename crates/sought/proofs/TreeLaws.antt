-- All applicable lists of at most l operators from a state, each before its continuations.
use Prim.Native.Nat.{ℕ, zero, suc, ◌≤◌}
use mathlib.Core.Path.{◌≡◌, refl, sym, ap, subst}
use mathlib.Core.Logic.{◌⊎◌, inl, inr}
use mathlib.Core.List.{List, [], ◌∷◌, ◌++◌, map}
use native.Mathlib.Omega.{arith}
use lib.ListN.{length}
use Rattle.basics.specs.Lists.{Among}
use Rattle.rules.specs.Tables.{Table}
use Rattle.rules.specs.Progression.{State}
use Rattle.rules.specs.Operators.{Operator}
use Rattle.rules.specs.Searches.{led, Applicable, Earlier}
use Rattle.rules.specs.Walks.{choices}
use Rattle.sought.proofs.AmongLaws.{Rising, rising_append, rising_map, among_left, among_right, among_append, among_map, map_among}
use Rattle.sought.proofs.ChoiceLaws.{Before, choice_ok, choice_all, choices_rise}

-- Some lists behind an operator.
abbrev pub headed : Operator → List (List Operator) → List (List Operator)
headed o ps = map (λ (p : List Operator). o ∷ p) ps

-- The lists that begin with some operators, each alone or with more behind it.
unfoldable pub trees : ℕ → Table → State → (State → List (List Operator)) → List Operator → List (List Operator)
trees f t s deeper [] = []
trees f t s deeper (o ∷ os) = headed o ([] ∷ deeper (led f t s o)) ++ trees f t s deeper os

-- All of them but the empty list.
unfoldable pub tree : ℕ → ℕ → Table → ℕ → State → List (List Operator)
tree b f t zero s = []
tree b f t (suc l) s = trees f t s (tree b f t l) (choices b f t s)

module _ (b f : ℕ) (t : Table) where
  pub record Sized (l : ℕ) (s : State) (os : List Operator) : Type 0 where
    pub applicable : Applicable b f t s os
    pub short : length os ≤ l

  -- ---- the members

  module _ (l : ℕ) (s : State) where
    -- The lists behind an operator.
    abbrev below : Operator → List (List Operator)
    below o = [] ∷ tree b f t l (led f t s o)

    abbrev from : List Operator → List (List Operator)
    from cs = trees f t s (tree b f t l) cs

    -- A list that begins with one of some operators.
    record Begun (cs os : List Operator) : Type 0 where
      first : Operator
      rest : List Operator
      is : os ≡ first ∷ rest
      chosen : Among first cs
      deeper : Among rest (below first)

    begun : (cs os : List Operator) → Among os (from cs) → Begun cs os
    unfolding trees
    begun [] os m = absurd m
    begun (c ∷ cs) os m = go (among_append os (headed c (below c)) (from cs) m) (λ q. begun cs os q)
      where
        go : Among os (headed c (below c)) ⊎ Among os (from cs) → (Among os (from cs) → Begun cs os) → Begun (c ∷ cs) os
        go (inl q) r =
            let d = map_among (λ (p : List Operator). c ∷ p) os (below c) q in
            record { first = c; rest = d.0; is = d.1; chosen = inl refl; deeper = d.2 }
        go (inr q) r = let z = r q in record { first = z.first; rest = z.rest; is = z.is; chosen = inr z.chosen; deeper = z.deeper }

    ends : (o : Operator) (q cs : List Operator) → Among q (below o) → Among o cs → Among (o ∷ q) (from cs)
    unfolding trees
    ends o q [] d m = m
    ends o q (c ∷ cs) d (inl e) =
        among_left (o ∷ q) (headed c (below c)) (from cs)
        (subst (λ (x : Operator). Among (o ∷ q) (headed x (below x))) e (among_map (λ (p : List Operator). o ∷ p) q (below o) d))
    ends o q (c ∷ cs) d (inr m) = among_right (o ∷ q) (headed c (below c)) (from cs) (ends o q cs d m)

  some_first : (l : ℕ) (s : State) (os : List Operator) → Among os (tree b f t l s) → 1 ≤ length os
  unfolding tree
  some_first zero s os m = absurd m
  some_first (suc l) s os m = let e = ap length (begun l s (choices b f t s) os m).is in omega arith

  none_sized : (l : ℕ) (s : State) (os : List Operator) → os ≡ [] → Sized l s os
  none_sized l s os e = subst (Sized l s) (sym e) (record { applicable = tt; short = omega arith })

  whole_sized : (l : ℕ) (s : State) (os : List Operator) → Among os ([] ∷ tree b f t l s) → Sized l s os
  unfolding tree
  whole_sized zero s os (inl e) = none_sized 0 s os e
  whole_sized zero s os (inr m) = absurd m
  whole_sized (suc l) s os (inl e) = none_sized (suc l) s os e
  whole_sized (suc l) s os (inr m) =
      let q = begun l s (choices b f t s) os m in
      let d = whole_sized l (led f t s q.first) q.rest q.deeper in
      subst (Sized (suc l) s) (sym q.is)
      (record { applicable = (choice_ok b f t s q.first q.chosen, d.applicable); short = omega (arith, d.short) })

  sized_whole : (l : ℕ) (s : State) (os : List Operator) → Sized l s os → Among os ([] ∷ tree b f t l s)
  unfolding tree
  sized_whole zero s [] q = inl refl
  sized_whole (suc l) s [] q = inl refl
  sized_whole zero s (o ∷ os) q = absurd (omega (arith, q.short))
  sized_whole (suc l) s (o ∷ os) q =
      let d = sized_whole l (led f t s o) os (record { applicable = q.applicable.1; short = omega (arith, q.short) }) in
      inr (ends l s o os (choices b f t s) d (choice_all b f t s o q.applicable.0))

  -- ---- the order

  -- The empty list comes before all others.
  with_empty : (l : ℕ) (s : State) → Rising Earlier (tree b f t l s) → Rising Earlier ([] ∷ tree b f t l s)
  with_empty l s r = ((λ y m. go y (some_first l s y m)), r)
    where
      go : (y : List Operator) → 1 ≤ length y → Earlier [] y
      go [] h = absurd (omega arith)
      go (p ∷ ps) h = tt

  module _ (l : ℕ) (s : State) (ih : (s : State) → Rising Earlier (tree b f t l s)) where
    trees_rise : (cs : List Operator) → Rising Before cs → Rising Earlier (from l s cs)
    unfolding trees
    trees_rise [] r = tt
    trees_rise (c ∷ cs) r =
        rising_append Earlier (headed c (below l s c)) (from l s cs)
        (rising_map (λ (p : List Operator). c ∷ p) Earlier Earlier (λ x y q. inr (refl, q)) (below l s c)
        (with_empty l (led f t s c) (ih (led f t s c))))
        (trees_rise cs r.1)
        (λ x y m n. apart x y (map_among (λ (p : List Operator). c ∷ p) x (below l s c) m) (begun l s cs y n))
      where
        apart : (x y : List Operator) → (q : List Operator) × (x ≡ c ∷ q) × Among q (below l s c) → Begun l s cs y → Earlier x y
        apart x y q d =
            subst (λ (z : List Operator). Earlier z y) (sym q.1)
            (subst (λ (z : List Operator). Earlier (c ∷ q.0) z) (sym d.is) (inl (r.0 d.first d.chosen)))

  pub tree_rises : (l : ℕ) (s : State) → Rising Earlier (tree b f t l s)
  unfolding tree
  tree_rises zero s = tt
  tree_rises (suc l) s = trees_rise l s (tree_rises l) (choices b f t s) (choices_rise b f t s)

  -- ---- the members that are not empty

  pub tree_sized : (l : ℕ) (s : State) (os : List Operator) → Among os (tree b f t l s) → Sized l s os × (1 ≤ length os)
  tree_sized l s os m = (whole_sized l s os (inr m), some_first l s os m)

  pub sized_tree : (l : ℕ) (s : State) (os : List Operator) → Sized l s os → 1 ≤ length os → Among os (tree b f t l s)
  sized_tree l s os q h = go (sized_whole l s os q)
    where
      go : Among os ([] ∷ tree b f t l s) → Among os (tree b f t l s)
      go (inl e) = let d = ap length e in absurd (omega arith)
      go (inr m) = m
