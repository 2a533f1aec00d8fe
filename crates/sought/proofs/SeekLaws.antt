-- The walk is a search of that list from its start, up to the first that is complete at its end.
use Prim.Native.Nat.{ℕ, zero, suc, ◌+◌}
use mathlib.Core.Path.{◌≡◌, refl, sym, ap, subst, ◌∙◌}
use mathlib.Core.Logic.{◌⊎◌, inl, inr, ◌↔◌}
use mathlib.Core.Bool.{Bool, true, false, cond}
use mathlib.Core.List.{List, [], ◌∷◌, ◌++◌}
use mathlib.Core.Option.{Option, none, some}
use native.Mathlib.Omega.{arith}
use lib.ListN.{length}
use lib.Dec.{T}
use Rattle.rules.specs.Tables.{Table}
use Rattle.rules.specs.Progression.{State}
use Rattle.rules.specs.Operators.{Operator}
use Rattle.basics.specs.Lists.{Among, Distinct}
use Rattle.rules.specs.Searches.{led, complete, end_of, Earlier, NoLater}
use Rattle.rules.specs.Walks.{Walked, nothing, hit, behind, after, pick_of, or_else, choices, among, walk}
use Rattle.sought.proofs.AmongLaws.{Rising}
use Rattle.sought.proofs.OrderLaws.{one_way, not_itself}
use Rattle.sought.proofs.TreeLaws.{headed, trees, tree}

abbrev more : Walked → Walked
more w = record { plan = w.plan; count = suc w.count }

abbrev stop : List Operator → Walked
stop os = record { plan = some os; count = 1 }

unfoldable pub seek : (List Operator → Bool) → List (List Operator) → Walked
seek good [] = nothing
seek good (x ∷ xs) = cond (good x) (stop x) (more (seek good xs))

-- What is passed on the way.
unfoldable pub passed : (List Operator → Bool) → List (List Operator) → List (List Operator)
passed good [] = []
passed good (x ∷ xs) = cond (good x) (x ∷ []) (x ∷ passed good xs)

-- ---- the walk is such a search

told : Operator → Walked → Walked
told o w = record { plan = behind o w.plan; count = w.count }

more_pick : (p : Option (List Operator)) (n : ℕ) (w : Walked) → pick_of p (suc n) w ≡ more (pick_of p n w)
more_pick none n w = let e : suc n + w.count ≡ suc (n + w.count) = omega arith in λ i. record { plan = w.plan; count = e i }
more_pick (some p) n w = refl

seek_append : (good : List Operator → Bool) (xs ys : List (List Operator)) → seek good (xs ++ ys) ≡ or_else (seek good xs) (seek good ys)
unfolding seek
seek_append good [] ys = let w = seek good ys in let e : w.count ≡ 0 + w.count = omega arith in λ i. record { plan = w.plan; count = e i }
seek_append good (x ∷ xs) ys = go (good x) (seek_append good xs ys)
  where
    go : (c : Bool) → seek good (xs ++ ys) ≡ or_else (seek good xs) (seek good ys)
        → cond c (stop x) (more (seek good (xs ++ ys))) ≡ or_else (cond c (stop x) (more (seek good xs))) (seek good ys)
    go true e = refl
    go false e = ap more e ∙ sym (more_pick (seek good xs).plan (seek good xs).count (seek good ys))

seek_map : (good : List Operator → Bool) (o : Operator) (xs : List (List Operator))
    → seek good (headed o xs) ≡ told o (seek (λ p. good (o ∷ p)) xs)
unfolding seek told
seek_map good o [] = refl
seek_map good o (x ∷ xs) = go (good (o ∷ x)) (seek_map good o xs)
  where
    go : (c : Bool) → seek good (headed o xs) ≡ told o (seek (λ p. good (o ∷ p)) xs)
        → cond c (stop (o ∷ x)) (more (seek good (headed o xs))) ≡ told o (cond c (stop x) (more (seek (λ p. good (o ∷ p)) xs)))
    go true e = refl
    go false e = ap more e

-- A list of operators from a state is complete at its end.
abbrev pub good : ℕ → Table → State → List Operator → Bool
good f t s os = complete t (end_of f t s os)

module _ (b f : ℕ) (t : Table) where
  module _ (l : ℕ) (ih : (s : State) → walk b f t l s ≡ seek (good f t s) (tree b f t l s)) (s : State) where
    among_seek : (cs : List Operator) → among f t s (walk b f t l) cs ≡ seek (good f t s) (trees f t s (tree b f t l) cs)
    unfolding among trees seek told
    among_seek [] = refl
    among_seek (c ∷ cs) = go (complete t (led f t s c)) (among_seek cs)
      where
        under : List (List Operator)
        under = headed c (tree b f t l (led f t s c))

        deeper : Walked
        deeper = seek (good f t (led f t s c)) (tree b f t l (led f t s c))

        later : Walked
        later = seek (good f t s) (trees f t s (tree b f t l) cs)

        go : (x : Bool) → among f t s (walk b f t l) cs ≡ seek (good f t s) (trees f t s (tree b f t l) cs)
            → or_else (cond x (hit c) (after c (walk b f t l (led f t s c)))) (among f t s (walk b f t l) cs)
            ≡ cond x (stop (c ∷ [])) (more (seek (good f t s) (under ++ trees f t s (tree b f t l) cs)))
        go true e = refl
        go false e =
            (λ i. or_else (after c (ih (led f t s c) i)) (e i))
            ∙ more_pick (behind c deeper.plan) deeper.count later
            ∙ ap (λ (v : Walked). more (or_else v later)) (sym (seek_map (good f t s) c (tree b f t l (led f t s c))))
            ∙ ap more (sym (seek_append (good f t s) under (trees f t s (tree b f t l) cs)))

  pub walk_seek : (l : ℕ) (s : State) → walk b f t l s ≡ seek (good f t s) (tree b f t l s)
  unfolding walk tree seek
  walk_seek zero s = refl
  walk_seek (suc l) s = among_seek l (walk_seek l) s (choices b f t s)

-- ---- what such a search finds and passes

module _ (good : List Operator → Bool) where
  -- None of a list is good; or this one is, and no good one is earlier.
  abbrev pub First : List (List Operator) → Option (List Operator) → Type 0
  First xs none = (y : List Operator) → Among y xs → T (good y) → ⊥
  First xs (some p) = Among p xs × T (good p) × ((y : List Operator) → Among y xs → T (good y) → Earlier y p → ⊥)

  good_same : (x y : List Operator) → y ≡ x → T (good y) → T (good x)
  good_same x y e h = subst (λ (z : List Operator). T (good z)) e h

  pub seeks : (xs : List (List Operator)) → Rising Earlier xs → First xs (seek good xs).plan
  unfolding seek
  seeks [] r = λ y m h. m
  seeks (x ∷ xs) r = go (good x) refl (seeks xs r.1)
    where
      first : (y : List Operator) → Among y (x ∷ xs) → T (good y) → Earlier y x → ⊥
      first y (inl e) h q = not_itself y x e q
      first y (inr m) h q = one_way x y (r.0 y m) q

      passes : good x ≡ false → (y : List Operator) → Among y (x ∷ xs) → T (good y) → Among y xs
      passes c y (inl e) h = absurd (subst T c (good_same x y e h))
      passes c y (inr m) h = m

      on : good x ≡ false → (p : Option (List Operator)) → First xs p → First (x ∷ xs) p
      on c none q = λ y m h. q y (passes c y m h) h
      on c (some p) q = (inr q.0, q.1, (λ y m h d. q.2 y (passes c y m h) h d))

      go : (c : Bool) → good x ≡ c → First xs (seek good xs).plan → First (x ∷ xs) (cond c (stop x) (more (seek good xs))).plan
      go true c q = (inl refl, subst T (sym c) tt, first)
      go false c q = on c (seek good xs).plan q

  pub passed_count : (xs : List (List Operator)) → length (passed good xs) ≡ (seek good xs).count
  unfolding seek passed
  passed_count [] = refl
  passed_count (x ∷ xs) = go (good x) (passed_count xs)
    where
      go : (c : Bool) → length (passed good xs) ≡ (seek good xs).count
          → length (cond c (x ∷ []) (x ∷ passed good xs)) ≡ (cond c (stop x) (more (seek good xs))).count
      go true e = refl
      go false e = ap suc e

  passed_among : (xs : List (List Operator)) (y : List Operator) → Among y (passed good xs) → Among y xs
  unfolding passed
  passed_among [] y m = m
  passed_among (x ∷ xs) y m = go (good x) m (passed_among xs y)
    where
      go : (c : Bool) → Among y (cond c (x ∷ []) (x ∷ passed good xs)) → (Among y (passed good xs) → Among y xs) → Among y (x ∷ xs)
      go true (inl e) r = inl e
      go true (inr m) r = absurd m
      go false (inl e) r = inl e
      go false (inr m) r = inr (r m)

  pub passed_distinct : (xs : List (List Operator)) → Rising Earlier xs → Distinct (passed good xs)
  unfolding passed
  passed_distinct [] r = tt
  passed_distinct (x ∷ xs) r = go (good x) (passed_distinct xs r.1) (passed_among xs x)
    where
      go : (c : Bool) → Distinct (passed good xs) → (Among x (passed good xs) → Among x xs) → Distinct (cond c (x ∷ []) (x ∷ passed good xs))
      go true d h = ((λ m. m), tt)
      go false d h = ((λ m. not_itself x x refl (r.0 x (h m))), d)

  pub passed_exactly : (xs : List (List Operator)) → Rising Earlier xs → (y : List Operator)
      → Among y (passed good xs) ↔ (Among y xs × NoLater (seek good xs).plan y)
  unfolding seek passed
  passed_exactly [] r y = ((λ m. absurd m), (λ q. q.0))
  passed_exactly (x ∷ xs) r y = go (good x) (passed_exactly xs r.1 y) (seeks xs r.1)
    where
      here : (p : Option (List Operator)) → First xs p → y ≡ x → NoLater p y
      here none q e = tt
      here (some p) q e = inr (subst (λ (z : List Operator). Earlier z p) (sym e) (r.0 p q.0))

      there : (p : Option (List Operator)) → First xs p → (Among y (passed good xs) → Among y xs × NoLater p y) → Among y (x ∷ passed good xs)
          → Among y (x ∷ xs) × NoLater p y
      there p q h (inl e) = (inl e, here p q e)
      there p q h (inr m) = let d = h m in (inr d.0, d.1)

      back : (p : Option (List Operator)) → (Among y xs × NoLater p y → Among y (passed good xs)) → Among y (x ∷ xs) → NoLater p y
          → Among y (x ∷ passed good xs)
      back p h (inl e) n = inl e
      back p h (inr m) n = inr (h (m, n))

      alone : Among y (x ∷ xs) → (y ≡ x) ⊎ Earlier y x → Among y (x ∷ [])
      alone (inl e) n = inl e
      alone (inr m) (inl e) = inl e
      alone (inr m) (inr q) = absurd (one_way x y (r.0 y m) q)

      first : Among y (x ∷ []) → Among y (x ∷ xs) × ((y ≡ x) ⊎ Earlier y x)
      first (inl e) = (inl e, inl e)
      first (inr m) = absurd m

      go : (c : Bool) → Among y (passed good xs) ↔ (Among y xs × NoLater (seek good xs).plan y) → First xs (seek good xs).plan
          → Among y (cond c (x ∷ []) (x ∷ passed good xs)) ↔ (Among y (x ∷ xs) × NoLater (cond c (stop x) (more (seek good xs))).plan y)
      go true h q = (first, (λ d. alone d.0 d.1))
      go false h q = (there (seek good xs).plan q h.0, (λ d. back (seek good xs).plan h.1 d.0 d.1))
