-- Fact sets as numbers, and the joined sets of a row of actions ("Progression").
use Rattle.std.specs.Prelude.{ℕ, zero, suc, ◌/◌, ◌%◌, Bool, true, false, not, ◌||◌, cond, List, [], ◌∷◌, eqb}
use Rattle.std.specs.Int.Bits.{bit_and, bit_or, bit_xor}
use Rattle.rules.specs.Tables.{Action}

-- "one number whose bit k stands for fact k": fact k is in the set.
abbrev pub is_set : ℕ → Bool
is_set zero = false
is_set (suc d) = true

unfoldable pub has : ℕ → ℕ → Bool
has s zero = is_set (s % 2)
has s (suc k) = has (s / 2) k

-- The facts of a that are not in b.
unfoldable pub without : ℕ → ℕ → ℕ
without a b = bit_xor a (bit_and a b)

abbrev pub empty : ℕ → Bool
empty s = eqb s 0

-- "its needed facts hold": none of them is missing.
abbrev pub holds : ℕ → ℕ → Bool
holds needs facts = empty (without needs facts)

-- "new facts are the old without the deletes, then with the adds".
abbrev pub changed : ℕ → ℕ → ℕ → ℕ
changed dels adds old = bit_or (without old dels) adds

-- The facts of n from k on that are in the set, rising.
unfoldable pub members_from : ℕ → ℕ → ℕ → List ℕ
members_from zero k s = []
members_from (suc n) k s = cond (has s k) (k ∷ members_from n (suc k) s) (members_from n (suc k) s)

-- The facts below n that are in the set, rising.
unfoldable pub members_of : ℕ → ℕ → List ℕ
members_of n s = members_from n 0 s

-- "The joined needs, adds and deletes"; a dead join can never run.
pub record Join : Type 0 where
  pub needs : ℕ
  pub adds : ℕ
  pub dels : ℕ
  pub dead : Bool

-- "start empty".
abbrev pub no_join : Join
no_join = record { needs = 0; adds = 0; dels = 0; dead = false }

-- "if it needs a fact in the joined deletes, the method is dead; needs gain its needs that are not in the joined adds;
-- adds lose its deletes, then gain its adds; deletes gain its deletes, then lose its adds."
unfoldable pub join_one : Join → Action → Join
join_one j a =
    record {
      needs = bit_or j.needs (without a.needs j.adds);
      adds = changed a.dels a.adds j.adds;
      dels = without (bit_or j.dels a.dels) a.adds;
      dead = j.dead || not (empty (bit_and a.needs j.dels));
    }

-- "For each prefix action in turn".
unfoldable pub join_from : Join → List Action → Join
join_from j [] = j
join_from j (a ∷ l) = join_from (join_one j a) l

unfoldable pub join_of : List Action → Join
join_of l = join_from no_join l
