-- Which problems are in order, in plain words.
use Rattle.std.specs.Prelude.{ℕ, ◌<◌, ◌≡◌, Bool, false, ◌||◌, not, List, [], ◌∷◌, length, get_or, T, eqb}
use Rattle.std.proofs.Math.Option.{Option, none, some}
use Rattle.version3.specs.Problems.{Variable, Setting, Effect, Oper, Problem, values_of, fixing, changing}

-- Each of a list.
abbrev pub Each : {A : Type 0} → (A → Type 0) → List A → Type 0
Each P [] = Unit {0}
Each P (x ∷ xs) = P x × Each P xs

-- Each is below all that follow.
abbrev pub Rising : List ℕ → Type 0
Rising [] = Unit {0}
Rising (v ∷ vs) = Each (λ w. v < w) vs × Rising vs

abbrev pub member : ℕ → List ℕ → Bool
member v [] = false
member v (w ∷ ws) = eqb v w || member v ws

-- No number twice, and none of those used already.
abbrev pub Fresh : List ℕ → List ℕ → Type 0
Fresh used [] = Unit {0}
Fresh used (v ∷ vs) = T (not (member v used)) × Fresh (v ∷ used) vs

-- ---- every number is one of a variable or of a value that is there

pub record GoodSetting (vs : List Variable) (s : Setting) : Type 0 where
  pub variable : s.variable < length vs
  pub value : s.value < values_of vs s.variable

-- A value before, if there is one.
abbrev pub Below : ℕ → Option ℕ → Type 0
Below n none = Unit {0}
Below n (some x) = x < n

pub record GoodEffect (vs : List Variable) (e : Effect) : Type 0 where
  pub variable : e.variable < length vs
  pub before : Below (values_of vs e.variable) e.before
  pub after : e.after < values_of vs e.variable

-- ---- and no variable stands twice in the goal or in one operator

pub record GoodSettings (vs : List Variable) (ss : List Setting) : Type 0 where
  pub each : Each (GoodSetting vs) ss
  pub once : Fresh [] (fixing ss)

pub record GoodOper (vs : List Variable) (o : Oper) : Type 0 where
  pub prevail : GoodSettings vs o.prevail
  pub effects : Each (GoodEffect vs) o.effects
  pub once : Fresh (fixing o.prevail) (changing o.effects)

pub record InOrder (p : Problem) : Type 0 where
  pub values : length p.start ≡ length p.variables
  pub start : (v : ℕ) → v < length p.variables → get_or p.start v 0 < values_of p.variables v
  pub goal : GoodSettings p.variables p.goal
  pub operators : Each (GoodOper p.variables) p.operators

-- ---- "Lines rise by variable."

pub record RisingOper (o : Oper) : Type 0 where
  pub prevail : Rising (fixing o.prevail)
  pub effects : Rising (changing o.effects)

pub record RisingLines (p : Problem) : Type 0 where
  pub goal : Rising (fixing p.goal)
  pub operators : Each RisingOper p.operators
