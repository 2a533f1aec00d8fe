-- "Least bound", as document 02, C-12 has it: what it is in each form, and how it is found.
use Rattle.std.specs.Prelude.{ℕ, zero, suc, ◌+◌, ◌≤◌, max, Bool, true, ◌&&◌, not, cond, List, [], ◌∷◌, ◌++◌, length, get_or, set, replicate, T, leb, ltb}
use Rattle.rules.specs.Limits.{most_bound}
use Rattle.rules.specs.Tables.{Table, action_count, method_count, start_task, method}
use Rattle.rules.specs.Progression.{Step, fits, moved, is_empty, stays, due, resting}

-- "the stack alone can be emptied when heights count at" the form's "resting points": the steps empty it, from a point at which o
-- prefix actions are due, and leave at most b tasks wherever none is due. "Facts stay ignored, so a dead method still counts."
abbrev pub Clears : ℕ → ℕ → Table → ℕ → List ℕ → List Step → Type 0
Clears b f t o st [] = T (is_empty st)
Clears b f t o st (x ∷ xs) = T (fits t st x) × T (resting b (due f t o x) (moved t st x)) × Clears b f t (due f t o x) (moved t st x) xs

-- The starting task alone on the stack can be cleared with bound b.
abbrev pub Clearable : ℕ → ℕ → Table → Type 0
Clearable b f t = T (resting b 0 (start_task t ∷ [])) × ((xs : List Step) × Clears b f t 0 (start_task t ∷ []) xs)

-- "the smallest bound with which" this is so, of 1 to 64; 0 if there is none.
pub record Least (f : ℕ) (t : Table) (r : ℕ) : Type 0 where
  pub clears : 1 ≤ r → (r ≤ most_bound) × Clearable r f t
  pub smallest : (b : ℕ) → b ≤ most_bound → Clearable b f t → (1 ≤ r) × (r ≤ b)

-- How it is found: a bound that is above all, where none is known.
abbrev pub unknown : ℕ
unknown = suc most_bound

-- `v` holds a bound for each task: 1 for an action, at first none for an abstract task.
abbrev pub bound_of : List ℕ → ℕ → ℕ
bound_of v c = get_or v c unknown

-- How high a row of tasks rises as it is cleared, the first on top.
abbrev pub rise : List ℕ → List ℕ → ℕ
rise v [] = 0
rise v (c ∷ ts) = max (bound_of v c + length ts) (rise v ts)

-- Of a method's subtasks those count that stay when its prefix is gone; where none does, the place of its head.
abbrev pub method_bound : ℕ → Table → List ℕ → ℕ → ℕ
method_bound f t v k = max 1 (rise v (stays f t k))

-- A method may lower its head's bound.
abbrev pub lowers : ℕ → Table → List ℕ → ℕ → Bool
lowers f t v k = ltb (method_bound f t v k) (bound_of v (method t k).head)

abbrev pub improve : ℕ → Table → List ℕ → ℕ → List ℕ
improve f t v k = cond (lowers f t v k) (set v (method t k).head (method_bound f t v k)) v

-- One round: the first k methods in turn. Settled: none of them lowers a bound.
abbrev pub round : ℕ → Table → List ℕ → ℕ → List ℕ
round f t v zero = v
round f t v (suc k) = improve f t (round f t v k) k

abbrev pub settled : ℕ → Table → List ℕ → ℕ → Bool
settled f t v zero = true
settled f t v (suc k) = settled f t v k && not (lowers f t v k)

-- At most n rounds, until none lowers a bound.
abbrev pub rounds : ℕ → Table → ℕ → List ℕ → List ℕ
rounds f t zero v = v
rounds f t (suc n) v = let w = rounds f t n (round f t v (method_count t)) in cond (settled f t v (method_count t)) v w

abbrev pub total : List ℕ → ℕ
total [] = 0
total (n ∷ v) = n + total v

abbrev pub first : Table → List ℕ
first t = replicate (action_count t) 1 ++ replicate t.head.abstracts unknown

-- A bound above the highest is none.
abbrev pub up_to_most : ℕ → ℕ
up_to_most n = cond (leb n most_bound) n 0

-- Each round but the last lowers the total.
unfoldable pub least_bound : ℕ → Table → ℕ
least_bound f t = up_to_most (bound_of (rounds f t (suc (total (first t))) (first t)) (start_task t))
