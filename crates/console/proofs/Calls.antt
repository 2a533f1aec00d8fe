-- What the contracts of calls, as the source states them, allow: all results of an entry's calls on the same arguments, of the least
-- bound's in both forms, and of those beside a plan that is accepted or found.
use Prim.Native.Nat.{ℕ}
use mathlib.Core.Path.{◌≡◌, refl, sym, ap₂, subst, transport, ◌∙◌}
use mathlib.Core.Logic.{◌⊎◌}
use mathlib.Core.List.{List}
use lib.ListN.{length}
use Rattle.basics.specs.Answers.{value_of, itself}
use Rattle.rules.specs.Reasons.{no_room}
use Rattle.rules.specs.Refusals.{find_least}
use Rattle.theorems.specs.Hints.{Compared, Reaches}
use Rattle.theorems.proofs.HintLaws.{hints_compared}
use Rattle.sought.specs.Outcomes.{SearchCalls}
use Rattle.sought.proofs.SearchAnswers.{search_says}
use Rattle.results.specs.Calls.{SectionsCalls, SectionCalls, LeastCalls, CheckCalls, ExpandCalls, SearchWrites}
use Rattle.results.proofs.CallLaws.{sections_say, section_says, least_says, check_says, expand_says, check_reaches, search_reaches, search_wrote}
use Rattle.console.proofs.sections.ildorzhen_sections_number.Reads as sections_number
use Rattle.console.proofs.sections.ildorzhen_sections_place.Reads as sections_place
use Rattle.console.proofs.sections.ildorzhen_sections_count.Reads as sections_count
use Rattle.console.proofs.one_section.ildorzhen_section_number.Reads as section_number
use Rattle.console.proofs.one_section.ildorzhen_section_place.Reads as section_place
use Rattle.console.proofs.one_section.ildorzhen_section_length.Reads as section_length
use Rattle.console.proofs.least_bound.ildorzhen_least_number.Reads as least_number
use Rattle.console.proofs.least_bound.ildorzhen_least_place.Reads as least_place
use Rattle.console.proofs.least_bound.ildorzhen_least_bound.Reads as the_least_bound
use Rattle.console.proofs.checking.ildorzhen_check_number.Reads as check_number
use Rattle.console.proofs.checking.ildorzhen_check_place.Reads as check_place
use Rattle.console.proofs.checking.ildorzhen_check_cost.Reads as check_cost
use Rattle.console.proofs.checking.ildorzhen_check_operators.Reads as check_operators
use Rattle.console.proofs.checking.ildorzhen_check_steps.Reads as check_steps
use Rattle.console.proofs.expanding.ildorzhen_expand_number.Reads as expand_number
use Rattle.console.proofs.expanding.ildorzhen_expand_place.Reads as expand_place
use Rattle.console.proofs.expanding.ildorzhen_expand_length.Reads as expand_length
use Rattle.console.proofs.searching.ildorzhen_search_number.Reads as the_search_number
use Rattle.console.proofs.searching.ildorzhen_search_place.Reads as search_place
use Rattle.console.proofs.searching.ildorzhen_search_applied.Reads as search_applied
use Rattle.console.proofs.searching.ildorzhen_search_length.Reads as search_length
use Rattle.console.proofs.searching.ildorzhen_search_write.Reads as search_write

-- For all arguments a: what each call hands back, and s1, s2 .. what is lent to it at exit.
pub sections_calls : (κs : _) (a : _) (n p c : _) (s1 s2 s3 : _)
    → sections_number.Post κs a n s1
    → sections_place.Post κs a p s2
    → sections_count.Post κs a c s3
    → SectionsCalls a.0 a.1.0 a.1.1.0.now n p c
sections_calls κs a n p c s1 s2 s3 h1 h2 h3 =
    transport (λ i. SectionsCalls a.0 a.1.0 a.1.1.0.now (sym h1 i) (sym h2 i) (sym h3 i))
    (sections_say a.0 a.1.0 a.1.1.0.now)

pub section_calls : (κs : _) (a : _) (n p m : _) (s1 s2 s3 : _)
    → section_number.Post κs a n s1
    → section_place.Post κs a p s2
    → section_length.Post κs a m s3
    → SectionCalls a.0 a.1.0 a.1.1.0.now a.1.1.1.0 (length a.1.1.1.1.0.now) a.1.1.1.1.1.0 n p m
section_calls κs a n p m s1 s2 s3 h1 h2 h3 =
    transport
    (λ i. SectionCalls a.0 a.1.0 a.1.1.0.now a.1.1.1.0 (length a.1.1.1.1.0.now) a.1.1.1.1.1.0 (sym h1 i) (sym h2 i) (sym h3 i))
    (section_says a.0 a.1.0 a.1.1.0.now a.1.1.1.0 (length a.1.1.1.1.0.now) a.1.1.1.1.1.0)

pub least_calls : (κs : _) (a : _) (n p m : _) (s1 s2 s3 : _)
    → least_number.Post κs a n s1
    → least_place.Post κs a p s2
    → the_least_bound.Post κs a m s3
    → LeastCalls a.0 a.1.0.now n p m
least_calls κs a n p m s1 s2 s3 h1 h2 h3 =
    transport (λ i. LeastCalls a.0 a.1.0.now (sym h1 i) (sym h2 i) (sym h3 i)) (least_says a.0 a.1.0.now)

same_least : {f f' : ℕ} {s s' : List ℕ} → f ≡ f' → s ≡ s' → value_of itself (find_least f s) ≡ value_of itself (find_least f' s')
same_least = ap₂ (λ (f : ℕ) (s : List ℕ). value_of itself (find_least f s))

-- The least bounds of both forms on one table.
pub least_compared : (κs κs' : _) (a a' : _) (m m' : _) (s s' : _)
    → the_least_bound.Post κs a m s
    → the_least_bound.Post κs' a' m' s'
    → a.0 ≡ 0
    → a'.0 ≡ 1
    → a.1.0.now ≡ a'.1.0.now
    → Compared m m'
least_compared κs κs' a a' m m' s s' h h' plain prefixed table =
    let e = h ∙ same_least plain refl in
    let e' = h' ∙ same_least prefixed (sym table) in
    transport (λ i. Compared (sym e i) (sym e' i)) (hints_compared a.1.0.now)

pub check_calls : (κs : _) (a : _) (n p c o k : _) (s1 s2 s3 s4 s5 : _)
    → check_number.Post κs a n s1
    → check_place.Post κs a p s2
    → check_cost.Post κs a c s3
    → check_operators.Post κs a o s4
    → check_steps.Post κs a k s5
    → CheckCalls a.0 a.1.0 a.1.1.0.now a.1.1.1.0.now n p c o k
check_calls κs a n p c o k s1 s2 s3 s4 s5 h1 h2 h3 h4 h5 =
    transport (λ i. CheckCalls a.0 a.1.0 a.1.1.0.now a.1.1.1.0.now (sym h1 i) (sym h2 i) (sym h3 i) (sym h4 i) (sym h5 i))
    (check_says a.0 a.1.0 a.1.1.0.now a.1.1.1.0.now)

pub expand_calls : (κs : _) (a : _) (n p m : _) (s1 s2 s3 : _)
    → expand_number.Post κs a n s1
    → expand_place.Post κs a p s2
    → expand_length.Post κs a m s3
    → ExpandCalls a.0 a.1.0 a.1.1.0.now a.1.1.1.0.now (length a.1.1.1.1.0.now) n p m
expand_calls κs a n p m s1 s2 s3 h1 h2 h3 =
    transport
    (λ i. ExpandCalls a.0 a.1.0 a.1.1.0.now a.1.1.1.0.now (length a.1.1.1.1.0.now) (sym h1 i) (sym h2 i) (sym h3 i))
    (expand_says a.0 a.1.0 a.1.1.0.now a.1.1.1.0.now (length a.1.1.1.1.0.now))

-- The named form: the search's count is the number of applicable lists up to the plan found.
pub search_calls : (κs : _) (a : _) (n p c m : _) (s1 s2 s3 s4 : _)
    → the_search_number.Post κs a n s1
    → search_place.Post κs a p s2
    → search_applied.Post κs a c s3
    → search_length.Post κs a m s4
    → SearchCalls a.0 a.1.0 a.1.1.0 a.1.1.1.0 a.1.1.1.1.0.now (length a.1.1.1.1.1.0.now) n p c m
search_calls κs a n p c m s1 s2 s3 s4 h1 h2 h3 h4 =
    transport
    (λ i. SearchCalls a.0 a.1.0 a.1.1.0 a.1.1.1.0 a.1.1.1.1.0.now (length a.1.1.1.1.1.0.now) (sym h1 i) (sym h2 i) (sym h3 i) (sym h4 i))
    (search_says a.0 a.1.0 a.1.1.0 a.1.1.1.0 a.1.1.1.1.0.now (length a.1.1.1.1.1.0.now))

-- Where a plan is accepted, or found, the least bound of its form is there, and no greater than its bound.
pub check_reached : (κs κs' : _) (a c : _) (m n : _) (s u : _)
    → the_least_bound.Post κs a m s
    → check_number.Post κs' c n u
    → a.0 ≡ c.1.0
    → a.1.0.now ≡ c.1.1.0.now
    → n ≡ 0
    → Reaches c.0 m
check_reached κs κs' a c m n s u h k form table zero =
    subst (Reaches c.0) (sym (h ∙ same_least form table)) (check_reaches _ _ _ _ (sym k ∙ zero))

pub search_reached : (κs κs' : _) (a c : _) (m n : _) (s u : _)
    → the_least_bound.Post κs a m s
    → the_search_number.Post κs' c n u
    → a.0 ≡ c.1.0
    → a.1.0.now ≡ c.1.1.1.1.0.now
    → (n ≡ 0) ⊎ (n ≡ no_room)
    → Reaches c.0 m
search_reached κs κs' a c m n s u h k form table found =
    subst (Reaches c.0) (sym (h ∙ same_least form table)) (search_reaches _ _ _ _ _ _ (subst (λ x. (x ≡ 0) ⊎ (x ≡ no_room)) k found))

pub search_writes : (κs : _) (a : _) (m : _) (u : _) → search_write.Post κs a m u
    → SearchWrites a.0 a.1.0 a.1.1.0 a.1.1.1.0 a.1.1.1.1.0.now a.1.1.1.1.1.0.now u.1.1.1.1.1.0.now m
search_writes κs a m u h =
    transport
    (λ i. SearchWrites a.0 a.1.0 a.1.1.0 a.1.1.1.0 a.1.1.1.1.0.now a.1.1.1.1.1.0.now (sym h.1 i) (sym h.0 i))
    (search_wrote a.0 a.1.0 a.1.1.0 a.1.1.1.0 a.1.1.1.1.0.now a.1.1.1.1.1.0.now)
