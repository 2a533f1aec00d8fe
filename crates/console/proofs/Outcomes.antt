-- Each call's contract, as the source states it, allows one outcome: any two that it allows are equal.
use mathlib.Core.Path.{◌≡◌, sym, ◌∙◌}
use mathlib.Core.List.{List}
use Prim.Native.Nat.{ℕ}
use Rattle.console.proofs.sections.ildorzhen_sections_number.Reads as sections_number
use Rattle.console.proofs.sections.ildorzhen_sections_place.Reads as sections_place
use Rattle.console.proofs.sections.ildorzhen_sections_count.Reads as sections_count
use Rattle.console.proofs.one_section.ildorzhen_section_number.Reads as section_number
use Rattle.console.proofs.one_section.ildorzhen_section_place.Reads as section_place
use Rattle.console.proofs.one_section.ildorzhen_section_length.Reads as section_length
use Rattle.console.proofs.one_section.ildorzhen_section_write.Reads as section_write
use Rattle.console.proofs.least_bound.ildorzhen_least_number.Reads as least_number
use Rattle.console.proofs.least_bound.ildorzhen_least_place.Reads as least_place
use Rattle.console.proofs.least_bound.ildorzhen_least_bound.Reads as the_least_bound
use Rattle.console.proofs.checking.ildorzhen_check_number.Reads as check_number
use Rattle.console.proofs.checking.ildorzhen_check_place.Reads as check_place
use Rattle.console.proofs.checking.ildorzhen_check_cost.Reads as check_cost
use Rattle.console.proofs.checking.ildorzhen_check_operators.Reads as check_operators
use Rattle.console.proofs.checking.ildorzhen_check_steps.Reads as check_steps
use Rattle.console.proofs.expanding.ildorzhen_expand_number.Reads as expand_number
use Rattle.console.proofs.expanding.ildorzhen_expand_place.Reads as expand_place
use Rattle.console.proofs.expanding.ildorzhen_expand_length.Reads as expand_length
use Rattle.console.proofs.expanding.ildorzhen_expand_write.Reads as expand_write
use Rattle.console.proofs.searching.ildorzhen_search_number.Reads as the_search_number
use Rattle.console.proofs.searching.ildorzhen_search_place.Reads as search_place
use Rattle.console.proofs.searching.ildorzhen_search_applied.Reads as search_applied
use Rattle.console.proofs.searching.ildorzhen_search_length.Reads as search_length
use Rattle.console.proofs.searching.ildorzhen_search_write.Reads as search_write

-- A contract (lifetimes, arguments, result, what is lent at exit) and any two results that it allows for the same arguments.
abbrev pub OneOutcome : {K : Type 0} {A R S : K → Type 0} → ((κs : K) → A κs → R κs → S κs → Type 0) → Type 0
OneOutcome {K} {A} {R} {S} Post = (κs : K) (a : A κs) (r q : R κs) (s u : S κs) → Post κs a r s → Post κs a q u → r ≡ q

-- The same of the bytes at exit, which `bytes` reads.
abbrev pub OneText : {K : Type 0} {A R S : K → Type 0} → ((κs : K) → S κs → List ℕ) → ((κs : K) → A κs → R κs → S κs → Type 0) → Type 0
OneText {K} {A} {R} {S} bytes Post =
    (κs : K) (a : A κs) (r q : R κs) (s u : S κs) → Post κs a r s → Post κs a q u → bytes κs s ≡ bytes κs u

pub sections_number_one : OneOutcome sections_number.Post
sections_number_one κs a r q s u h k = h ∙ sym k

pub sections_place_one : OneOutcome sections_place.Post
sections_place_one κs a r q s u h k = h ∙ sym k

pub sections_count_one : OneOutcome sections_count.Post
sections_count_one κs a r q s u h k = h ∙ sym k

pub section_number_one : OneOutcome section_number.Post
section_number_one κs a r q s u h k = h ∙ sym k

pub section_place_one : OneOutcome section_place.Post
section_place_one κs a r q s u h k = h ∙ sym k

pub section_length_one : OneOutcome section_length.Post
section_length_one κs a r q s u h k = h ∙ sym k

pub section_write_one : OneOutcome section_write.Post
section_write_one κs a r q s u h k = h.0 ∙ sym k.0

pub section_write_bytes_one : OneText (λ κs s. s.1.1.1.1.0.now) section_write.Post
section_write_bytes_one κs a r q s u h k = h.1 ∙ sym k.1

pub least_number_one : OneOutcome least_number.Post
least_number_one κs a r q s u h k = h ∙ sym k

pub least_place_one : OneOutcome least_place.Post
least_place_one κs a r q s u h k = h ∙ sym k

pub least_bound_one : OneOutcome the_least_bound.Post
least_bound_one κs a r q s u h k = h ∙ sym k

pub check_number_one : OneOutcome check_number.Post
check_number_one κs a r q s u h k = h ∙ sym k

pub check_place_one : OneOutcome check_place.Post
check_place_one κs a r q s u h k = h ∙ sym k

pub check_cost_one : OneOutcome check_cost.Post
check_cost_one κs a r q s u h k = h ∙ sym k

pub check_operators_one : OneOutcome check_operators.Post
check_operators_one κs a r q s u h k = h ∙ sym k

pub check_steps_one : OneOutcome check_steps.Post
check_steps_one κs a r q s u h k = h ∙ sym k

pub expand_number_one : OneOutcome expand_number.Post
expand_number_one κs a r q s u h k = h ∙ sym k

pub expand_place_one : OneOutcome expand_place.Post
expand_place_one κs a r q s u h k = h ∙ sym k

pub expand_length_one : OneOutcome expand_length.Post
expand_length_one κs a r q s u h k = h ∙ sym k

pub expand_write_one : OneOutcome expand_write.Post
expand_write_one κs a r q s u h k = h.0 ∙ sym k.0

pub expand_write_bytes_one : OneText (λ κs s. s.1.1.1.1.0.now) expand_write.Post
expand_write_bytes_one κs a r q s u h k = h.1 ∙ sym k.1

pub search_number_one : OneOutcome the_search_number.Post
search_number_one κs a r q s u h k = h ∙ sym k

pub search_place_one : OneOutcome search_place.Post
search_place_one κs a r q s u h k = h ∙ sym k

pub search_applied_one : OneOutcome search_applied.Post
search_applied_one κs a r q s u h k = h ∙ sym k

pub search_length_one : OneOutcome search_length.Post
search_length_one κs a r q s u h k = h ∙ sym k

pub search_write_one : OneOutcome search_write.Post
search_write_one κs a r q s u h k = h.0 ∙ sym k.0

pub search_write_bytes_one : OneText (λ κs s. s.1.1.1.1.1.0.now) search_write.Post
search_write_bytes_one κs a r q s u h k = h.1 ∙ sym k.1
