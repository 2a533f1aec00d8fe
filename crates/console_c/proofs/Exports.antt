-- What C may rely on: each export's contract, as the source states it, asks nothing of a caller and promises what the call of its name in `console`
-- promises. So whatever is proved of the contracts there (`console` Outcomes, Calls) holds of what C calls.
use Rattle.console.proofs.sections.ildorzhen_sections_number.Reads as sections_number
use Rattle.console.proofs.sections.ildorzhen_sections_place.Reads as sections_place
use Rattle.console.proofs.sections.ildorzhen_sections_count.Reads as sections_count
use Rattle.console.proofs.one_section.ildorzhen_section_number.Reads as section_number
use Rattle.console.proofs.one_section.ildorzhen_section_place.Reads as section_place
use Rattle.console.proofs.one_section.ildorzhen_section_length.Reads as section_length
use Rattle.console.proofs.one_section.ildorzhen_section_write.Reads as section_write
use Rattle.console.proofs.least_bound.ildorzhen_least_number.Reads as least_number
use Rattle.console.proofs.least_bound.ildorzhen_least_place.Reads as least_place
use Rattle.console.proofs.least_bound.ildorzhen_least_bound.Reads as least_bound
use Rattle.console.proofs.checking.ildorzhen_check_number.Reads as check_number
use Rattle.console.proofs.checking.ildorzhen_check_place.Reads as check_place
use Rattle.console.proofs.checking.ildorzhen_check_cost.Reads as check_cost
use Rattle.console.proofs.checking.ildorzhen_check_operators.Reads as check_operators
use Rattle.console.proofs.checking.ildorzhen_check_steps.Reads as check_steps
use Rattle.console.proofs.expanding.ildorzhen_expand_number.Reads as expand_number
use Rattle.console.proofs.expanding.ildorzhen_expand_place.Reads as expand_place
use Rattle.console.proofs.expanding.ildorzhen_expand_length.Reads as expand_length
use Rattle.console.proofs.expanding.ildorzhen_expand_write.Reads as expand_write
use Rattle.console.proofs.searching.ildorzhen_search_number.Reads as search_number
use Rattle.console.proofs.searching.ildorzhen_search_place.Reads as search_place
use Rattle.console.proofs.searching.ildorzhen_search_applied.Reads as search_applied
use Rattle.console.proofs.searching.ildorzhen_search_length.Reads as search_length
use Rattle.console.proofs.searching.ildorzhen_search_write.Reads as search_write
use Rattle.console_c.proofs.sections.ildorzhen_sections_number.Reads as exported_sections_number
use Rattle.console_c.proofs.sections.ildorzhen_sections_place.Reads as exported_sections_place
use Rattle.console_c.proofs.sections.ildorzhen_sections_count.Reads as exported_sections_count
use Rattle.console_c.proofs.one_section.ildorzhen_section_number.Reads as exported_section_number
use Rattle.console_c.proofs.one_section.ildorzhen_section_place.Reads as exported_section_place
use Rattle.console_c.proofs.one_section.ildorzhen_section_length.Reads as exported_section_length
use Rattle.console_c.proofs.one_section.ildorzhen_section_write.Reads as exported_section_write
use Rattle.console_c.proofs.least_bound.ildorzhen_least_number.Reads as exported_least_number
use Rattle.console_c.proofs.least_bound.ildorzhen_least_place.Reads as exported_least_place
use Rattle.console_c.proofs.least_bound.ildorzhen_least_bound.Reads as exported_least_bound
use Rattle.console_c.proofs.checking.ildorzhen_check_number.Reads as exported_check_number
use Rattle.console_c.proofs.checking.ildorzhen_check_place.Reads as exported_check_place
use Rattle.console_c.proofs.checking.ildorzhen_check_cost.Reads as exported_check_cost
use Rattle.console_c.proofs.checking.ildorzhen_check_operators.Reads as exported_check_operators
use Rattle.console_c.proofs.checking.ildorzhen_check_steps.Reads as exported_check_steps
use Rattle.console_c.proofs.expanding.ildorzhen_expand_number.Reads as exported_expand_number
use Rattle.console_c.proofs.expanding.ildorzhen_expand_place.Reads as exported_expand_place
use Rattle.console_c.proofs.expanding.ildorzhen_expand_length.Reads as exported_expand_length
use Rattle.console_c.proofs.expanding.ildorzhen_expand_write.Reads as exported_expand_write
use Rattle.console_c.proofs.searching.ildorzhen_search_number.Reads as exported_search_number
use Rattle.console_c.proofs.searching.ildorzhen_search_place.Reads as exported_search_place
use Rattle.console_c.proofs.searching.ildorzhen_search_applied.Reads as exported_search_applied
use Rattle.console_c.proofs.searching.ildorzhen_search_length.Reads as exported_search_length
use Rattle.console_c.proofs.searching.ildorzhen_search_write.Reads as exported_search_write
use Rattle.console.proofs.Preconditions.{AsksNothing}

-- What one contract (lifetimes, arguments, result, what is lent at exit) allows another allows too.
abbrev pub Promises : {K : Type 0} {A R S : K → Type 0} → ((κs : K) → A κs → R κs → S κs → Type 0) → ((κs : K) → A κs → R κs → S κs → Type 0) → Type 0
Promises {K} {A} {R} {S} Exported Called = (κs : K) (a : A κs) (r : R κs) (s : S κs) → Exported κs a r s → Called κs a r s

pub sections_number_asks : AsksNothing exported_sections_number.Asked
sections_number_asks κs a = tt

pub sections_number_promises : Promises exported_sections_number.Post sections_number.Post
sections_number_promises κs a r s h = h

pub sections_place_asks : AsksNothing exported_sections_place.Asked
sections_place_asks κs a = tt

pub sections_place_promises : Promises exported_sections_place.Post sections_place.Post
sections_place_promises κs a r s h = h

pub sections_count_asks : AsksNothing exported_sections_count.Asked
sections_count_asks κs a = tt

pub sections_count_promises : Promises exported_sections_count.Post sections_count.Post
sections_count_promises κs a r s h = h

pub section_number_asks : AsksNothing exported_section_number.Asked
section_number_asks κs a = tt

pub section_number_promises : Promises exported_section_number.Post section_number.Post
section_number_promises κs a r s h = h

pub section_place_asks : AsksNothing exported_section_place.Asked
section_place_asks κs a = tt

pub section_place_promises : Promises exported_section_place.Post section_place.Post
section_place_promises κs a r s h = h

pub section_length_asks : AsksNothing exported_section_length.Asked
section_length_asks κs a = tt

pub section_length_promises : Promises exported_section_length.Post section_length.Post
section_length_promises κs a r s h = h

pub section_write_asks : AsksNothing exported_section_write.Asked
section_write_asks κs a = tt

pub section_write_promises : Promises exported_section_write.Post section_write.Post
section_write_promises κs a r s h = h

pub least_number_asks : AsksNothing exported_least_number.Asked
least_number_asks κs a = tt

pub least_number_promises : Promises exported_least_number.Post least_number.Post
least_number_promises κs a r s h = h

pub least_place_asks : AsksNothing exported_least_place.Asked
least_place_asks κs a = tt

pub least_place_promises : Promises exported_least_place.Post least_place.Post
least_place_promises κs a r s h = h

pub least_bound_asks : AsksNothing exported_least_bound.Asked
least_bound_asks κs a = tt

pub least_bound_promises : Promises exported_least_bound.Post least_bound.Post
least_bound_promises κs a r s h = h

pub check_number_asks : AsksNothing exported_check_number.Asked
check_number_asks κs a = tt

pub check_number_promises : Promises exported_check_number.Post check_number.Post
check_number_promises κs a r s h = h

pub check_place_asks : AsksNothing exported_check_place.Asked
check_place_asks κs a = tt

pub check_place_promises : Promises exported_check_place.Post check_place.Post
check_place_promises κs a r s h = h

pub check_cost_asks : AsksNothing exported_check_cost.Asked
check_cost_asks κs a = tt

pub check_cost_promises : Promises exported_check_cost.Post check_cost.Post
check_cost_promises κs a r s h = h

pub check_operators_asks : AsksNothing exported_check_operators.Asked
check_operators_asks κs a = tt

pub check_operators_promises : Promises exported_check_operators.Post check_operators.Post
check_operators_promises κs a r s h = h

pub check_steps_asks : AsksNothing exported_check_steps.Asked
check_steps_asks κs a = tt

pub check_steps_promises : Promises exported_check_steps.Post check_steps.Post
check_steps_promises κs a r s h = h

pub expand_number_asks : AsksNothing exported_expand_number.Asked
expand_number_asks κs a = tt

pub expand_number_promises : Promises exported_expand_number.Post expand_number.Post
expand_number_promises κs a r s h = h

pub expand_place_asks : AsksNothing exported_expand_place.Asked
expand_place_asks κs a = tt

pub expand_place_promises : Promises exported_expand_place.Post expand_place.Post
expand_place_promises κs a r s h = h

pub expand_length_asks : AsksNothing exported_expand_length.Asked
expand_length_asks κs a = tt

pub expand_length_promises : Promises exported_expand_length.Post expand_length.Post
expand_length_promises κs a r s h = h

pub expand_write_asks : AsksNothing exported_expand_write.Asked
expand_write_asks κs a = tt

pub expand_write_promises : Promises exported_expand_write.Post expand_write.Post
expand_write_promises κs a r s h = h

pub search_number_asks : AsksNothing exported_search_number.Asked
search_number_asks κs a = tt

pub search_number_promises : Promises exported_search_number.Post search_number.Post
search_number_promises κs a r s h = h

pub search_place_asks : AsksNothing exported_search_place.Asked
search_place_asks κs a = tt

pub search_place_promises : Promises exported_search_place.Post search_place.Post
search_place_promises κs a r s h = h

pub search_applied_asks : AsksNothing exported_search_applied.Asked
search_applied_asks κs a = tt

pub search_applied_promises : Promises exported_search_applied.Post search_applied.Post
search_applied_promises κs a r s h = h

pub search_length_asks : AsksNothing exported_search_length.Asked
search_length_asks κs a = tt

pub search_length_promises : Promises exported_search_length.Post search_length.Post
search_length_promises κs a r s h = h

pub search_write_asks : AsksNothing exported_search_write.Asked
search_write_asks κs a = tt

pub search_write_promises : Promises exported_search_write.Post search_write.Post
search_write_promises κs a r s h = h
