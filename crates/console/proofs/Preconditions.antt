-- No call relies on an earlier one: its contract, as the source states it, asks nothing of a caller, whatever the arguments.
use Rattle.console.proofs.sections.ildorzhen_sections_number.Reads as sections_number
use Rattle.console.proofs.sections.ildorzhen_sections_place.Reads as sections_place
use Rattle.console.proofs.sections.ildorzhen_sections_count.Reads as sections_count
use Rattle.console.proofs.one_section.ildorzhen_section_number.Reads as section_number
use Rattle.console.proofs.one_section.ildorzhen_section_place.Reads as section_place
use Rattle.console.proofs.one_section.ildorzhen_section_length.Reads as section_length
use Rattle.console.proofs.one_section.ildorzhen_section_write.Reads as section_write
use Rattle.console.proofs.least_bound.ildorzhen_least_number.Reads as least_number
use Rattle.console.proofs.least_bound.ildorzhen_least_place.Reads as least_place
use Rattle.console.proofs.least_bound.ildorzhen_least_bound.Reads as the_least_bound
use Rattle.console.proofs.checking.ildorzhen_check_number.Reads as check_number
use Rattle.console.proofs.checking.ildorzhen_check_place.Reads as check_place
use Rattle.console.proofs.checking.ildorzhen_check_cost.Reads as check_cost
use Rattle.console.proofs.checking.ildorzhen_check_operators.Reads as check_operators
use Rattle.console.proofs.checking.ildorzhen_check_steps.Reads as check_steps
use Rattle.console.proofs.expanding.ildorzhen_expand_number.Reads as expand_number
use Rattle.console.proofs.expanding.ildorzhen_expand_place.Reads as expand_place
use Rattle.console.proofs.expanding.ildorzhen_expand_length.Reads as expand_length
use Rattle.console.proofs.expanding.ildorzhen_expand_write.Reads as expand_write
use Rattle.console.proofs.searching.ildorzhen_search_number.Reads as the_search_number
use Rattle.console.proofs.searching.ildorzhen_search_place.Reads as search_place
use Rattle.console.proofs.searching.ildorzhen_search_applied.Reads as search_applied
use Rattle.console.proofs.searching.ildorzhen_search_length.Reads as search_length
use Rattle.console.proofs.searching.ildorzhen_search_write.Reads as search_write

-- What a contract asks (lifetimes, arguments) holds for all arguments.
abbrev pub AsksNothing : {K : Type 0} {A : K → Type 0} → ((κs : K) → A κs → Type 0) → Type 0
AsksNothing {K} {A} Asked = (κs : K) (a : A κs) → Asked κs a

pub sections_number_asks : AsksNothing sections_number.Asked
sections_number_asks κs a = tt

pub sections_place_asks : AsksNothing sections_place.Asked
sections_place_asks κs a = tt

pub sections_count_asks : AsksNothing sections_count.Asked
sections_count_asks κs a = tt

pub section_number_asks : AsksNothing section_number.Asked
section_number_asks κs a = tt

pub section_place_asks : AsksNothing section_place.Asked
section_place_asks κs a = tt

pub section_length_asks : AsksNothing section_length.Asked
section_length_asks κs a = tt

pub section_write_asks : AsksNothing section_write.Asked
section_write_asks κs a = tt

pub least_number_asks : AsksNothing least_number.Asked
least_number_asks κs a = tt

pub least_place_asks : AsksNothing least_place.Asked
least_place_asks κs a = tt

pub least_bound_asks : AsksNothing the_least_bound.Asked
least_bound_asks κs a = tt

pub check_number_asks : AsksNothing check_number.Asked
check_number_asks κs a = tt

pub check_place_asks : AsksNothing check_place.Asked
check_place_asks κs a = tt

pub check_cost_asks : AsksNothing check_cost.Asked
check_cost_asks κs a = tt

pub check_operators_asks : AsksNothing check_operators.Asked
check_operators_asks κs a = tt

pub check_steps_asks : AsksNothing check_steps.Asked
check_steps_asks κs a = tt

pub expand_number_asks : AsksNothing expand_number.Asked
expand_number_asks κs a = tt

pub expand_place_asks : AsksNothing expand_place.Asked
expand_place_asks κs a = tt

pub expand_length_asks : AsksNothing expand_length.Asked
expand_length_asks κs a = tt

pub expand_write_asks : AsksNothing expand_write.Asked
expand_write_asks κs a = tt

pub search_number_asks : AsksNothing the_search_number.Asked
search_number_asks κs a = tt

pub search_place_asks : AsksNothing search_place.Asked
search_place_asks κs a = tt

pub search_applied_asks : AsksNothing search_applied.Asked
search_applied_asks κs a = tt

pub search_length_asks : AsksNothing search_length.Asked
search_length_asks κs a = tt

pub search_write_asks : AsksNothing search_write.Asked
search_write_asks κs a = tt
