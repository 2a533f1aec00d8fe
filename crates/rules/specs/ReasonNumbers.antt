-- "Refusal numbers": the number of each reason that the code names.
use Rattle.std.specs.Prelude.{ℕ}
use Rattle.rules.specs.Reasons.{bad_bound, bad_form, table_too_long, plan_too_long, table_ends, bad_number, out_of_range, not_there, bytes_after_table, no_such_section, line_shape, not_emitted, not_applicable, stack_not_empty, goal_missing, no_room, bad_limits, no_plan, over_budget}
use Rattle.rules.specs.declared.reasons.Reason.{Reason}
use Rattle.rules.specs.declared.reasons.Reason.TheVariants.{BadBound, BadForm, TableTooLong, PlanTooLong, TableEnds, BadNumber, OutOfRange, NotThere, BytesAfterTable, NoSuchSection, LineShape, NotEmitted, NotApplicable, StackNotEmpty, GoalMissing, NoRoom, BadLimits, NoPlan, OverBudget}

abbrev pub number : Reason → ℕ
number BadBound = bad_bound
number BadForm = bad_form
number TableTooLong = table_too_long
number PlanTooLong = plan_too_long
number TableEnds = table_ends
number BadNumber = bad_number
number OutOfRange = out_of_range
number NotThere = not_there
number BytesAfterTable = bytes_after_table
number NoSuchSection = no_such_section
number LineShape = line_shape
number NotEmitted = not_emitted
number NotApplicable = not_applicable
number StackNotEmpty = stack_not_empty
number GoalMissing = goal_missing
number NoRoom = no_room
number BadLimits = bad_limits
number NoPlan = no_plan
number OverBudget = over_budget
