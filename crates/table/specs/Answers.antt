-- What the code's answer says, as a reading of the document.
use Rattle.std.specs.Prelude.{ℕ, Result}
use Rattle.basics.specs.declared.Refusal.{Refusal}
use Rattle.basics.specs.Readings.{Reading, reading_of}
use Rattle.rules.specs.Tables.{Action}
use Rattle.facts.specs.Sets.{action_read}
use Rattle.facts.specs.declared.Action.{Action as ActionInCode}

abbrev pub act_of : Result (ActionInCode × ℕ) Refusal → Reading Action
act_of r = reading_of action_read r
