-- What the code's answer says, as a reading of the document.
use Rattle.std.specs.Prelude.{ℕ, Result}
use Rattle.basics.specs.declared.Refusal.{Refusal}
use Rattle.basics.specs.Readings.{Reading, reading_of}
use Rattle.rules.specs.Tables.{Header}
use Rattle.words.specs.Words.{header_read}
use Rattle.words.specs.declared.Header.{Header as HeaderInCode}

abbrev pub head_of : Result (HeaderInCode × ℕ) Refusal → Reading Header
head_of r = reading_of header_read r
