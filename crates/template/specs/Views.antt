-- What the view of a template says.
use Rattle.std.specs.Prelude.{ℕ, List}
use Rattle.template.specs.declared.view.Drawn.{Drawn}
use Rattle.template.specs.Segments.{text_of}

-- The whole text at the position p.
unfoldable pub shown : Drawn → ℕ → List ℕ
shown d p = text_of d.text.now d.numbers.now d.at d.from d.count p
