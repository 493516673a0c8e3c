-- What is written of a certificate's expansion. (own)
use Rattle.std.specs.Prelude.{◌≡◌, ℕ, List, Option, Ok}
use Rattle.rights.specs.Output.{Took}
use Rattle.certificate.specs.Bounds.{Certificate}
use Rattle.certificate_text.specs.Readings.{certificate_of_text}
use Rattle.certificate_text.specs.Texts.{certificate_text}
use Rattle.rules.specs.Expansions.{expansion}
use Rattle.task.specs.Plans.{Plan}

-- The expansion is written as a text that is read as it again.
pub record Expands (plan : Plan) (bounds : Certificate) (before after : Option (List ℕ)) : Type 0 where
  pub reads_back : certificate_of_text (certificate_text (expansion plan bounds)) ≡ Ok (expansion plan bounds)
  pub writes : Took before after (certificate_text (expansion plan bounds))
