-- The programs that a list of them names.
use Rattle.std.specs.Prelude.{ℕ, List, take}
use Rattle.certificate.specs.declared.program_names.ProgramNames.{ProgramNames}
use Rattle.certificate.specs.GrowthViews.{names_there}

abbrev pub programs_listed : ProgramNames → List (List ℕ)
programs_listed p = names_there (take p.count p.names)
