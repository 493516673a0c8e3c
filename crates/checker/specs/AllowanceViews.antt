-- What the code knows of an authority.
use Rattle.std.specs.Prelude.{map}
use Rattle.certificate.specs.Bounds.{Authority}
use Rattle.certificate.specs.Views.{ceiling_of, held_end_of}
use Rattle.texts.specs.Views.{name_of}
use Rattle.checker.specs.declared.allowances.Allowance.{Allowance}

abbrev pub allowance_of : Allowance → Authority
allowance_of a = record { program = name_of a.program; ceilings = map ceiling_of a.ceilings.now; holds = map held_end_of a.ends.now }
