-- The versions of the certificates that the search gives: 4 where the task asks for further rights, which is told there; else 2,
-- or 3 where a program is marked. (own)
use Rattle.std.specs.Prelude.{if◌then◌else◌}
use Rattle.certificate.specs.Bounds.{Version, Two, Three, Four}
use Rattle.task.specs.Plans.{Plan}

abbrev pub flat_version : Plan → Version
flat_version plan = if plan.wide then Four else Two

abbrev pub marked_version : Plan → Version
marked_version plan = if plan.wide then Four else Three
