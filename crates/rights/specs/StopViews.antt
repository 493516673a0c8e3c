-- The numbers of the refusals.
use Rattle.std.specs.Prelude.{ℕ}
use Rattle.rights.specs.declared.stops.Stop.{Stop}
use Rattle.rights.specs.declared.stops.Stop.TheVariants.{Memory, Device, Spent}

abbrev pub stop_number : Stop → ℕ
stop_number Memory = 1
stop_number Device = 2
stop_number Spent = 3
