-- The sides of a socket pair. (socketpair(2); the numbers are own)
use Rattle.std.specs.Prelude.{zero, suc}
use Rattle.rights.specs.Values.{SideNumber}

abbrev pub other_side : SideNumber → SideNumber
other_side zero = 1
other_side (suc n) = 0
