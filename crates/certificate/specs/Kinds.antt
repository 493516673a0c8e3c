-- What kind of target a bound has.
use Rattle.std.specs.Prelude.{◌==◌, ◌&&◌, Bool, true, false}
use Rattle.std.specs.Str.{bytes_eq}
use Rattle.rights.specs.Values.{Name, SideNumber}
use Rattle.rights.specs.Classes.{Class}
use Rattle.certificate.specs.Bounds.{Target, In_grant, Any_node, Socket, Unknown}
use Rattle.certificate.specs.Order.{same_class}

abbrev pub is_grant_of : Target → Name → Bool
is_grant_of (In_grant own) name = bytes_eq own name
is_grant_of Any_node name = false
is_grant_of (Socket class side) name = false
is_grant_of Unknown name = false

abbrev pub is_node : Target → Bool
is_node (In_grant name) = true
is_node Any_node = true
is_node (Socket class side) = false
is_node Unknown = false

abbrev pub is_end_of : Target → Class → SideNumber → Bool
is_end_of (In_grant name) class side = false
is_end_of Any_node class side = false
is_end_of (Socket own end) class side = same_class own class && (end == side)
is_end_of Unknown class side = false
