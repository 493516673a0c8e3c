-- What a policy allows. (own)
use Rattle.std.specs.Prelude.{Bool, false, ◌&&◌, List, [], ◌∷◌, Option, Some, None, if◌then◌else◌}
use Rattle.std.specs.List.{list_any}
use Rattle.std.specs.Str.{bytes_eq}
use Rattle.rights.specs.Values.{Name, Place}
use Rattle.rights.specs.Operations.{Operation}
use Rattle.rights.specs.OperationLists.{lists}
use Rattle.file_tree.specs.Places.{begins}
use Rattle.task.specs.Plans.{Grant}

-- A grant allows its operations at its directory and at everything beneath it, name by name.
abbrev pub allows : Grant → Operation → Place → Bool
allows g operation place = begins g.path place && lists g.operations operation

-- some grant allows it
abbrev pub is_allowed : List Grant → Operation → Place → Bool
is_allowed grants operation place = list_any (λ (g : Grant). allows g operation place) grants

-- the first grant of this name
unfoldable pub grant_named : List Grant → Name → Option Grant
grant_named [] name = None
grant_named (g ∷ grants) name = if bytes_eq g.name name then Some g else grant_named grants name

-- whether a place is the grant's, or beneath it; a grant that isn't there holds none
abbrev pub holds_in : Option Grant → Place → Bool
holds_in None place = false
holds_in (Some g) place = begins g.path place

abbrev pub grant_holds : List Grant → Name → Place → Bool
grant_holds grants name place = holds_in (grant_named grants name) place

-- whether the grant of this name lists the operation; one that isn't there lists none
abbrev pub lists_in : Option Grant → Operation → Bool
lists_in None operation = false
lists_in (Some g) operation = lists g.operations operation

abbrev pub grant_lists : List Grant → Name → Operation → Bool
grant_lists grants name operation = lists_in (grant_named grants name) operation
