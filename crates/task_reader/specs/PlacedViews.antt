-- What the code's values of placed processes stand for.
use Rattle.std.specs.Prelude.{◌^◌, ◌&&◌, nat_lt, Bool, true, List, map}
use Rattle.std.specs.List.{list_all}
use Rattle.rights.specs.Views.{side_seen}
use Rattle.fd_table.specs.Views.{access_seen}
use Rattle.task_reader.specs.declared.placed_starts.PlacedObject.{PlacedObject}
use Rattle.task_reader.specs.declared.placed_starts.PlacedObject.TheVariants as object
use Rattle.task_reader.specs.declared.placed_starts.PlacedDescriptor.{PlacedDescriptor}
use Rattle.task_reader.specs.declared.placed_starts.PlacedStart.{PlacedStart}
use Rattle.task_reader.specs.declared.reading.Parts.{Parts}
use Rattle.file_tree.specs.Nodes.{Node}
use Rattle.task.specs.Plans.{FirstObject, On_node, On_end, FirstDescriptor, Start, Plan, plan_in}
use Rattle.task.specs.Views.{grants_of, programs_of, starts_of}

abbrev pub placed_object : PlacedObject → FirstObject
placed_object (object.Node node access) = On_node node (access_seen access)
placed_object (object.End pair side) = On_end pair (side_seen side)

abbrev pub placed_descriptor : PlacedDescriptor → FirstDescriptor
placed_descriptor d = record { number = d.number; object = placed_object d.object; rights = d.rights.0; fcntls = d.fcntls.0 }

abbrev pub placed_start : PlacedStart → Start
placed_start s = record { program = s.program; mode = s.mode; descriptors = map placed_descriptor s.descriptors.items }

abbrev pub placed_starts : List PlacedStart → List Start
placed_starts starts = map placed_start starts

-- whether the code's numbers hold those of an object, of a descriptor, of a process
abbrev pub is_near : FirstObject → Bool
is_near (On_node node access) = nat_lt node (2 ^ 16)
is_near (On_end pair side) = true

abbrev pub has_near : FirstDescriptor → Bool
has_near d = is_near d.object

abbrev pub is_small : Start → Bool
is_small s = nat_lt s.program (2 ^ 8) && list_all has_near s.descriptors

-- the plan that the parts of a task are on its tree, where it asks for further rights or not
abbrev pub plan_on : Bool → List Node → Parts → Plan
plan_on wide tree parts = plan_in wide tree (grants_of parts.grants.items) (programs_of parts.programs.items) (starts_of parts.starts.items)
