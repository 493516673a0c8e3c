-- The world that a task starts in: no call was made yet, and nothing is queued. (own, after open(2), socketpair(2) and
-- capsicum(4))
use Rattle.std.specs.Prelude.{◌+◌, ◌*◌, ◌-◌, ◌/◌, ◌%◌, ◌==◌, nat_lt, false, List, [], ◌∷◌, map, Option, Some, None, option_map, if◌then◌else◌}
use Rattle.std.specs.List.{slice_get}
use Rattle.rights.specs.Values.{DescriptionNumber, DescriptorNumber, ProcessNumber, PairNumber, SideNumber}
use Rattle.rights.specs.Limits.{most_descriptors, most_pairs}
use Rattle.process.specs.State.{ProcessState, new_process}
use Rattle.fd_table.specs.Descriptions.{Object, At_node, At_end, Initial, Descriptor, descriptor_of, new_state}
use Rattle.fd_table.specs.OpenFiles.{OpenFiles}
use Rattle.kernel.specs.World.{World}
use Rattle.task.specs.Plans.{FirstObject, On_node, On_end, FirstDescriptor, NamedProgram, Start, Plan, marked_in}

-- the first descriptor of a process at a number
abbrev pub with_number : DescriptorNumber → List FirstDescriptor → Option FirstDescriptor
with_number n [] = None
with_number n (d ∷ descriptors) = if d.number == n then Some d else with_number n descriptors

abbrev pub given_to : Option Start → DescriptorNumber → Option FirstDescriptor
given_to None n = None
given_to (Some s) n = with_number n s.descriptors

abbrev pub given_by : List Start → ProcessNumber → DescriptorNumber → Option FirstDescriptor
given_by starts p n = given_to (slice_get starts p) n

-- All first descriptors of one side of a pair share its description; each of a node has one of its own. (open(2))
abbrev pub end_description : PairNumber → SideNumber → DescriptionNumber
end_description pair side = pair * 2 + side

abbrev pub node_description : ProcessNumber → DescriptorNumber → DescriptionNumber
node_description p n = end_description most_pairs 0 + (p * most_descriptors + n)

abbrev pub description_of : ProcessNumber → DescriptorNumber → FirstObject → DescriptionNumber
description_of p n (On_node node access) = node_description p n
description_of p n (On_end pair side) = end_description pair side

-- both ends of an initial pair are of its class
abbrev pub first_object : FirstObject → Object
first_object (On_node node access) = At_node node access
first_object (On_end pair side) = At_end pair side (Initial pair)

abbrev pub object_given : Option FirstDescriptor → Object
object_given None = At_node 0 (record { readable = false; writable = false })
object_given (Some d) = first_object d.object

abbrev pub node_object : (ProcessNumber → DescriptorNumber → Option FirstDescriptor) → DescriptionNumber → Object
node_object given k = object_given (given (k / most_descriptors) (k % most_descriptors))

abbrev pub object_of : (ProcessNumber → DescriptorNumber → Option FirstDescriptor) → DescriptionNumber → Object
object_of given k =
    if nat_lt k (end_description most_pairs 0) then first_object (On_end (k / 2) (k % 2))
    else node_object given (k - end_description most_pairs 0)

abbrev pub first_entry : ProcessNumber → FirstDescriptor → Descriptor
first_entry p d = descriptor_of (description_of p d.number d.object) d.rights d.fcntls

abbrev pub first_entries : (ProcessNumber → DescriptorNumber → Option FirstDescriptor) → ProcessNumber → DescriptorNumber → Option Descriptor
first_entries given p n = option_map (first_entry p) (given p n)

-- What is open where these are given, by process and number: at offset 0 and with no status flags.
unfoldable pub first_files : (ProcessNumber → DescriptorNumber → Option FirstDescriptor) → OpenFiles
first_files given = record {
  objects = object_of given;
  states = λ n. new_state false;
  queue = λ pair side. [];
  pairs = 0;
  table = first_entries given;
}

-- at point 0, with all registers 0
abbrev pub first_process : List NamedProgram → Start → ProcessState
first_process programs s = record (new_process s.program s.mode) { marked = marked_in (slice_get programs s.program) }

unfoldable pub first_world : Plan → World
first_world plan = record {
  tree = plan.nodes;
  files = first_files (given_by plan.starts);
  processes = map (first_process plan.programs) plan.starts;
}
