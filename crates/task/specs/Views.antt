-- What the values of the code stand for.
use Rattle.std.specs.Prelude.{true, List, map}
use Rattle.texts.specs.Views.{name_of}
use Rattle.rights.specs.Views.{operation_of, side_seen}
use Rattle.file_tree.specs.Nodes.{Node}
use Rattle.file_tree.specs.Views.{kind_of}
use Rattle.fd_table.specs.Views.{access_seen}
use Rattle.task.specs.declared.nodes.TaskNode.{TaskNode}
use Rattle.task.specs.declared.grants.Grant.{Grant as GrantCode}
use Rattle.task.specs.declared.programs.NamedProgram.{NamedProgram as NamedProgramCode}
use Rattle.task.specs.declared.starts.FirstObject.{FirstObject as FirstObjectCode}
use Rattle.task.specs.declared.starts.FirstObject.TheVariants as object
use Rattle.task.specs.declared.starts.FirstDescriptor.{FirstDescriptor as FirstDescriptorCode}
use Rattle.task.specs.declared.starts.Start.{Start as StartCode}
use Rattle.task.specs.Plans.{Grant, NamedProgram, FirstObject, On_node, On_end, FirstDescriptor, Start}

-- a node of a task was not removed
abbrev pub node_of : TaskNode → Node
node_of n = record { kind = kind_of n.kind; place = n.place; linked = true; content = n.content.items }

abbrev pub nodes_of : List TaskNode → List Node
nodes_of nodes = map node_of nodes

abbrev pub grant_of : GrantCode → Grant
grant_of g = record { name = name_of g.name; path = g.path; operations = map operation_of g.operations.items }

abbrev pub grants_of : List GrantCode → List Grant
grants_of grants = map grant_of grants

abbrev pub program_of : NamedProgramCode → NamedProgram
program_of p = record { name = name_of p.name; code = p.program; marked = p.untrusted }

abbrev pub programs_of : List NamedProgramCode → List NamedProgram
programs_of programs = map program_of programs

abbrev pub first_object_of : FirstObjectCode → FirstObject
first_object_of (object.Node node access) = On_node node (access_seen access)
first_object_of (object.End pair side) = On_end pair (side_seen side)

abbrev pub first_descriptor_of : FirstDescriptorCode → FirstDescriptor
first_descriptor_of d = record { number = d.number; object = first_object_of d.object; rights = d.rights.0; fcntls = d.fcntls.0 }

abbrev pub start_of : StartCode → Start
start_of s = record { program = s.program; mode = s.mode; descriptors = map first_descriptor_of s.descriptors.items }

abbrev pub starts_of : List StartCode → List Start
starts_of starts = map start_of starts
