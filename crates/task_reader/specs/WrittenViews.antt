-- What the code's values of a written task stand for.
use Rattle.std.specs.Prelude.{List, map}
use Rattle.rights.specs.Views.{operation_of, side_seen}
use Rattle.file_tree.specs.Views.{kind_of}
use Rattle.fd_table.specs.Views.{access_seen}
use Rattle.task_reader.specs.declared.written.WrittenNode.{WrittenNode as NodeCode}
use Rattle.task_reader.specs.declared.written.WrittenGrant.{WrittenGrant as GrantCode}
use Rattle.task_reader.specs.declared.written.WrittenProgram.{WrittenProgram as ProgramCode}
use Rattle.task_reader.specs.declared.written.WrittenObject.{WrittenObject as ObjectCode}
use Rattle.task_reader.specs.declared.written.WrittenObject.TheVariants as object
use Rattle.task_reader.specs.declared.written.WrittenDescriptor.{WrittenDescriptor as DescriptorCode}
use Rattle.task_reader.specs.declared.written.WrittenStart.{WrittenStart as StartCode}
use Rattle.task_reader.specs.declared.written.WrittenTask.{WrittenTask as TaskCode}
use Rattle.task_reader.specs.Written.{WrittenNode, WrittenGrant, WrittenProgram, WrittenObject, By_path, By_pair, WrittenDescriptor, WrittenStart, WrittenTask}

abbrev pub node_seen : NodeCode → WrittenNode
node_seen n = record { path = n.path.now; kind = kind_of n.kind; content = n.content.now }

abbrev pub nodes_seen : List NodeCode → List WrittenNode
nodes_seen nodes = map node_seen nodes

abbrev pub grant_seen : GrantCode → WrittenGrant
grant_seen g = record { name = g.name.now; path = g.path.now; operations = map operation_of g.operations.items }

abbrev pub grants_seen : List GrantCode → List WrittenGrant
grants_seen grants = map grant_seen grants

abbrev pub program_seen : ProgramCode → WrittenProgram
program_seen p = record { name = p.name.now; text = p.text.now; marked = p.untrusted }

abbrev pub programs_seen : List ProgramCode → List WrittenProgram
programs_seen programs = map program_seen programs

abbrev pub object_seen : ObjectCode → WrittenObject
object_seen (object.Path path access) = By_path path.now (access_seen access)
object_seen (object.Pair pair side) = By_pair pair (side_seen side)

abbrev pub descriptor_seen : DescriptorCode → WrittenDescriptor
descriptor_seen d = record { number = d.number; object = object_seen d.object; rights = d.rights.0; fcntls = d.fcntls.0 }

abbrev pub start_seen : StartCode → WrittenStart
start_seen s = record { program = s.program; mode = s.mode; descriptors = map descriptor_seen s.descriptors.items }

abbrev pub starts_seen : List StartCode → List WrittenStart
starts_seen starts = map start_seen starts

abbrev pub task_seen : TaskCode → WrittenTask
task_seen t = record {
  nodes = nodes_seen t.nodes.items;
  grants = grants_seen t.grants.items;
  programs = programs_seen t.programs.items;
  starts = starts_seen t.starts.items;
  wide = t.further_rights;
}
