use Rattle.std.proofs.Common.{false, ap, length}
use Rattle.fd_table.specs.Views.{access_seen}
use Rattle.fd_table.specs.Kept.{open_files}
use Rattle.fd_table.proofs.QueueLaws.{on_ok_so}
use Rattle.task.specs.declared.starts.FirstObject.TheVariants as object
use Rattle.task.specs.Views.{first_object_of}
use Rattle.simulator.specs.declared.owned.OwnedDescriptor.{OwnedDescriptor as OwnedCode}
use Rattle.simulator.proofs.Begun.{used, is_there, is_free, awaits_opened}
use Rattle.simulator.proofs.starting.open_first.Goals as goal

abbrev none : OwnedCode
none = record {
  process = 0;
  given = record {
    number = 0;
    object = object.Node 0 (record { readable = false; writable = false });
    rights = record { 0 = 0 };
    fcntls = record { 0 = 0 };
  };
}

pub open_node-requires-clause-there : goal.open_node-requires-clause-there
open_node-requires-clause-there c =
    is_there c.args.owned.now c.args.at none c.requires.there c.requires.owned c.in-Node.node (access_seen c.in-Node.access)
    (ap first_object_of c.in-Node.is) (length c.args.numbers.now) c.requires.among

pub open_node-requires-clause-used : goal.open_node-requires-clause-used
open_node-requires-clause-used c =
    used c.args.owned.now c.args.at none c.requires.there c.requires.owned c.in-Node.node (access_seen c.in-Node.access) (ap first_object_of c.in-Node.is)

pub open_node-requires-clause-free : goal.open_node-requires-clause-free
open_node-requires-clause-free c =
    is_free c.args.owned.now c.args.at none c.requires.there c.requires.owned c.in-Node.node (access_seen c.in-Node.access)
    (ap first_object_of c.in-Node.is) (open_files c.args.files.now) c.requires.begun

pub returns-in-Node : goal.returns-in-Node
returns-in-Node c =
    on_ok_so c.open_node.result c.open_node.ensures
    (awaits_opened c.args.owned.now c.args.at none c.requires.there c.requires.owned c.in-Node.node (access_seen c.in-Node.access)
    (ap first_object_of c.in-Node.is) (open_files c.args.files.now) c.requires.begun (open_files c.open_node.new.files))
