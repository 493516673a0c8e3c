-- What the values of the code stand for.
use Rattle.std.specs.Prelude.{None, Some, Option, ◌≢◌, ◌≡◌, ℕ}
use Rattle.rights.specs.Opens.{OpenRequest}
use Rattle.rights.specs.Views.{side_seen}
use Rattle.fd_table.specs.declared.status.Status.{Status}
use Rattle.fd_table.specs.declared.descriptors.Descriptor.{Descriptor as DescriptorCode}
use Rattle.fd_table.specs.declared.descriptors.Access.{Access as AccessCode}
use Rattle.fd_table.specs.declared.descriptors.Class.{Class as ClassCode}
use Rattle.fd_table.specs.declared.descriptors.Class.TheVariants as class
use Rattle.fd_table.specs.declared.descriptors.Object.{Object as ObjectCode}
use Rattle.fd_table.specs.declared.descriptors.Object.TheVariants as object
use Rattle.fd_table.specs.declared.descriptors.Description.{Description as DescriptionCode}
use Rattle.fd_table.specs.declared.descriptors.Entry.{Entry as EntryCode}
use Rattle.fd_table.specs.declared.faults.SendFault.{SendFault}
use Rattle.fd_table.specs.declared.faults.SendFault.TheVariants as fault
use Rattle.fd_table.specs.declared.ends.Front.{Front as FrontCode}
use Rattle.fd_table.specs.Descriptions.{Access, PairClass, Initial, Made_at, Made_by, Object, At_node, At_end, State, Descriptor}
use Rattle.fd_table.specs.Filled.{Entry, Front, SendRefusal, Closed, Full}

-- the state of a description with these flags, at its beginning
abbrev pub state_at : Status → State
state_at s = record { offset = 0; append = s.append; nonblock = s.nonblock }

abbrev pub descriptor_seen : DescriptorCode → Descriptor
descriptor_seen d = record { description = d.description; rights = d.rights.0; fcntls = d.fcntls.0 }

abbrev pub access_seen : AccessCode → Access
access_seen a = record { readable = a.readable; writable = a.writable }

-- what an open's flags ask for
abbrev pub access_asked : OpenRequest → Access
access_asked flags = record { readable = flags.read; writable = flags.write }

abbrev pub class_seen : ClassCode → PairClass
class_seen (class.Initial pair) = Initial pair
class_seen (class.MadeAt program point) = Made_at program point
class_seen (class.MadeBy program) = Made_by program

abbrev pub object_seen : ObjectCode → Object
object_seen (object.Node node access) = At_node node (access_seen access)
object_seen (object.End end class) = At_end end.pair (side_seen end.side) (class_seen class)

abbrev pub state_seen : DescriptionCode → State
state_seen d = record { offset = d.offset; append = d.status.append; nonblock = d.status.nonblock }

abbrev pub entry_seen : EntryCode → Entry
entry_seen e = record { process = e.process; number = e.number }

abbrev pub front_seen : FrontCode → Front
front_seen f = record { byte = f.byte; carries = f.carries }

-- why a message is not sent; want of memory is no fault of the pair's
abbrev pub refusal_seen : SendFault → Option SendRefusal
refusal_seen fault.Closed = Some Closed
refusal_seen fault.Full = Some Full
refusal_seen fault.Memory = None

-- The error tells what is refused; want of memory may come in place of any other answer.
abbrev pub TellsSendFault : Option SendRefusal → SendFault → Type 0
TellsSendFault refusal error = error ≢ fault.Memory → refusal ≡ refusal_seen error

-- the numbers of the faults
abbrev pub send_fault_number : SendFault → ℕ
send_fault_number fault.Closed = 1
send_fault_number fault.Full = 2
send_fault_number fault.Memory = 3
