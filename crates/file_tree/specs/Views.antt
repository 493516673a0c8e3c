-- What the values of the code stand for.
use Rattle.std.specs.Prelude.{◌≡◌, ◌≢◌, ℕ, Bool, true, List, [], Option, Some, None}
use Rattle.file_tree.specs.declared.nodes.Kind.{Kind as KindCode}
use Rattle.file_tree.specs.declared.nodes.Kind.TheVariants as kind
use Rattle.file_tree.specs.declared.nodes.New.{New}
use Rattle.file_tree.specs.declared.nodes.New.TheVariants as new
use Rattle.file_tree.specs.declared.faults.TreeFault.{TreeFault}
use Rattle.file_tree.specs.declared.faults.TreeFault.TheVariants as fault
use Rattle.file_tree.specs.Places.{is_target}
use Rattle.file_tree.specs.Nodes.{Kind, File, Dir, Link}
use Rattle.file_tree.specs.Refusals.{ChangeFault, Exists, NotEmpty, Full, IntoItself, Gone}

abbrev pub kind_of : KindCode → Kind
kind_of kind.File = File
kind_of kind.Dir = Dir
kind_of kind.Link = Link

-- the kind and the content of a node that is to be made
abbrev pub new_kind : New → Kind
new_kind new.File = File
new_kind new.Dir = Dir
new_kind (new.Link target) = Link

abbrev pub new_content : New → List ℕ
new_content new.File = []
new_content new.Dir = []
new_content (new.Link target) = target.now

-- whether it may be made: a link needs a target
abbrev pub is_new : New → Bool
is_new new.File = true
is_new new.Dir = true
is_new (new.Link target) = is_target target.now

-- the refusal; want of memory is none of the tree's
abbrev pub fault_of : TreeFault → Option ChangeFault
fault_of fault.Exists = Some Exists
fault_of fault.NotEmpty = Some NotEmpty
fault_of fault.Full = Some Full
fault_of fault.IntoItself = Some IntoItself
fault_of fault.Gone = Some Gone
fault_of fault.Memory = None

-- The error tells what is refused; want of memory may come in place of any other answer.
abbrev pub TellsTreeFault : Option ChangeFault → TreeFault → Type 0
TellsTreeFault refusal error = error ≢ fault.Memory → refusal ≡ fault_of error

-- the numbers of the refusals
abbrev pub tree_fault_number : TreeFault → ℕ
tree_fault_number fault.Exists = 1
tree_fault_number fault.NotEmpty = 2
tree_fault_number fault.Full = 3
tree_fault_number fault.IntoItself = 4
tree_fault_number fault.Gone = 5
tree_fault_number fault.Memory = 6
