-- The world after a change, under the numbers that are chosen for what it makes: one function for each
-- part of the world.
use Rattle.std.specs.Prelude.{ℕ, ◌+◌, true, false, ◌||◌, nat_lt, List, [], ◌∷◌, ◌++◌, drop, length, slice_set, Option, Some, None, if◌then◌else◌}
use Rattle.rights.specs.Values.{DescriptionNumber, DescriptorNumber, ProcessNumber, PairNumber, SideNumber}
use Rattle.rights.specs.Sets.{all_rights, all_commands}
use Rattle.rights.specs.Maps.{put, put2}
use Rattle.file_tree.specs.Nodes.{Node}
use Rattle.file_tree.specs.Changes.{added, removed, filled, renamed}
use Rattle.process.specs.State.{ProcessState, forked}
use Rattle.fd_table.specs.Descriptions.{At_node, At_end, Object, State, Descriptor, Message, new_state, descriptor_of}
use Rattle.fd_table.specs.OpenFiles.{OpenFiles}
use Rattle.kernel.specs.World.{World, Choice}
use Rattle.kernel.specs.Answers.{TreeChange, Same_tree, Make, Remove, Move, Fill, TableChange, Same_table, Set_entry, Clear_entry, New_file, New_pair, New_process, QueueChange}
use Rattle.kernel.specs.Answers.{Same_queue, Push, Pop, StateChange, Same_state, Set_state, Change}

-- The tree: a new node is empty.
abbrev pub tree_after : List Node → TreeChange → List Node
tree_after tree Same_tree = tree
tree_after tree (Make place kind) = added tree place kind []
tree_after tree (Remove n) = removed tree n
tree_after tree (Move n place) = renamed tree n place
tree_after tree (Fill n content) = filled tree n content

-- What new descriptions are of.
abbrev pub objects_after : (DescriptionNumber → Object) → Choice → TableChange → DescriptionNumber → Object
objects_after objects choice Same_table = objects
objects_after objects choice (Set_entry number d) = objects
objects_after objects choice (Clear_entry number) = objects
objects_after objects choice (New_file number n access append rights fcntls) = put objects choice.first (At_node n access)
objects_after objects choice (New_pair first second class) =
    put (put objects choice.first (At_end choice.pair 0 class)) choice.second (At_end choice.pair 1 class)
objects_after objects choice New_process = objects

abbrev pub new_states : (DescriptionNumber → State) → Choice → TableChange → DescriptionNumber → State
new_states states choice Same_table = states
new_states states choice (Set_entry number d) = states
new_states states choice (Clear_entry number) = states
new_states states choice (New_file number n access append rights fcntls) = put states choice.first (new_state append)
new_states states choice (New_pair first second class) = put (put states choice.first (new_state false)) choice.second (new_state false)
new_states states choice New_process = states

abbrev pub states_after : (DescriptionNumber → State) → StateChange → DescriptionNumber → State
states_after states Same_state = states
states_after states (Set_state n state) = put states n state

abbrev pub queue_after : (PairNumber → SideNumber → List Message) → QueueChange → PairNumber → SideNumber → List Message
queue_after queue Same_queue = queue
queue_after queue (Push pair side message) = put2 queue pair side (queue pair side ++ message ∷ [])
queue_after queue (Pop pair side) = put2 queue pair side (drop 1 (queue pair side))

-- The pairs that have messages are numbered below this.
abbrev pub pairs_after : ℕ → QueueChange → ℕ
pairs_after pairs Same_queue = pairs
pairs_after pairs (Push pair side message) = if nat_lt pair pairs then pairs else pair + 1
pairs_after pairs (Pop pair side) = pairs

-- The tables: of process p, and of a child, whose number is that of the processes made so far.
abbrev pub table_after : (ProcessNumber → DescriptorNumber → Option Descriptor) → ProcessNumber → ℕ → Choice → TableChange → ProcessNumber → DescriptorNumber → Option Descriptor
table_after table p processes choice Same_table = table
table_after table p processes choice (Set_entry number d) = put2 table p number (Some d)
table_after table p processes choice (Clear_entry number) = put2 table p number None
table_after table p processes choice (New_file number n access append rights fcntls) =
    put2 table p number (Some (descriptor_of choice.first rights fcntls))
table_after table p processes choice (New_pair first second class) =
    put2 (put2 table p first (Some (descriptor_of choice.first all_rights all_commands))) p second
    (Some (descriptor_of choice.second all_rights all_commands))
table_after table p processes choice New_process = put table processes (table p)

-- What a success makes of the process: register 0 has the value, register 1 the second number of a pair,
-- and it goes on.
abbrev pub second_number : TableChange → List ℕ → List ℕ
second_number (New_pair first second class) registers = slice_set registers 1 second
second_number _ registers = registers

abbrev pub given : ProcessState → ℕ → Change → ProcessState
given s value change = record s {
  registers = second_number change.table (slice_set s.registers 0 value);
  point = s.point + 1;
  mode = s.mode || change.enters;
  walk = None;
}

-- a child is a copy of its parent, to which the call answers 0
abbrev pub children : TableChange → ProcessState → List ProcessState
children New_process parent = forked parent ∷ []
children _ parent = []

abbrev pub processes_after : List ProcessState → ProcessNumber → ProcessState → TableChange → List ProcessState
processes_after processes p s change = slice_set processes p s ++ children change s

-- What is open, and what is queued, after a change by process p, where so many processes were made.
unfoldable pub files_after : OpenFiles → ProcessNumber → ℕ → Choice → Change → OpenFiles
files_after f p processes choice change = record {
  objects = objects_after f.objects choice change.table;
  states = states_after (new_states f.states choice change.table) change.state;
  queue = queue_after f.queue change.queue;
  pairs = pairs_after f.pairs change.queue;
  table = table_after f.table p processes choice change.table;
}

-- The world after a call of process p has succeeded, which stands at s then.
unfoldable pub changed : World → ProcessNumber → ProcessState → Choice → Change → World
changed w p s choice change = record {
  tree = tree_after w.tree change.tree;
  files = files_after w.files p (length w.processes) choice change;
  processes = processes_after w.processes p s change.table;
}
