-- The worlds, events and processes of the rows of causes.
use Rattle.std.proofs.Common.{[], ℕ, true, false, List, ◌∷◌, ◌++◌, codes}
use Rattle.std.specs.Prelude.{Option, Some, None, replicate, bit_or}
use Rattle.rights.specs.Values.{Name}
use Rattle.rights.specs.Maps.{put}
use Rattle.rights.specs.Opens.{OpenRequest, open_request}
use Rattle.rights.specs.Sets.{all_commands, lookup_right, renameat_target_right}
use Rattle.file_tree.specs.Nodes.{File, nowhere}
use Rattle.file_tree.specs.Changes.{removed}
use Rattle.file_tree.specs.Refusals.{created}
use Rattle.lookup.specs.Answers.{Way, Global, Last}
use Rattle.lookup.specs.Walks.{WalkState}
use Rattle.process.specs.State.{Walking, One, ProcessState, new_process}
use Rattle.fd_table.specs.Descriptions.{Access, Object, At_end, Initial, Descriptor, descriptor_of}
use Rattle.kernel.specs.World.{World}
use Rattle.kernel.specs.Answers.{Event}
use Rattle.kernel.proofs.Samples.{base, described, reading, row_of, world_of}

-- one process, with these objects by description and these entries
abbrev pub holding : List Object → List (Option Descriptor) → World
holding objects entries = world_of base objects (new_process 0 false ∷ []) (put (λ p n. None) 0 (row_of entries))

abbrev pub all : ℕ → Option Descriptor
all description = Some (described description)

abbrev pub with_rights : ℕ → ℕ → Option Descriptor
with_rights description rights = Some (descriptor_of description rights all_commands)

-- the right to rename into a directory, and none to replace
abbrev pub to_rename_to : Option Descriptor
to_rename_to = with_rights 0 (bit_or lookup_right renameat_target_right)

abbrev pub no_free : List (Option Descriptor)
no_free = replicate 16 (all 0)

abbrev pub writing : Access
writing = record { readable = false; writable = true }

-- `/work`, the root, `/work/in`, `/work/out`, and the two ends of a pair
abbrev pub dir : Object
dir = reading 1

abbrev pub root : Object
root = reading 0

abbrev pub file : Object
file = reading 2

abbrev pub out : Object
out = reading 3

abbrev pub end_a : Object
end_a = At_end 0 0 (Initial 0)

abbrev pub end_b : Object
end_b = At_end 0 1 (Initial 0)

-- with each file at its greatest length, with so many messages from side a, and with sixteen processes
abbrev pub at_end : World → World
at_end w = record w { files = record w.files { states = λ n. record { offset = 4096; append = false; nonblock = false } } }

abbrev pub queued : ℕ → World → World
queued n w = record w { files = record w.files { queue = λ pair side. replicate n (record { byte = 0; passed = None }) } }

abbrev pub crowded : World → World
crowded w = record w { processes = replicate 16 (new_process 0 false) }

-- with sockets that don't block, with as many nodes as there may be, with a file in `/work/out`, and without `/work/out`
abbrev pub unblocked : World → World
unblocked w = record w { files = record w.files { states = λ n. record { offset = 0; append = false; nonblock = true } } }

abbrev pub full : World → World
full w = record w { tree = w.tree ++ replicate 1012 nowhere }

abbrev pub deep : World → World
deep w = record w { tree = created w.tree 3 (codes "y") File [] }

abbrev pub without_out : World → World
without_out w = record w { tree = removed w.tree 3 }

abbrev pub quiet : Event
quiet = record { process = 0; input = 0; refuse = false }

abbrev pub refusing : Event
refusing = record { process = 0; input = 0; refuse = true }

abbrev pub to_read : OpenRequest
to_read = open_request true false false false false

abbrev pub to_write : OpenRequest
to_write = open_request false true false false false

abbrev pub to_make : OpenRequest
to_make = open_request false true false true false

abbrev pub free_process : ProcessState
free_process = new_process 0 false

abbrev pub in_mode : ProcessState
in_mode = new_process 0 true

-- lookups that have come to a node by some directories, the latest first, and have one name left
abbrev pub at_last : Way → Last → ℕ → List ℕ → Name → WalkState
at_last way last n before name = record {
  way = way;
  last = last;
  stand = record { cursor = record { current = n; before = before }; left = name ∷ []; followed = 0 };
}

abbrev pub walking : Walking → ProcessState
walking w = record free_process { walk = Some w }

-- from the root into `/work`, for the last name there
abbrev pub in_work : Last → Name → ProcessState
in_work last name = walking (One (at_last Global last 1 (0 ∷ []) name))
