-- What no step does: descriptors that would come from nowhere, in a world of two processes, and a mode that is left. The first holds a descriptor with
-- all rights, the second one to read through.
use Rattle.std.specs.Prelude.{ℕ, Bool, true, false, List, [], ◌∷◌, map, Option, Some, None}
use Rattle.rights.specs.Maps.{put2}
use Rattle.rights.specs.Opens.{open_request}
use Rattle.rights.specs.Sets.{all_rights, all_commands, further_right, read_right}
use Rattle.process.specs.State.{new_process}
use Rattle.instruction_set.specs.Programs.{Syscall, Number, Open, Openat, Read, Write, Sendfd, Recvfd, Lseek, Ftruncate, Fsync, Fstat, Fcntl_getfl, Fcntl_setfl, Fstatat, Stat, Mkdirat}
use Rattle.instruction_set.specs.Programs.{Mkdir, Unlinkat, Unlink, Renameat, Dup, Close, Cap_rights_limit, Cap_fcntls_limit, Cap_enter, Cap_getmode, Fork, Use, Set, Halt, Invoke}
use Rattle.fd_table.specs.Descriptions.{Initial, At_node, At_end, Descriptor, Message, descriptor_of, message_of, new_state}
use Rattle.kernel.specs.World.{World}
use Rattle.kernel.specs.Answers.{Event}
use Rattle.kernel.specs.Steps.{Programs}
use Rattle.kernel.specs.Origins.{Caller, caller_of}
use Rattle.kernel.specs.Gains.{GainsNothing}

abbrev pub wide : Descriptor
wide = descriptor_of 0 all_rights all_commands

abbrev pub narrow : Descriptor
narrow = descriptor_of 1 read_right 0

abbrev pub two_tables : ℕ → ℕ → Option Descriptor
two_tables = put2 (put2 (λ p n. None) 0 0 (Some wide)) 1 0 (Some narrow)

abbrev pub two_processes : World
two_processes = record {
  tree = [];
  files = record {
    objects = λ n. At_node 0 (record { readable = true; writable = true });
    states = λ n. new_state false;
    queue = λ pair side. [];
    pairs = 0;
    table = two_tables;
  };
  processes = new_process 0 false ∷ new_process 0 false ∷ [];
}

-- the second process makes the call, in the mode or not
abbrev pub second : Bool → Syscall → Caller
second mode call = record { process = 1; state = new_process 0 mode; call = call }

abbrev pub opens : Syscall
opens = Open [] (open_request true false false false false)

abbrev pub opens_in_directory : Syscall
opens_in_directory = Openat (Number 0) [] (open_request true false false false false)

abbrev pub sends : Syscall
sends = Sendfd (Number 0) (Number 0) (Number 0)

abbrev pub receives : Syscall
receives = Recvfd (Number 0)

-- The calls that make no descriptor of their process: a receiver makes one elsewhere, a child holds its own.
abbrev pub calls_that_make_none : List Syscall
calls_that_make_none =
    Read (Number 0) ∷ Write (Number 0) (Number 0) ∷ sends ∷ Lseek (Number 0) (Number 0) ∷ Ftruncate (Number 0) (Number 0)
    ∷ Fsync (Number 0) ∷ Fstat (Number 0) ∷ Fcntl_getfl (Number 0) ∷ Fcntl_setfl (Number 0) (Number 0) ∷ Fstatat (Number 0) []
    ∷ Stat [] ∷ Mkdirat (Number 0) [] ∷ Mkdir [] ∷ Unlinkat (Number 0) [] false ∷ Unlink [] false
    ∷ Renameat (Number 0) [] (Number 0) [] ∷ Close (Number 0) ∷ Cap_enter ∷ Cap_getmode ∷ Fork
    ∷ Use (Number 0) (further_right 4) ∷ []

-- a world with a descriptor at (p, n), with messages of end (0, 0), and with other processes
abbrev pub with_held : World → ℕ → ℕ → Descriptor → World
with_held w p n d = record w { files = record w.files { table = put2 w.files.table p n (Some d) } }

abbrev pub with_at : ℕ → ℕ → Descriptor → World
with_at p n d = with_held two_processes p n d

abbrev pub carries : Descriptor → Message
carries d = message_of 0 (Some d)

abbrev pub with_messages : World → List Message → World
with_messages w messages = record w { files = record w.files { queue = put2 w.files.queue 0 0 messages } }

abbrev pub with_message : World → Descriptor → World
with_message w d = with_messages w (carries d ∷ [])

-- the same with that end of a pair behind each descriptor
abbrev pub at_ends : ℕ → ℕ → World
at_ends pair side = record two_processes { files = record two_processes.files { objects = λ n. At_end pair side (Initial 0) } }

-- The second process receives at that side of pair 0, where side 0 has sent the narrow descriptor.
abbrev pub receiving : ℕ → World
receiving side = with_message (at_ends 0 side) narrow

abbrev pub with_modes : List Bool → World
with_modes modes = record two_processes { processes = map (new_process 0) modes }

-- Programs whose first instruction is a call, or is none; an event of a process; and the second process ended.
abbrev pub copying : Programs
copying n = Invoke (Dup (Number 0)) 1 ∷ Halt ∷ []

abbrev pub setting : Programs
setting n = Set 0 0 ∷ Halt ∷ []

abbrev pub event_by : ℕ → Event
event_by p = record { process = p; input = 0; refuse = false }

abbrev pub second_ended : World
second_ended = record two_processes { processes = new_process 0 false ∷ record (new_process 0 false) { alive = false } ∷ [] }

-- the second process has no such descriptor by any of these calls
abbrev pub NoneMakes : List Syscall → Type 0
NoneMakes [] = Unit {0}
NoneMakes (call ∷ calls) = (GainsNothing two_processes 1 (Some (second false call)) (with_at 1 1 wide) → ⊥) × NoneMakes calls

-- What no step does, from these worlds to others.
pub record NothingComesFromElsewhere : Type 0 where
  -- `fork` alone copies a table, and for its child alone: a child of the second process hasn't the first one's table, and no other process has its
  pub no_other_table : GainsNothing two_processes 1 (Some (second false Fork)) (with_at 2 0 wide) → ⊥
  pub no_other_child : GainsNothing two_processes 1 (Some (second false Fork)) (with_at 3 0 narrow) → ⊥
  pub no_other_copy : GainsNothing two_processes 1 (Some (second false (Dup (Number 0)))) (with_at 2 0 narrow) → ⊥
  -- a dup is its process's, and has no rights and no commands that its original hasn't
  pub no_dup_for_another : GainsNothing two_processes 1 (Some (second false (Dup (Number 0)))) (with_at 0 1 narrow) → ⊥
  pub no_other_rights : GainsNothing two_processes 1 (Some (second false (Dup (Number 0)))) (with_at 1 1 wide) → ⊥
  pub no_other_commands : GainsNothing two_processes 1 (Some (second false (Dup (Number 0)))) (with_at 1 1 (record narrow { fcntls = all_commands })) → ⊥
  -- a limit doesn't widen, and leaves what it narrows where it stood
  pub no_wider_limit : GainsNothing two_processes 1 (Some (second false (Cap_rights_limit (Number 0) all_rights))) (with_at 1 0 (record narrow { rights = all_rights })) → ⊥
  pub no_wider_command_limit :
      GainsNothing two_processes 1 (Some (second false (Cap_fcntls_limit (Number 0) all_commands)))
      (with_at 1 0 (record narrow { fcntls = all_commands }))
      → ⊥
  pub no_limit_elsewhere : GainsNothing two_processes 1 (Some (second false (Cap_rights_limit (Number 0) read_right))) (with_at 1 1 narrow) → ⊥
  pub no_command_limit_elsewhere : GainsNothing two_processes 1 (Some (second false (Cap_fcntls_limit (Number 0) 0))) (with_at 1 1 narrow) → ⊥
  -- an `openat` has no more than its directory
  pub no_wider_openat : GainsNothing two_processes 1 (Some (second false opens_in_directory)) (with_at 1 1 wide) → ⊥
  -- an `open` takes no number that is taken, makes nothing in the mode, and has all rights and commands
  pub no_taken_number : GainsNothing two_processes 1 (Some (second false opens)) (with_at 1 0 wide) → ⊥
  pub no_open_in_the_mode : GainsNothing two_processes 1 (Some (second true opens)) (with_at 1 1 wide) → ⊥
  pub no_open_of_other_rights : GainsNothing two_processes 1 (Some (second false opens)) (with_at 1 1 (record wide { rights = read_right })) → ⊥
  pub no_open_of_other_commands : GainsNothing two_processes 1 (Some (second false opens)) (with_at 1 1 (record wide { fcntls = 0 })) → ⊥
  -- the twenty-one calls that make no descriptor of their process make none, `fork` among them
  pub no_making : NoneMakes calls_that_make_none
  -- what is received has no more than what the front message carries that the other end has sent, through an end that is open
  pub no_wider_receive : GainsNothing (receiving 1) 1 (Some (second false receives)) (with_held (receiving 1) 1 1 wide) → ⊥
  pub no_receive_of_ones_own :
      GainsNothing (receiving 0) 1 (Some (second false receives)) (with_held (receiving 0) 1 1 narrow) → ⊥
  pub no_receive_through_a_file : GainsNothing two_processes 1 (Some (second false receives)) (with_at 1 1 narrow) → ⊥
  pub no_receive_through_nothing :
      GainsNothing (receiving 1) 1 (Some (second false (Recvfd (Number 1)))) (with_held (receiving 1) 1 1 narrow) → ⊥
  -- a message carries what was sent with it and no more, also behind another message
  pub no_unsent_message : GainsNothing two_processes 1 None (with_message two_processes wide) → ⊥
  pub no_other_message : GainsNothing (with_message two_processes narrow) 1 None (with_message two_processes wide) → ⊥
  pub no_message_behind :
      GainsNothing (with_message two_processes narrow) 1 None
      (with_messages two_processes (carries narrow ∷ carries wide ∷ []))
      → ⊥
  pub no_wider_message : GainsNothing (at_ends 0 0) 1 (Some (second false sends)) (with_message (at_ends 0 0) wide) → ⊥
  -- `sendfd` alone sends, through an end that is open, into that end's queue
  pub no_other_end : GainsNothing (at_ends 0 1) 1 (Some (second false sends)) (with_message (at_ends 0 1) narrow) → ⊥
  pub no_other_pair : GainsNothing (at_ends 1 0) 1 (Some (second false sends)) (with_message (at_ends 1 0) narrow) → ⊥
  pub no_sending_through_a_file : GainsNothing two_processes 1 (Some (second false sends)) (with_message two_processes narrow) → ⊥
  pub no_sending_through_nothing :
      GainsNothing (at_ends 0 0) 1 (Some (second false (Sendfd (Number 1) (Number 0) (Number 0))))
      (with_message (at_ends 0 0) narrow)
      → ⊥
  pub no_other_sender :
      GainsNothing (at_ends 0 0) 1 (Some (second false (Dup (Number 0)))) (with_message (at_ends 0 0) narrow) → ⊥
  -- a process that has ended or was never made makes no call, and an instruction that is none makes nothing
  pub no_call_of_the_ended :
      GainsNothing second_ended 1 (caller_of copying second_ended (event_by 1)) (with_held second_ended 1 1 narrow) → ⊥
  pub no_call_of_the_unmade : GainsNothing two_processes 2 (caller_of copying two_processes (event_by 2)) (with_at 2 1 wide) → ⊥
  pub no_call_at_no_call : GainsNothing two_processes 1 (caller_of setting two_processes (event_by 1)) (with_at 1 1 wide) → ⊥
  -- nobody leaves the mode, no child of one in it is outside, and no process vanishes or comes from nowhere
  pub no_left_mode : GainsNothing (with_modes (true ∷ false ∷ [])) 0 None (with_modes (false ∷ false ∷ [])) → ⊥
  pub no_child_outside : GainsNothing (with_modes (true ∷ [])) 0 (Some (record { process = 0; state = new_process 0 true; call = Fork })) (with_modes (true ∷ false ∷ [])) → ⊥
  pub no_process_vanishes : GainsNothing (with_modes (false ∷ false ∷ [])) 0 None (with_modes (false ∷ [])) → ⊥
  pub no_process_from_nowhere : GainsNothing (with_modes (false ∷ [])) 1 None (with_modes (false ∷ false ∷ [])) → ⊥
