-- What each system call answers: its tests in the order in which they are asked, and what a success
-- gives, changes and does. An error sets r7 and has no change; a call that waits changes nothing.
use Rattle.std.specs.Prelude.{ℕ, ◌+◌, ◌-◌, ◌%◌, ◌==◌, Bool, true, false, ◌&&◌, ◌||◌, not, bit_or, nat_eq, nat_lt, nat_le, List, [], ◌∷◌, length, Option, Some, None, if◌then◌else◌}
use Rattle.std.specs.List.{slice_get}
use Rattle.rights.specs.Values.{Place, PathText, Content, NodeNumber, DescriptionNumber, DescriptorNumber, PairNumber, SideNumber, RightSet, CommandSet}
use Rattle.rights.specs.Sets.{is_within, all_rights, all_commands, getfl_command, setfl_command}
use Rattle.rights.specs.Needs.{First, Second, needs_of}
use Rattle.rights.specs.Opens.{OpenRequest, no_request}
use Rattle.rights.specs.Errors.{Errno, EPERM, ENOENT, EBADF, EEXIST, ENOTDIR, EISDIR, EINVAL, ENFILE, EMFILE, EFBIG, ENOSPC, EPIPE, EAGAIN, ENOTSOCK, ELOOP, ENOTEMPTY, ENOTCAPABLE}
use Rattle.rights.specs.Errors.{ECAPMODE, CapMode, MissingRight, Path, Full, Refused}
use Rattle.rights.specs.Errors as errors
use Rattle.rights.specs.Uses.{acts_beneath, companions_of, operation_of_use, reaches_globally}
use Rattle.rights.specs.Operations.{Operation, Look, Read as Reads, Write as Writes, Create as Creates, Remove as Removes}
use Rattle.file_tree.specs.Places.{begins, at_name}
use Rattle.file_tree.specs.Nodes.{Kind, File, Dir, Link, Node, node, is_dir, is_file, has_below}
use Rattle.rights.specs.Limits.{most_nodes, most_bytes, most_messages, most_processes, most_descriptors}
use Rattle.file_tree.specs.Changes.{resized, written}
use Rattle.lookup.specs.Answers.{Way, Beneath, Global, Last, Follow, Keep, LookupFault, No_entry, Found_node, Found_free, Not_found}
use Rattle.lookup.specs.Answers as lookups
use Rattle.lookup.specs.Paths.{last_component}
use Rattle.lookup.specs.Looks.{lookup_fault}
use Rattle.lookup.specs.Walks.{WalkState, Progress, Done, More, begun, first_handled, handled}
use Rattle.process.specs.State.{ProcessState, Walking, One, Two}
use Rattle.instruction_set.specs.Programs.{Operand, Syscall, Open, Openat, Read, Write, Sendfd, Recvfd, Lseek, Ftruncate, Fsync, Fstat, Fcntl_getfl, Fcntl_setfl, Fstatat, Stat, Mkdirat}
use Rattle.instruction_set.specs.Programs.{Mkdir, Unlinkat, Unlink, Renameat, Dup, Close, Cap_rights_limit, Cap_fcntls_limit, Cap_enter, Cap_getmode, Socketpair, Fork, Use, called}
use Rattle.rights.specs.Sides.{other_side}
use Rattle.fd_table.specs.Descriptions.{Access, PairClass, Made_at, Made_by, State, Descriptor, Message, bit_of, status_number, with_status}
use Rattle.fd_table.specs.OpenFiles.{is_open, lowest_from, lowest_free}
use Rattle.kernel.specs.World.{World}
use Rattle.kernel.specs.Answers.{Event, Effect, Make, Remove, Move, Fill, TreeChange, Same_tree, Set_entry, Clear_entry, New_file, New_pair, New_process, Push, Pop, Set_state}
use Rattle.kernel.specs.Answers.{Change, Answer, Fails, Waits, Gives, Walks, same, gives, does, unless, held, granted, commanded, through, at_object, at_number, lookup_fails, value_of}

-- a final name that is made is kept as it is: no link is followed there (own)
abbrev pub last_if : Bool → Last
last_if true = Keep
last_if false = Follow

-- what fstat tells: 1 of a file, 2 of a directory (own)
abbrev pub kind_number : Kind → ℕ
kind_number File = 1
kind_number Dir = 2
kind_number Link = 3

-- an open that empties its file, and what that does
abbrev pub truncated : Bool → NodeNumber → TreeChange
truncated true n = Fill n []
truncated false n = Same_tree

abbrev pub truncates : Bool → Place → List Effect
truncates true place = does Writes place
truncates false place = []

-- where a write goes: to the end with append, else to the offset
abbrev pub write_offset : State → Content → ℕ
write_offset state content = if state.append then length content else state.offset

-- the event of a call that has nothing under way yet, or the one that goes on with what it has
abbrev pub resumed_one : Option Walking → Progress → (WalkState → Progress) → Progress
resumed_one (Some (One walk)) first later = later walk
resumed_one _ first later = first

abbrev pub resumed_both : Option Walking → Answer → (WalkState → WalkState → Answer) → Answer
resumed_both (Some (Two one other)) first later = later one other
resumed_both _ first later = first

-- The call goes on with what is found, or has names left and keeps what is under way.
abbrev pub walked : (WalkState → Walking) → (lookups.Finding → Answer) → Progress → Answer
walked keep rest (Done finding) = rest finding
walked keep rest (More walk) = Walks (keep walk)

-- a call on what is there goes on with the node
abbrev pub existing : lookups.Finding → (NodeNumber → Answer) → Answer
existing (Not_found fault) rest = lookup_fails fault
existing (Found_free d) rest = Fails ENOENT Path
existing (Found_node n) rest = rest n

-- why a call with two paths ends before both are found
abbrev pub or_fails : Option LookupFault → Answer → Answer
or_fails None rest = rest
or_fails (Some fault) rest = lookup_fails fault

-- A lookup ends before its last name by a fault alone.
abbrev pub lost : lookups.Finding → Answer
lost finding = existing finding (λ n. Fails ENOENT Path)

-- what a call that needs a further right does at a place
abbrev pub effects_by : Option Operation → Place → List Effect
effects_by None place = []
effects_by (Some operation) place = does operation place

abbrev pub effects_of_use : RightSet → Place → List Effect
effects_of_use right place = effects_by (operation_of_use right) place

-- whether one name is left, the last one
abbrev pub is_at_last : WalkState → Bool
is_at_last walk = nat_eq (length walk.stand.left) 1

-- A last name that is kept always ends its lookup; names that are left never come.
abbrev pub found_last : Progress → lookups.Finding
found_last (Done finding) = finding
found_last (More walk) = Not_found No_entry

-- A pair is of the class of its maker's point, but that of an untrusted program's process in capability mode is of one that no
-- certificate can name. (own)
abbrev pub own_class : ProcessState → PairClass
own_class s = if s.marked && s.mode then Made_by s.program else Made_at s.program s.point

-- In this world, process p, which stands at s, makes its call at this event.
module _ (w : World) (p : ℕ) (s : ProcessState) (e : Event) where
  abbrev pub at : NodeNumber → Node
  at n = node w.tree n

  abbrev pub entry : Operand → Option Descriptor
  entry x = w.files.table p (value_of s x)

  abbrev pub state_of : DescriptionNumber → State
  state_of description = w.files.states description

  abbrev pub free : Option DescriptorNumber
  free = lowest_free (w.files.table p)

  -- the rights that the call needs of its first descriptor, and of its second (rights(4))
  abbrev pub first_need : Syscall → OpenRequest → RightSet
  first_need call request = needs_of (called call) request First false

  -- Global name spaces can't be reached in capability mode. (capsicum(4), cap_enter(2))
  abbrev pub outside_mode : Answer → Answer
  outside_mode rest = unless (not s.mode) ECAPMODE CapMode rest

  -- the kernel refuses (own: any call that makes something may be refused)
  abbrev pub unrefused : Errno → Answer → Answer
  unrefused errno rest = unless (not e.refuse) errno Refused rest

  -- the description's directory (openat(2), ENOTDIR)
  abbrev pub in_directory : DescriptionNumber → (NodeNumber → Answer) → Answer
  in_directory description rest =
      at_object (w.files.objects description)
      (λ n access. unless (is_dir (at n).kind) ENOTDIR errors.Kind (rest n))
      (λ pair side. Fails ENOTDIR errors.Kind)

  -- the description's file
  abbrev pub at_file : DescriptionNumber → (NodeNumber → Access → Answer) → Answer
  at_file description rest =
      at_object (w.files.objects description)
      (λ n access. unless (is_file (at n).kind) EINVAL errors.Kind (rest n access))
      (λ pair side. Fails EINVAL errors.Kind)

  -- the description's socket
  abbrev pub at_socket : DescriptionNumber → (PairNumber → SideNumber → Answer) → Answer
  at_socket description rest = at_object (w.files.objects description) (λ n access. Fails ENOTSOCK errors.Kind) rest

  -- a call that can't go on waits, or fails if its socket is told not to block (fcntl(2), O_NONBLOCK)
  abbrev pub blocked : Bool → Answer
  blocked nonblock = if nonblock then Fails EAGAIN Refused else Waits

  -- ## Lookups
  -- Every lookup of a call is one of these two. An event looks one name up: the first event of the call begins, and a later one goes
  -- on with what the process has under way. What is found at the end goes to the rest of the call.
  unfoldable pub looks : NodeNumber → Way → PathText → Last → (lookups.Finding → Answer) → Answer
  looks start way path last rest = walked One rest (resumed_one s.walk (first_handled w.tree start path way last) (handled w.tree))

  -- The old path is walked until one name is left, then the new one. Both last names are looked up in one event. What is wrong with
  -- the text or the start of either is told in the first event, the old one's first. (own)
  abbrev pub walked_both : (lookups.Finding → lookups.Finding → Answer) → WalkState → WalkState → Answer
  walked_both rest one other =
      if not (is_at_last one) then walked (λ walk. Two walk other) lost (handled w.tree one)
      else (if not (is_at_last other) then walked (λ walk. Two one walk) lost (handled w.tree other)
      else rest (found_last (handled w.tree one)) (found_last (handled w.tree other)))

  unfoldable pub looks_twice : NodeNumber → PathText → NodeNumber → PathText → (lookups.Finding → lookups.Finding → Answer) → Answer
  looks_twice n from m to rest =
      resumed_both s.walk
      (or_fails (lookup_fault w.tree n from Beneath Keep)
      (or_fails (lookup_fault w.tree m to Beneath Keep) (walked_both rest (begun n from Beneath Keep) (begun m to Beneath Keep))))
      (walked_both rest)

  -- ## open and openat (open(2))
  -- What is found is opened with these rights and commands: all of them by `open`, those of the directory's
  -- descriptor by `openat` (own).
  abbrev pub access_for : OpenRequest → Access
  access_for f = record { readable = f.read; writable = f.write }

  abbrev pub new_file : OpenRequest → RightSet → CommandSet → DescriptorNumber → NodeNumber → TreeChange → Change
  new_file f rights fcntls number n tree =
      record same { tree = tree; table = New_file number n (access_for f) f.append rights fcntls }

  abbrev pub opened_as : OpenRequest → RightSet → CommandSet → NodeNumber → Kind → Answer
  opened_as f rights fcntls n Link = Fails ELOOP Path
  opened_as f rights fcntls n Dir =
      unless (not (f.write || f.create)) EISDIR Path
      (at_number free (λ number. unrefused ENFILE (Gives number (new_file f rights fcntls number n Same_tree) [])))
  opened_as f rights fcntls n File =
      at_number free (λ number.
      unrefused ENFILE
      (Gives number (new_file f rights fcntls number n (truncated f.trunc n)) (truncates f.trunc (at n).place)))

  abbrev pub opened_new : OpenRequest → RightSet → CommandSet → Place → Answer
  opened_new f rights fcntls place =
      at_number free (λ number.
      unless (nat_lt (length w.tree) most_nodes) ENOSPC Full
      (unrefused ENFILE
      (Gives number (new_file f rights fcntls number (length w.tree) (Make place File)) (does Creates place))))

  abbrev pub opened : OpenRequest → RightSet → CommandSet → PathText → lookups.Finding → Answer
  opened f rights fcntls path (Not_found fault) = lookup_fails fault
  opened f rights fcntls path (Found_free d) = opened_new f rights fcntls (at_name (at d).place (last_component path))
  opened f rights fcntls path (Found_node n) = opened_as f rights fcntls n (at n).kind

  -- ## read (read(2), recv(2))
  -- A byte of a file, or 256 at its end; a directory isn't read. A message of a socket gives its byte, and
  -- the descriptor that it carries is dropped.
  abbrev pub read_byte : DescriptionNumber → Place → Option ℕ → Answer
  read_byte description place None = Gives 256 same (does Reads place)
  read_byte description place (Some byte) =
      Gives byte (record same { state = Set_state description (record (state_of description) { offset = (state_of description).offset + 1 }) }) (does Reads place)

  abbrev pub read_node : DescriptionNumber → NodeNumber → Access → Answer
  read_node description n access =
      unless (not (is_dir (at n).kind)) EISDIR errors.Kind
      (unless access.readable EBADF errors.Access
      (read_byte description (at n).place (slice_get (at n).content (state_of description).offset)))

  abbrev pub read_end : DescriptionNumber → PairNumber → SideNumber → List Message → Answer
  read_end description pair side [] = if is_open w.files pair (other_side side) then blocked (state_of description).nonblock else gives 256
  read_end description pair side (m ∷ messages) = Gives m.byte (record same { queue = Pop pair (other_side side) }) []

  -- ## write (write(2), send(2))
  -- One byte at the offset, or at the end with append; a gap is filled with zeros.
  abbrev pub write_at : DescriptionNumber → NodeNumber → ℕ → ℕ → Answer
  write_at description n offset byte =
      unless (nat_lt offset most_bytes) EFBIG Full
      (unrefused ENOSPC
      (Gives 1
      (record same {
        tree = Fill n (written (at n).content offset byte);
        state = Set_state description (record (state_of description) { offset = offset + 1 });
      })
      (does Writes (at n).place)))

  abbrev pub write_node : DescriptionNumber → NodeNumber → Access → ℕ → Answer
  write_node description n access byte =
      unless (not (is_dir (at n).kind)) EISDIR errors.Kind
      (unless access.writable EBADF errors.Access (write_at description n (write_offset (state_of description) (at n).content) byte))

  -- A message goes behind what the side has sent, if the other end is open and there is room. (EPIPE)
  abbrev pub sent_end : DescriptionNumber → PairNumber → SideNumber → Message → Answer
  sent_end description pair side message =
      unless (is_open w.files pair (other_side side)) EPIPE Refused
      (if nat_lt (length (w.files.queue pair side)) most_messages
      then Gives 1 (record same { queue = Push pair side message }) []
      else blocked (state_of description).nonblock)

  -- ## lseek, ftruncate and fcntl (lseek(2), ftruncate(2), fcntl(2))
  -- The offset is set, at most to a file's greatest length.
  abbrev pub seeks : DescriptionNumber → ℕ → Answer
  seeks description offset =
      unless (nat_le offset most_bytes) EINVAL Refused
      (Gives offset (record same { state = Set_state description (record (state_of description) { offset = offset }) }) [])

  -- The file gets another length.
  abbrev pub resizes : NodeNumber → Access → ℕ → Answer
  resizes n access len =
      unless access.writable EINVAL errors.Access
      (unless (nat_le len most_bytes) EFBIG Full
      (Gives 0 (record same { tree = Fill n (resized (at n).content len) }) (does Writes (at n).place)))

  -- The status flags are set, if the number is one of flags.
  abbrev pub sets_flags : DescriptionNumber → ℕ → Answer
  sets_flags description flags =
      unless (nat_le flags 3) EINVAL Refused
      (Gives 0 (record same { state = Set_state description (with_status (state_of description) flags) }) [])

  -- ## recvfd (recvmsg(2), SCM_RIGHTS)
  -- The front message's descriptor, with the rights that it has; a message without one stays.
  abbrev pub received : PairNumber → SideNumber → DescriptorNumber → Option Descriptor → Answer
  received pair side number None = Fails EINVAL Refused
  received pair side number (Some d) =
      Gives number (record same { queue = Pop pair (other_side side); table = Set_entry number d }) []

  abbrev pub receive_end : DescriptionNumber → PairNumber → SideNumber → DescriptorNumber → List Message → Answer
  receive_end description pair side number [] =
      unless (is_open w.files pair (other_side side)) EINVAL Refused (blocked (state_of description).nonblock)
  receive_end description pair side number (m ∷ messages) = received pair side number m.passed

  -- ## fstat, fstatat and stat (fstat(2))
  abbrev pub stats : NodeNumber → Answer
  stats n = Gives (kind_number (at n).kind) same (does Look (at n).place)

  abbrev pub stats_at : lookups.Finding → Answer
  stats_at found = existing found stats

  -- ## mkdirat and mkdir (mkdir(2))
  abbrev pub made_directory : PathText → lookups.Finding → Answer
  made_directory path (Not_found fault) = lookup_fails fault
  made_directory path (Found_node n) = Fails EEXIST Path
  made_directory path (Found_free d) =
      unless (nat_lt (length w.tree) most_nodes) ENOSPC Full
      (unrefused ENOSPC
      (Gives 0 (record same { tree = Make (at_name (at d).place (last_component path)) Dir })
      (does Creates (at_name (at d).place (last_component path)))))

  -- ## unlinkat and unlink (unlink(2), rmdir(2))
  abbrev pub unlinks_as : Bool → NodeNumber → Answer → Answer
  unlinks_as true n rest =
      unless (is_dir (at n).kind) ENOTDIR Path (unless (not (has_below w.tree (at n).place)) ENOTEMPTY Path rest)
  unlinks_as false n rest = unless (not (is_dir (at n).kind)) EPERM Path rest

  abbrev pub unlinks : Bool → lookups.Finding → Answer
  unlinks directory found =
      existing found (λ n. unlinks_as directory n (Gives 0 (record same { tree = Remove n }) (does Removes (at n).place)))

  -- ## renameat (rename(2))
  -- Into a free name, or over another node, whose kind has to fit. A node that is replaced is removed, which
  -- needs the right to unlink too (rights(4)).
  abbrev pub moves : NodeNumber → Place → Change
  moves n place = record same { tree = Move n place }

  abbrev pub renamed_free : NodeNumber → Place → Answer
  renamed_free n place =
      unless (not (begins (at n).place place)) EINVAL Path
      (Gives 0 (moves n place)
      (record { operation = Removes; place = (at n).place } ∷ record { operation = Creates; place = place } ∷ []))

  abbrev pub renamed_over : NodeNumber → NodeNumber → Answer
  renamed_over n m =
      unless (not (begins (at n).place (at m).place)) EINVAL Path
      (unless (not (is_dir (at n).kind && not (is_dir (at m).kind))) ENOTDIR Path
      (unless (not (not (is_dir (at n).kind) && is_dir (at m).kind)) EISDIR Path
      (unless (not (has_below w.tree (at m).place)) ENOTEMPTY Path
      (Gives 0 (moves n (at m).place)
      (record { operation = Removes; place = (at m).place } ∷ record { operation = Removes; place = (at n).place }
      ∷ record { operation = Creates; place = (at m).place } ∷ [])))))

  abbrev pub renamed_to : Syscall → Descriptor → NodeNumber → PathText → lookups.Finding → Answer
  renamed_to call target n path (Not_found fault) = lookup_fails fault
  renamed_to call target n path (Found_free d) = renamed_free n (at_name (at d).place (last_component path))
  renamed_to call target n path (Found_node m) =
      if n == m then gives 0
      else granted (needs_of (called call) no_request Second true) target (renamed_over n m)

  -- ## socketpair (socketpair(2))
  -- The two lowest free numbers.
  abbrev pub pair_at : Option DescriptorNumber → Answer
  pair_at None = Fails EMFILE Full
  pair_at (Some first) =
      at_number (lowest_from (most_descriptors - 1 - first) (first + 1) (w.files.table p)) (λ second.
      unrefused ENFILE (Gives first (record same { table = New_pair first second (own_class s) }) []))

  -- ## use: each call that needs a further right (rights(4); that it changes nothing here is own)
  -- through a directory, where it acts beneath one
  abbrev pub used : Bool → List Effect → Answer
  used fits effects = unless fits ENOTDIR errors.Kind (unrefused EAGAIN (Gives 0 same effects))

  -- ## The calls
  unfoldable pub answer : Syscall → Answer
  answer (Open path f) = outside_mode (looks 0 Global path (last_if f.create) (opened f all_rights all_commands path))
  answer (Openat x path f) =
      through (first_need (Openat x path f) f) (entry x) (λ d.
      in_directory d.description (λ n. looks n Beneath path (last_if f.create) (opened f d.rights d.fcntls path)))
  answer (Read x) =
      through (first_need (Read x) no_request) (entry x) (λ d.
      at_object (w.files.objects d.description) (read_node d.description)
      (λ pair side. read_end d.description pair side (w.files.queue pair (other_side side))))
  answer (Write x v) =
      through (first_need (Write x v) no_request) (entry x) (λ d.
      at_object (w.files.objects d.description)
      (λ n access. write_node d.description n access (value_of s v % 256))
      (λ pair side. unrefused ENOSPC (sent_end d.description pair side (record { byte = value_of s v % 256; passed = None }))))
  answer (Sendfd x y v) =
      held (entry x) (λ d.
      held (entry y) (λ passed.
      granted (first_need (Sendfd x y v) no_request) d
      (at_socket d.description (λ pair side. sent_end d.description pair side (record { byte = value_of s v % 256; passed = Some passed })))))
  answer (Recvfd x) =
      through (first_need (Recvfd x) no_request) (entry x) (λ d.
      at_socket d.description (λ pair side.
      at_number free (λ number. receive_end d.description pair side number (w.files.queue pair (other_side side)))))
  answer (Lseek x v) =
      through (first_need (Lseek x v) no_request) (entry x) (λ d.
      at_file d.description (λ n access. seeks d.description (value_of s v)))
  answer (Ftruncate x v) =
      through (first_need (Ftruncate x v) no_request) (entry x) (λ d.
      at_file d.description (λ n access. resizes n access (value_of s v)))
  answer (Fsync x) =
      through (first_need (Fsync x) no_request) (entry x) (λ d.
      at_object (w.files.objects d.description) (λ n access. gives 0) (λ pair side. Fails EINVAL errors.Kind))
  answer (Fstat x) =
      through (first_need (Fstat x) no_request) (entry x) (λ d.
      at_object (w.files.objects d.description) (λ n access. stats n) (λ pair side. gives 3))
  answer (Fcntl_getfl x) =
      through (first_need (Fcntl_getfl x) no_request) (entry x) (λ d.
      commanded getfl_command d (gives (status_number (state_of d.description))))
  answer (Fcntl_setfl x v) =
      through (first_need (Fcntl_setfl x v) no_request) (entry x) (λ d.
      commanded setfl_command d (sets_flags d.description (value_of s v)))
  answer (Fstatat x path) =
      through (first_need (Fstatat x path) no_request) (entry x) (λ d.
      in_directory d.description (λ n. looks n Beneath path Follow stats_at))
  answer (Stat path) = outside_mode (looks 0 Global path Follow stats_at)
  answer (Mkdirat x path) =
      through (first_need (Mkdirat x path) no_request) (entry x) (λ d.
      in_directory d.description (λ n. looks n Beneath path Keep (made_directory path)))
  answer (Mkdir path) = outside_mode (looks 0 Global path Keep (made_directory path))
  answer (Unlinkat x path directory) =
      through (first_need (Unlinkat x path directory) no_request) (entry x) (λ d.
      in_directory d.description (λ n. looks n Beneath path Keep (unlinks directory)))
  answer (Unlink path directory) = outside_mode (looks 0 Global path Keep (unlinks directory))
  answer (Renameat x from y to) =
      held (entry x) (λ d.
      held (entry y) (λ target.
      granted (first_need (Renameat x from y to) no_request) d
      (granted (needs_of (called (Renameat x from y to)) no_request Second false) target
      (in_directory d.description (λ n.
      in_directory target.description (λ m.
      looks_twice n from m to (λ source place.
      existing source (λ k. renamed_to (Renameat x from y to) target k to place))))))))
  answer (Dup x) = held (entry x) (λ d. at_number free (λ number. Gives number (record same { table = Set_entry number d }) []))
  answer (Close x) = held (entry x) (λ d. Gives 0 (record same { table = Clear_entry (value_of s x) }) [])
  answer (Cap_rights_limit x rights) =
      held (entry x) (λ d.
      unless (is_within rights d.rights) ENOTCAPABLE MissingRight
      (Gives 0 (record same { table = Set_entry (value_of s x) (record d { rights = rights }) }) []))
  answer (Cap_fcntls_limit x commands) =
      held (entry x) (λ d.
      unless (is_within commands d.fcntls) ENOTCAPABLE MissingRight
      (Gives 0 (record same { table = Set_entry (value_of s x) (record d { fcntls = commands }) }) []))
  answer Cap_enter = Gives 0 (record same { enters = true }) []
  answer Cap_getmode = gives (bit_of s.mode 1)
  answer Socketpair = pair_at free
  answer Fork =
      unless (nat_lt (length w.processes) most_processes) EAGAIN Full
      (unrefused EAGAIN (Gives (length w.processes) (record same { table = New_process }) []))
  answer (Use x right) =
      unless (not (s.mode && reaches_globally right)) ECAPMODE CapMode
      (through (bit_or (companions_of right) right) (entry x) (λ d.
      at_object (w.files.objects d.description)
      (λ n access. used (not (acts_beneath right) || is_dir (at n).kind) (effects_of_use right (at n).place))
      (λ pair side. used (not (acts_beneath right)) [])))
