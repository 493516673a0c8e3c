-- Where each descriptor after a step comes from. (capsicum(4), cap_rights_limit(2), cap_fcntls_limit(2), dup(2), fork(2),
-- socketpair(2), sendmsg(2), recvmsg(2); that of openat is own)
use Rattle.std.specs.Prelude.{◌≡◌, ℕ, Bool, true, false, List, [], ◌∷◌, length, Option, Some, None, option_map}
use Rattle.std.specs.List.{slice_get}
use Rattle.rights.specs.Values.{PathText, RightSet, CommandSet, DescriptorNumber, ProcessNumber, PairNumber, SideNumber}
use Rattle.rights.specs.Opens.{OpenRequest}
use Rattle.rights.specs.Sets.{is_within, all_rights, all_commands}
use Rattle.process.specs.State.{ProcessState}
use Rattle.instruction_set.specs.Programs.{Operand, Syscall, Open, Openat, Sendfd, Recvfd, Dup, Cap_rights_limit, Cap_fcntls_limit, Socketpair, Fork, Instruction}
use Rattle.rights.specs.Sides.{other_side}
use Rattle.fd_table.specs.Descriptions.{Object, At_node, At_end, Descriptor, Message}
use Rattle.kernel.specs.World.{World}
use Rattle.kernel.specs.Answers.{Event, value_of}
use Rattle.kernel.specs.Steps.{Programs, next_instruction}
use Rattle.kernel.specs.Walks.{call_in}

-- a call under way: its process, which stands so
pub record Caller : Type 0 where
  pub process : ProcessNumber
  pub state : ProcessState
  pub call : Syscall

-- The call that an event has its process make, if that was made, is alive, and goes on with one.
abbrev pub calls_at : ProcessNumber → ProcessState → Option Instruction → Option Caller
calls_at p s i = option_map (λ call. record { process = p; state = s; call = call }) (call_in i)

abbrev pub calls_by : Programs → ProcessNumber → ProcessState → Bool → Option Caller
calls_by programs p s false = None
calls_by programs p s true = calls_at p s (next_instruction s.kept (slice_get (programs s.program) s.point))

abbrev pub calls : Programs → ProcessNumber → Option ProcessState → Option Caller
calls programs p None = None
calls programs p (Some s) = calls_by programs p s s.alive

abbrev pub caller_of : Programs → World → Event → Option Caller
caller_of programs w e = calls programs e.process (slice_get w.processes e.process)

-- what the front message carries
abbrev pub front_of : List Message → Option Descriptor
front_of [] = None
front_of (m ∷ messages) = m.passed

abbrev pub arriving_at : World → Object → Option Descriptor
arriving_at w (At_node n access) = None
arriving_at w (At_end pair side class) = front_of (w.files.queue pair (other_side side))

abbrev pub arriving : World → Option Descriptor → Option Descriptor
arriving w None = None
arriving w (Some d) = arriving_at w (w.files.objects d.description)

-- what a process has at the number that an operand of its call is
abbrev pub named : World → ProcessNumber → ProcessState → Operand → Option Descriptor
named w p s x = w.files.table p (value_of s x)

-- It has no right and no command that its source hasn't.
abbrev pub IsNoWider : Descriptor → Option Descriptor → Type 0
IsNoWider d None = ⊥
IsNoWider d (Some source) = (is_within d.rights source.rights ≡ true) × (is_within d.fcntls source.fcntls ≡ true)

abbrev pub HasAll : Descriptor → Type 0
HasAll d = (d.rights ≡ all_rights) × (d.fcntls ≡ all_commands)

-- What a call may put at number n of its process, which stands so. Of its own, with all rights and commands, a pair has its ends, and outside
-- capability mode what is opened; what openat opens comes from its directory. A limit leaves a descriptor where it stood; whatever
-- else is made takes a number that was free. A call that isn't named here makes none.
pub data IsMade (w : World) (p : ProcessNumber) (s : ProcessState) (n : DescriptorNumber) (d : Descriptor) : Syscall → Type 0 where
  was_opened : {path : PathText} {flags : OpenRequest} → w.files.table p n ≡ None → s.mode ≡ false → HasAll d → IsMade w p s n d (Open path flags)
  was_opened_beneath : {x : Operand} {path : PathText} {flags : OpenRequest} → w.files.table p n ≡ None → IsNoWider d (named w p s x) → IsMade w p s n d (Openat x path flags)
  was_paired : w.files.table p n ≡ None → HasAll d → IsMade w p s n d Socketpair
  was_duplicated : {x : Operand} → w.files.table p n ≡ None → IsNoWider d (named w p s x) → IsMade w p s n d (Dup x)
  was_received : {x : Operand} → w.files.table p n ≡ None → IsNoWider d (arriving w (named w p s x)) → IsMade w p s n d (Recvfd x)
  was_limited : {x : Operand} {rights : RightSet} → n ≡ value_of s x → IsNoWider d (named w p s x) → IsMade w p s n d (Cap_rights_limit x rights)
  was_limited_in_commands : {x : Operand} {commands : CommandSet} → n ≡ value_of s x → IsNoWider d (named w p s x) → IsMade w p s n d (Cap_fcntls_limit x commands)

-- What stands at number n of process q after a step: what stood there; or what the call has made; or, in the child that
-- the call has made, what its parent has at that number.
pub data ComesFrom (w : World) (caller : Option Caller) (q n : ℕ) (d : Descriptor) : Type 0 where
  stood : w.files.table q n ≡ Some d → ComesFrom w caller q n d
  was_made : (c : Caller) → caller ≡ Some c → q ≡ c.process → IsMade w c.process c.state n d c.call → ComesFrom w caller q n d
  was_copied : (c : Caller) → caller ≡ Some c → c.call ≡ Fork → q ≡ length w.processes → w.files.table c.process n ≡ Some d → ComesFrom w caller q n d

-- the descriptor is of that end
abbrev pub IsEndOf : Object → PairNumber → SideNumber → Type 0
IsEndOf (At_node n access) pair side = ⊥
IsEndOf (At_end other its class) pair side = (other ≡ pair) × (its ≡ side)

abbrev pub IsEnd : World → Option Descriptor → PairNumber → SideNumber → Type 0
IsEnd w None pair side = ⊥
IsEnd w (Some d) pair side = IsEndOf (w.files.objects d.description) pair side

-- sendfd alone sends a descriptor, through its socket's end: it has no more than the one that the call names.
pub data IsSent (w : World) (p : ProcessNumber) (s : ProcessState) (pair : PairNumber) (side : SideNumber) (d : Descriptor) : Syscall → Type 0 where
  by_sendfd : {x y v : Operand} → IsEnd w (named w p s x) pair side → IsNoWider d (named w p s y) → IsSent w p s pair side d (Sendfd x y v)

-- What a message carries after a step that one end has sent: it was in that queue before, or the call has sent it.
pub data QueuedFrom (w : World) (caller : Option Caller) (pair side : ℕ) (d : Descriptor) : Type 0 where
  had_waited : (i : ℕ) (m : Message) → slice_get (w.files.queue pair side) i ≡ Some m → m.passed ≡ Some d → QueuedFrom w caller pair side d
  was_sent : (c : Caller) → caller ≡ Some c → IsSent w c.process c.state pair side d c.call → QueuedFrom w caller pair side d
