-- When what a call came to is what the model answers.
use Rattle.std.specs.Prelude.{◌≡◌, ◌≤◌, ◌<◌, ◌≢◌, ℕ, Bool, true, false, List, [], length, map, Option, Some, None, Result, Ok, Err}
use Rattle.rights.specs.Limits.{most_descriptors, most_processes}
use Rattle.rights.specs.declared.calls.Call.{Call}
use Rattle.rights.specs.Needs.{First, Second, needs_of}
use Rattle.rights.specs.Sets.{is_within}
use Rattle.rights.specs.Opens.{open_request, no_request}
use Rattle.rights.specs.Views.{call_of, errno_of, cause_of, side_seen}
use Rattle.process.specs.State.{ProcessState}
use Rattle.file_tree.specs.Nodes.{Node, node, is_link}
use Rattle.file_tree.specs.WellFormed.{IsTree}
use Rattle.fd_table.specs.Descriptions.{Access, Object, At_node, At_end, Descriptor, descriptor_of}
use Rattle.fd_table.specs.Filled.{IsNamed, IsEndThere}
use Rattle.fd_table.specs.OpenFiles.{OpenFiles, IsUnnamed, IsUnused, Alike}
use Rattle.lookup.specs.declared.ways.Found.{Found}
use Rattle.lookup.specs.Views.{found_of}
use Rattle.lookup.specs.Walks.{WalkState, Progress, Done, More}
use Rattle.process.specs.declared.walking.Walking.{Walking as WalkingCode}
use Rattle.process.specs.State.{One}
use Rattle.process.specs.Views.{walking_in, walking_of}
use Rattle.lookup.specs.Answers as lookups
use Rattle.lookup.specs.Promises.{IsFindingThere, IsFreeName, IsLinked, IsUnderName, MayBeMade}
use Rattle.rights.specs.Values.{PathText}
use Rattle.kernel.specs.World.{World, Choice}
use Rattle.kernel.specs.Answers.{value_of, Event, Effect, TableChange, New_file, New_pair, Change, Answer, Fails, Waits, Gives, Walks, lookup_fails}
use Rattle.kernel.specs.Changes.{tree_after, files_after, given, children}
use Rattle.syscalls.specs.declared.outcomes.Besides.{Besides}
use Rattle.syscalls.specs.declared.outcomes.Success.{Success}
use Rattle.syscalls.specs.declared.outcomes.Refusal.{Refusal}
use Rattle.syscalls.specs.declared.outcomes.Refusal.TheVariants as refusal
use Rattle.fd_table.specs.Kept.{Kept, open_files}
use Rattle.fd_table.specs.Views.{access_seen}
use Rattle.instruction_set.specs.Views.{operand_of}
use Rattle.instruction_set.specs.declared.operands.Operand.{Operand}
use Rattle.instruction_set.specs.Programs.{Syscall, called}
use Rattle.kernel.specs.Calls.{answer, lost, existing}
use Rattle.syscalls.specs.declared.opening.Beneath.{Beneath}
use Rattle.syscalls.specs.declared.lookups.Both.{Both}
use Rattle.syscalls.specs.declared.kernels.Caller.{Caller}
use Rattle.syscalls.specs.declared.kernels.Kernel.{Kernel}
use Rattle.syscalls.specs.declared.operands.OpenNode.{OpenNode}
use Rattle.syscalls.specs.declared.operands.Opened.{Opened}
use Rattle.syscalls.specs.declared.operands.Reached.{Reached}
use Rattle.syscalls.specs.declared.operands.Target.{Target}
use Rattle.syscalls.specs.declared.operands.Target.TheVariants as target
use Rattle.syscalls.specs.declared.operands.Numbered.{Numbered}
use Rattle.syscalls.specs.Shows.{Shown, shown}
use Rattle.syscalls.specs.Views.{AreThere, change_of, effects_in, world_with}

-- the chosen numbers that a change needs are free
abbrev pub Suits : OpenFiles → Choice → TableChange → Type 0
Suits f choice (New_file number node access append rights fcntls) = IsUnnamed f choice.first
Suits f choice (New_pair first second class) =
    IsUnnamed f choice.first × IsUnnamed f choice.second × (choice.first ≢ choice.second) × IsUnused f choice.pair
Suits f choice _ = Unit {0}

-- The change makes this of its process besides giving it the value, and such children.
pub record IsBesides (besides : Besides) (change : Change) : Type 0 where
  pub process : (s : ProcessState) (value : ℕ) → given s value change ≡ given s value (change_of besides)
  pub children : (s : ProcessState) → children change.table s ≡ children (change_of besides).table s

-- The answer is a success with this value, and the tree, what is open and the processes are what its change leaves.
pub record Succeeds (w : World) (p : ℕ) (t : List Node) (f : OpenFiles) (value : ℕ) (besides : Besides) (shows : List Shown) (a : Answer) : Type 0 where
  pub change : Change
  pub effects : List Effect
  pub choice : Choice
  pub is : a ≡ Gives value change effects
  pub prints : map shown effects ≡ shows
  pub suits : Suits w.files choice change.table
  pub makes : IsBesides besides change
  pub tree : t ≡ tree_after w.tree change.tree
  pub files : Alike (files_after w.files p (length w.processes) choice change) f

-- nothing was done
pub record DoesNothing (w : World) (t : List Node) (f : OpenFiles) : Type 0 where
  pub tree : t ≡ w.tree
  pub files : f ≡ w.files

-- The answer is that refusal. Want of memory may come in place of any answer.
abbrev pub Refuses : Refusal → Answer → Type 0
Refuses (refusal.Fails errno cause) a = a ≡ Fails (errno_of errno) (cause_of cause)
Refuses refusal.Waits a = a ≡ Waits
Refuses (refusal.Walks walking) a = a ≡ Walks (walking_of walking)
Refuses refusal.Memory a = Unit {0}

abbrev pub RefusesAlone : Refusal → World → List Node → OpenFiles → Answer → Type 0
RefusesAlone (refusal.Fails errno cause) w t f a = (a ≡ Fails (errno_of errno) (cause_of cause)) × DoesNothing w t f
RefusesAlone refusal.Waits w t f a = (a ≡ Waits) × DoesNothing w t f
RefusesAlone (refusal.Walks walking) w t f a = (a ≡ Walks (walking_of walking)) × DoesNothing w t f
RefusesAlone refusal.Memory w t f a = Unit {0}

-- What the code came to, with the tree and what is open after it, is what the model answers; what it did is of nodes of that tree.
abbrev pub Meets : World → ℕ → List Node → OpenFiles → Result Success Refusal → Answer → Type 0
Meets w p t f (Ok success) a = Succeeds w p t f success.value success.besides (effects_in t success.effects) a × AreThere t success.effects
Meets w p t f (Err refused) a = RefusesAlone refused w t f a

-- A test of the model goes on with what the code found, or is refused as the code is.
abbrev pub Passes : {A B : Type 0} → (A → B) → ((B → Answer) → Answer) → Result A Refusal → Type 0
Passes {B = B} view test (Ok found) = (rest : B → Answer) → test rest ≡ rest (view found)
Passes {B = B} view test (Err refused) = (rest : B → Answer) → Refuses refused (test rest)

-- What an event of a lookup found, or why its call doesn't go on: the fault that it is refused for, or the names that are left.
pub record IsNotFound (refused : Refusal) (found : lookups.Finding) : Type 0 where
  pub fault : lookups.LookupFault
  pub is : found ≡ lookups.Not_found fault
  pub refuses : Refuses refused (lookup_fails fault)

abbrev pub IsLeft : Refusal → Progress → Type 0
IsLeft refused (Done finding) = IsNotFound refused finding
IsLeft refused (More walk) = Refuses refused (Walks (One walk))

abbrev pub Finds : Progress → Result Found Refusal → Type 0
Finds event (Ok found) = event ≡ Done (found_of found)
Finds event (Err refused) = refused ≢ refusal.Memory → IsLeft refused event

-- What goes on from a lookup fails as the lookup does.
abbrev pub TellsFaults : (lookups.Finding → Answer) → Type 0
TellsFaults rest = (fault : lookups.LookupFault) → rest (lookups.Not_found fault) ≡ lookup_fails fault

-- A lookup of the model, with the tests before it, goes on with what the code found, or is refused as the code is.
abbrev pub LooksUp : ((lookups.Finding → Answer) → Answer) → Result Found Refusal → Type 0
LooksUp look (Ok found) = (rest : lookups.Finding → Answer) → look rest ≡ rest (found_of found)
LooksUp look (Err refused) = (rest : lookups.Finding → Answer) → TellsFaults rest → Refuses refused (look rest)

-- what a call finds, with these processes
abbrev pub world_at : {T : Type 0} → (T → List Node) → Kernel T → List ProcessState → World
world_at nodes k processes = world_with (nodes k.tree.now) (open_files k.files.now) processes

abbrev pub LooksUpIn : {T : Type 0} → (T → List Node) → Kernel T → ProcessState → (World → ℕ → ProcessState → Event → (lookups.Finding → Answer) → Answer) → Result Found Refusal → Type 0
LooksUpIn nodes k s look r = (processes : List ProcessState) (p : ℕ) (e : Event) → LooksUp (look (world_at nodes k processes) p s e) r

-- queues are only where pairs are
abbrev pub IsIdle : OpenFiles → Type 0
IsIdle f = (pair side : ℕ) → f.pairs ≤ pair → f.queue pair side ≡ []

-- numbers from 16 on are no descriptor's
abbrev pub HasNumbers : OpenFiles → ℕ → Type 0
HasNumbers f p = (n : ℕ) → most_descriptors ≤ n → f.table p n ≡ None

abbrev pub held_seen : Numbered → Descriptor
held_seen held = descriptor_of held.description held.rights.0 held.fcntls.0

-- What a call relies on of a description: a node is a file or directory of the tree, and an offset is within a file.
abbrev pub IsReadyObject : List Node → Object → Type 0
IsReadyObject t (At_node n access) = (n < length t) × (is_link (node t n).kind ≡ false)
IsReadyObject t (At_end pair side class) = Unit {0}

abbrev pub IsReadyDescription : List Node → OpenFiles → ℕ → Type 0
IsReadyDescription t f n = IsReadyObject t (f.objects n) × ((f.states n).offset ≤ 4096)

-- and of the world, when process p calls
pub record IsReady (t : List Node) (f : OpenFiles) (p : ℕ) : Type 0 where
  pub tree : IsTree t
  pub process : p < most_processes
  pub numbers : HasNumbers f p
  pub entries : (n : ℕ) (d : Descriptor) → f.table p n ≡ Some d → IsReadyDescription t f d.description
  pub idle : IsIdle f

-- The same of what a call finds.
abbrev pub IsReadyAt : {T : Type 0} → (T → List Node) → Kernel T → Type 0
IsReadyAt nodes k = IsReady (nodes k.tree.now) (open_files k.files.now) k.caller.number

-- what an operand stands for, and the descriptor of that number
abbrev pub value_at : {T : Type 0} → Kernel T → Operand → ℕ
value_at k operand = value_of k.caller.process.now (operand_of operand)

abbrev pub held_at : {T : Type 0} → Kernel T → Operand → Option Descriptor
held_at k operand = (open_files k.files.now).table k.caller.number (value_at k operand)

-- the caller's descriptor of an operand
pub record IsHeldAt {T : Type 0} (nodes : T → List Node) (k : Kernel T) (operand : Operand) (held : Numbered) : Type 0 where
  pub entry : (open_files k.files.now).table k.caller.number held.number ≡ Some (held_seen held)
  pub number : held.number ≡ value_at k operand
  pub named : IsNamed (open_files k.files.now) held.description
  pub ready : IsReadyDescription (nodes k.tree.now) (open_files k.files.now) held.description

-- A test that looks at the tree and at what is open, whoever calls.
abbrev pub PassesIn : {T A B : Type 0} → (T → List Node) → Kernel T → (A → B) → (World → ℕ → ProcessState → Event → (B → Answer) → Answer) → Result A Refusal → Type 0
PassesIn nodes k view test r =
    (processes : List ProcessState) (p : ℕ) (s : ProcessState) (e : Event) → Passes view (test (world_at nodes k processes) p s e) r

-- What the code found, as the model goes on with it: a number, a node with what it was opened for, both with their
-- descriptor, or a descriptor.
abbrev pub number_seen : ℕ → ℕ
number_seen n = n

abbrev pub node_seen : OpenNode → ℕ × Access
node_seen found = (found.node, access_seen found.access)

abbrev pub opened_seen : Opened → Descriptor × ℕ × Access
opened_seen found = (held_seen found.held, found.file.node, access_seen found.file.access)

abbrev pub reached_seen : Reached → Descriptor
reached_seen reached = held_seen reached.held

abbrev pub beneath_seen : Beneath → Descriptor
beneath_seen b = descriptor_of b.description b.how.rights.0 b.how.fcntls.0

-- what a description is of, a node or an end
abbrev pub IsTarget : Target → Object → Type 0
IsTarget (target.Node found) (At_node n access) = (n ≡ found.node) × (access ≡ access_seen found.access)
IsTarget (target.Node found) (At_end pair side class) = ⊥
IsTarget (target.End end) (At_node n access) = ⊥
IsTarget (target.End end) (At_end pair side class) = (pair ≡ end.pair) × (side ≡ side_seen end.side)

-- what is reached is there
abbrev pub IsTargetThere : List Node → OpenFiles → Target → Type 0
IsTargetThere t f (target.Node found) = (found.node < length t) × (is_link (node t found.node).kind ≡ false)
IsTargetThere t f (target.End end) = IsEndThere f end.pair (side_seen end.side)

pub record IsReached (t : List Node) (f : OpenFiles) (reached : Reached) : Type 0 where
  pub named : IsNamed f reached.held.description
  pub ready : IsReadyDescription t f reached.held.description
  pub there : IsTargetThere t f reached.target

-- What the code came to of a part of a call, from what it found to this tree and what is then open, is what the model answers.
abbrev pub Does : {T : Type 0} → (T → List Node) → Kernel T → T → Kept → Result Success Refusal → (World → Event → Answer) → Type 0
Does nodes k tree files r answer =
    (processes : List ProcessState) (e : Event)
    → e.refuse ≡ k.caller.refuse
    → Meets (world_at nodes k processes) k.caller.number (nodes tree) (open_files files) r (answer (world_at nodes k processes) e)

-- The same whatever state its process is in.
abbrev pub DoesFor : {T : Type 0} → (T → List Node) → Kernel T → T → Kept → Result Success Refusal → (World → ℕ → ProcessState → Event → Answer) → Type 0
DoesFor nodes k tree files r answer = (s : ProcessState) → Does nodes k tree files r (λ w e. answer w k.caller.number s e)

-- The same of that call as a whole.
abbrev pub Calls : {T : Type 0} → (T → List Node) → Kernel T → T → Kept → Result Success Refusal → Syscall → Type 0
Calls nodes k tree files r call = Does nodes k tree files r (λ w e. answer w k.caller.number k.caller.process.now e call)

-- The process that calls, with what its call has under way.
abbrev pub state_with : Caller → Option WalkingCode → ProcessState
state_with caller walk = record caller.process.now { walk = walking_in walk }

-- The same of a call with a path, which goes on with that.
abbrev pub GoesOn : {T : Type 0} → (T → List Node) → Kernel T → Option WalkingCode → T → Kept → Result Success Refusal → Syscall → Type 0
GoesOn nodes k walk tree files r call = Does nodes k tree files r (λ w e. answer w k.caller.number (state_with k.caller walk) e call)

-- A rename of the model goes on with the node and with what was found in its place, or is refused as the code is.
abbrev pub RenamesOn : ((lookups.Finding → lookups.Finding → Answer) → Answer) → (lookups.Finding → (ℕ → Answer) → Answer) → Result Both Refusal → Type 0
RenamesOn look from (Ok both) = (rest : ℕ → lookups.Finding → Answer) → look (λ source place. from source (λ n. rest n place)) ≡ rest both.node (found_of both.place)
RenamesOn look from (Err refused) =
    (rest : ℕ → lookups.Finding → Answer) → ((n : ℕ) → TellsFaults (rest n)) → Refuses refused (look (λ source place. from source (λ n. rest n place)))

abbrev pub RenamesIn : List Node → ProcessState → (World → ℕ → ProcessState → Event → (lookups.Finding → lookups.Finding → Answer) → Answer) → Result Both Refusal → Type 0
RenamesIn t s look r =
    (f : OpenFiles) (processes : List ProcessState) (p : ℕ) (e : Event)
    → RenamesOn (look (world_with t f processes) p s e) existing r

-- What is known of what a path leads to, and of what both paths do.
pub record IsFoundAt (t : List Node) (path : PathText) (found : Found) : Type 0 where
  pub there : IsFindingThere t (found_of found)
  pub free : IsFreeName t path (found_of found)
  pub may_be_made : MayBeMade path (found_of found)

pub record AreFound (t : List Node) (path new_path : PathText) (both : Both) : Type 0 where
  pub node : IsLinked t both.node
  pub place : IsFoundAt t new_path both.place
  pub named : IsUnderName t new_path (found_of both.place)

-- The last name of a path is found, or the fault that the call is refused for.
abbrev pub FindsLast : lookups.Finding → Result Found Refusal → Type 0
FindsLast finding (Ok found) = finding ≡ found_of found
FindsLast finding (Err refused) = refused ≢ refusal.Memory → IsNotFound refused finding

-- A lookup goes on to a name behind this one, or the call is refused.
abbrev pub IsLost : Refusal → Progress → Type 0
IsLost refused (Done finding) = Refuses refused (lost finding)
IsLost refused (More walk) = ⊥

abbrev pub LeavesNames : Progress → Result WalkState Refusal → Type 0
LeavesNames event (Ok walk) = event ≡ More walk
LeavesNames event (Err refused) = refused ≢ refusal.Memory → IsLost refused event

-- The same where so many processes were made, which fork alone looks at.
abbrev pub Performs : {T : Type 0} → (T → List Node) → Kernel T → ProcessState → T → Kept → Result Success Refusal → Syscall → Type 0
Performs nodes k s tree files r call =
    (processes : List ProcessState) (e : Event)
    → e.refuse ≡ k.caller.refuse
    → length processes ≡ k.caller.made
    → Meets (world_at nodes k processes) k.caller.number (nodes tree) (open_files files) r (answer (world_at nodes k processes) k.caller.number s e call)

-- what a call that opens nothing needs of its first descriptor
abbrev pub need : Call → ℕ
need call = needs_of (call_of call) (open_request true false false false false) First false

-- whether a call may replace a node through its second descriptor
abbrev pub MayReplace : Syscall → Descriptor → Bool → Type 0
MayReplace call target may = is_within (needs_of (called call) no_request Second true) target.rights ≡ may
