-- What a call brings into a well-formed world: a record by parts, and the tests that a call asks.
use Rattle.std.proofs.Common.{◌≡◌, ℕ, zero, suc, ◌+◌, ◌<◌, ◌≤◌, ◌^◌, Bool, true, false, List, refl, length, arith}
use Rattle.std.specs.Prelude.{Option, Some, None, is_some, cond}
use Rattle.std.proofs.lemmas.Bool.{cond_both}
use Rattle.rights.specs.Sets.{is_within, all_rights, all_commands}
use Rattle.rights.specs.Errors.{Errno, Cause}
use Rattle.file_tree.specs.Nodes.{Kind, File, Dir, Link, Node, node, is_dir, is_file, is_link}
use Rattle.rights.specs.Limits.{most_bytes, most_messages, most_processes}
use Rattle.file_tree.specs.WellFormed.{IsTree}
use Rattle.lookup.specs.Answers.{LookupFault, Escape, No_entry, Not_dir, Loop, Too_long, Bad_last}
use Rattle.process.specs.State.{Walking}
use Rattle.fd_table.specs.Descriptions.{Access, Object, At_node, At_end, Descriptor, Message, IfHeld}
use Rattle.fd_table.specs.OpenFiles.{lowest_from, lowest_free}
use Rattle.kernel.specs.World.{World}
use Rattle.kernel.specs.Answers.{TableChange, Same_table, Set_entry, Clear_entry, New_file, New_pair, New_process, QueueChange, Same_queue, Push, Pop, StateChange, Same_state}
use Rattle.kernel.specs.Answers.{Set_state, Change, Answer, Fails, Waits, Gives, Walks, unless, held, at_object, at_number, lookup_fails}
use Rattle.kernel.specs.Changes.{tree_after}
use Rattle.kernel.specs.WellFormed.{Numbering, IsObject, IsDescriptor}

-- Into a table: a descriptor that is well formed already; a file or directory that is in the tree then, with sets
-- within all; a pair; a child, if there is room.
abbrev pub BringsTable : (Descriptor → Type 0) → List Node → ℕ → TableChange → Type 0
BringsTable Good tree made Same_table = Unit {0}
BringsTable Good tree made (Set_entry number d) = (number < 16) × Good d
BringsTable Good tree made (Clear_entry number) = Unit {0}
BringsTable Good tree made (New_file number n access append rights fcntls) =
    (number < 16) × (is_link (node tree n).kind ≡ false) × (is_within rights all_rights ≡ true) × (is_within fcntls all_commands ≡ true)
BringsTable Good tree made (New_pair first second class) = (first < 16) × (second < 16)
BringsTable Good tree made New_process = made < most_processes

-- into a queue with room: a byte, and what is well formed already
abbrev pub BringsQueue : (Descriptor → Type 0) → (ℕ → ℕ → List Message) → QueueChange → Type 0
BringsQueue Good queue Same_queue = Unit {0}
BringsQueue Good queue (Push pair side m) = (side < 2) × (length (queue pair side) < most_messages) × (m.byte < 256) × IfHeld Good m.passed
BringsQueue Good queue (Pop pair side) = Unit {0}

abbrev pub BringsState : StateChange → Type 0
BringsState Same_state = Unit {0}
BringsState (Set_state description state) = state.offset ≤ most_bytes

-- What a call stands on: a world with its numbering, what else holds of each description that is named in it, and what is to hold of
-- what the call leaves under way.
pub record Ground : Type 1 where
  pub numbering : Numbering
  pub world : World
  pub Named : ℕ → Type 0
  pub Left : Walking → Type 0

abbrev pub ground : Numbering → World → (ℕ → Type 0) → Ground
ground numbering w Named = record { numbering = numbering; world = w; Named = Named; Left = λ walking. Unit {0} }

-- a descriptor that is known: it is well formed, and its description has what each has that is named
abbrev pub Known : Ground → Descriptor → Type 0
Known g d = IsDescriptor g.world.tree g.numbering g.world.files.objects g.world.files.states d × g.Named d.description

pub record Brings (g : Ground) (value : ℕ) (change : Change) : Type 0 where
  pub small : value < 2 ^ 32
  pub tree : IsTree (tree_after g.world.tree change.tree)
  pub table : BringsTable (Known g) (tree_after g.world.tree change.tree) (length g.world.processes) change.table
  pub queue : BringsQueue (Known g) g.world.files.queue change.queue
  pub state : BringsState change.state

unfoldable pub Sound : Ground → Answer → Type 0
Sound g (Fails errno cause) = Unit {0}
Sound g Waits = Unit {0}
Sound g (Gives value change effects) = Brings g value change
Sound g (Walks walking) = g.Left walking

-- numbers that are free are below 16
lowest_low : (count n : ℕ) (row : ℕ → Option Descriptor) (k : ℕ) → lowest_from count n row ≡ Some k → k < n + count
unfolding lowest_from
lowest_low zero n row k is = absurd cc
lowest_low (suc count) n row k is =
    cond_both (is_some (row n)) (lowest_from count (n + 1) row) (Some n) (λ o. o ≡ Some k → k < n + suc count)
    (λ taken rest. let low : k < n + 1 + count = lowest_low count (n + 1) row k rest in omega arith)
    (λ free here. let same : n ≡ k = cc in omega arith) is

pub free_low : (row : ℕ → Option Descriptor) (k : ℕ) → lowest_free row ≡ Some k → k < 16
free_low row k is = omega (arith, lowest_low 16 0 row k is)

pub second_low : (first second count : ℕ) (row : ℕ → Option Descriptor) → first + count ≡ 15 → lowest_from count (first + 1) row ≡ Some second → second < 16
second_low first second count row sum is = omega (arith, lowest_low count (first + 1) row second is)

-- kinds by their tests
pub directory_kind : (kind : Kind) → is_dir kind ≡ true → kind ≡ Dir
directory_kind File is = absurd cc
directory_kind Dir is = refl
directory_kind Link is = absurd cc

pub file_kind : (kind : Kind) → is_file kind ≡ true → kind ≡ File
file_kind File is = refl
file_kind Dir is = absurd cc
file_kind Link is = absurd cc

pub no_directory : (kind : Kind) → is_link kind ≡ false → is_dir kind ≡ false → kind ≡ File
no_directory File opened is = refl
no_directory Dir opened is = absurd cc
no_directory Link opened is = absurd cc

-- The tests. Each hands on what it has found.
module _ (g : Ground) where
  pub sound-fails : (errno : Errno) (cause : Cause) → Sound g (Fails errno cause)
  unfolding Sound
  sound-fails errno cause = tt

  pub sound-waits : Sound g Waits
  unfolding Sound
  sound-waits = tt

  pub sound-gives : (value : ℕ) (change : Change) (effects : _) → Brings g value change → Sound g (Gives value change effects)
  unfolding Sound
  sound-gives value change effects brings = brings

  pub sound-walks : (walking : Walking) → g.Left walking → Sound g (Walks walking)
  unfolding Sound
  sound-walks walking left = left

  pub sound-unless : (test : Bool) (errno : Errno) (cause : Cause) (rest : Answer) → (test ≡ true → Sound g rest) → Sound g (unless test errno cause rest)
  unfolding unless
  sound-unless true errno cause rest sound = sound refl
  sound-unless false errno cause rest sound = sound-fails errno cause

  pub sound-if : (test : Bool) (a b : Answer) → (test ≡ true → Sound g a) → Sound g b → Sound g (cond test a b)
  sound-if true a b first second = first refl
  sound-if false a b first second = second

  pub sound-held : (o : Option Descriptor) (rest : Descriptor → Answer) → IfHeld (Known g) o → ((d : Descriptor) → o ≡ Some d → Known g d → Sound g (rest d)) → Sound g (held o rest)
  unfolding held
  sound-held None rest good sound = sound-fails _ _
  sound-held (Some d) rest good sound = sound d refl good

  pub sound-object : (description : ℕ) (o : Object) (on_node : ℕ → Access → Answer) (on_end : ℕ → ℕ → Answer) →
      IsObject g.world.tree g.numbering description o →
      ((n : ℕ) (access : Access) → is_link (node g.world.tree n).kind ≡ false → Sound g (on_node n access)) →
      ((pair side : ℕ) → side < 2 → Sound g (on_end pair side)) → Sound g (at_object o on_node on_end)
  unfolding at_object
  sound-object description (At_node n access) on_node on_end good nodes ends = nodes n access good
  sound-object description (At_end pair side class) on_node on_end good nodes ends = ends pair side good.1

  pub sound-number : (o : Option ℕ) (rest : ℕ → Answer) → ((n : ℕ) → o ≡ Some n → Sound g (rest n)) → Sound g (at_number o rest)
  unfolding at_number
  sound-number None rest sound = sound-fails _ _
  sound-number (Some n) rest sound = sound n refl

  pub sound-lookup_fails : (fault : LookupFault) → Sound g (lookup_fails fault)
  sound-lookup_fails Escape = sound-fails _ _
  sound-lookup_fails No_entry = sound-fails _ _
  sound-lookup_fails Not_dir = sound-fails _ _
  sound-lookup_fails Loop = sound-fails _ _
  sound-lookup_fails Too_long = sound-fails _ _
  sound-lookup_fails Bad_last = sound-fails _ _
