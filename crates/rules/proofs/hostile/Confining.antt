-- What is known of a process of a marked program in the mode before a step, and what its calls may come to.
use Rattle.std.proofs.Common.{◌≡◌, ◌≢◌, ℕ, Bool, true, false, List, refl, ap, sym, ◌∙◌, subst}
use Rattle.std.specs.Prelude.{not, Option, Some, None, if◌then◌else◌}
use Rattle.rights.specs.Errors.{Errno, Cause, ECAPMODE, EINVAL, ENOTDIR, CapMode, Refused}
use Rattle.rights.specs.Errors as errors
use Rattle.rights.specs.Sets.{is_within}
use Rattle.file_tree.specs.Nodes.{node, is_dir, is_file}
use Rattle.file_tree.specs.WellFormed.{IsTree}
use Rattle.lookup.specs.Answers.{LookupFault}
use Rattle.process.specs.State.{ProcessState, Walking}
use Rattle.instruction_set.specs.Languages.{are_spoken}
use Rattle.instruction_set.specs.Programs.{Operand, Syscall}
use Rattle.fd_table.specs.Descriptions.{PairClass, Made_by, Access, Object, At_node, At_end, Descriptor, IfHeld}
use Rattle.certificate.specs.Bounds.{Authority, Certificate}
use Rattle.kernel.specs.World.{World, Choice}
use Rattle.kernel.specs.Answers.{Event, Effect, TreeChange, TableChange, Same_table, Set_entry, Clear_entry, New_file, New_pair, New_process, QueueChange, Same_queue, Push, Pop, Change}
use Rattle.kernel.specs.Answers.{Answer, Fails, Waits, Gives, Walks, at_number, at_object, granted, held, lookup_fails, through, unless, value_of}
use Rattle.kernel.specs.Calls.{at_file, at_socket, blocked, in_directory, outside_mode, unrefused}
use Rattle.kernel.specs.Changes.{tree_after}
use Rattle.kernel.specs.Walks.{FitsIfWalking, lookups_of, under_way}
use Rattle.kernel.specs.WellFormed.{IsDescriptor}
use Rattle.kernel.proofs.KeptWalks.{walk_fits}
use Rattle.kernel.proofs.Looking.{fault_any}
use Rattle.kernel.proofs.Spoken.{IsSpokenDeed}
use Rattle.task.specs.Plans.{Plan, program_name, programs_of_plan}
use Rattle.task.specs.Sandboxed.{AreAllowed}
use Rattle.rules.proofs.frames.ChangeKinds.{Acts}
use Rattle.rules.proofs.frames.KeptTrees.{IsDeepChange}
use Rattle.rules.proofs.frames.PairClasses.{IsNamed, entry_named}
use Rattle.rules.proofs.points.Marked.{AuthorityAsked}
use Rattle.rules.proofs.worlds.Invariant.{Carries, IfAlive, Invariant, IsLiving, LivesBy, is_free, bounds}
use Rattle.rules.specs.Seen.{subject_of}
use Rattle.rules.proofs.worlds.Walks.{WalkIn, WalksIn}
use Rattle.rules.specs.Within.{IsBelowCeiling, IsTableWithin, IsWithinAuthority, MayHave, own_authority}

-- It lives, it is of a marked program and in the mode, and nothing is found wrong with the program's authority.
pub record Roams (plan : Plan) (certificate : Certificate) (w : World) (p : ℕ) (s : ProcessState) (choice : Choice) : Type 0 where
  pub acts : Acts plan w p s choice
  pub inv : Invariant plan (bounds plan certificate) w
  pub alive : s.alive ≡ true
  pub marked : s.marked ≡ true
  pub mode : s.mode ≡ true
  pub asked : AuthorityAsked plan certificate s.program
  pub code : are_spoken plan.wide (programs_of_plan plan s.program) ≡ true
  pub next : IsSpokenDeed plan.wide s.kept

module _ (plan : Plan) (certificate : Certificate) (w : World) (p : ℕ) (s : ProcessState) (choice : Choice) (known : Roams plan certificate w p s choice) where
  abbrev pub a : Authority
  a = own_authority plan certificate s.program

  pub free : is_free s ≡ true
  free = rw (known.marked, known.mode) refl

  lives : IsLiving plan (bounds plan certificate) w p s
  lives = (subst (IfAlive (IsLiving plan (bounds plan certificate) w p)) known.acts.made (known.inv.living p)) known.alive

  -- what it holds its program may have
  pub table_within : IsTableWithin plan certificate w p s.program
  table_within = subst (λ b. LivesBy plan certificate b w p s) free lives.asked

  -- ## What a call may do
  -- What comes into a table, besides what was there.
  abbrev pub Adds : TreeChange → TableChange → Type 0
  Adds tree Same_table = Unit {0}
  Adds tree (Set_entry number d) = IsNamed w choice known.inv.classes d × IsWithinAuthority plan certificate w s.program d
  Adds tree (Clear_entry number) = Unit {0}
  Adds tree (New_file number n access append rights fcntls) = IsBelowCeiling plan.wide plan.grants (own_authority plan certificate s.program) (node (tree_after w.tree tree) n).place rights
  Adds tree (New_pair first second class) = class ≡ Made_by s.program
  Adds tree New_process = Unit {0}

  abbrev pub SendsThere : ℕ → ℕ → Descriptor → Type 0
  SendsThere pair side d = (pair ≢ choice.pair) × IsNamed w choice known.inv.classes d × Carries plan certificate w (known.inv.classes pair) side d

  abbrev pub Sends : QueueChange → Type 0
  Sends Same_queue = Unit {0}
  Sends (Push pair side m) = IfHeld (SendsThere pair side) m.passed
  Sends (Pop pair side) = Unit {0}

  pub record MayDo (change : Change) (effects : List Effect) : Type 0 where
    pub allowed : AreAllowed plan.grants effects
    pub deep : IsDeepChange plan.grants w.tree change.tree
    pub adds : Adds change.tree change.table
    pub sends : Sends change.queue

  module _ (call : Syscall) (here : under_way (programs_of_plan plan) s ≡ Some call) where
    unfoldable pub Confines : Answer → Type 0
    Confines (Fails errno cause) = Unit {0}
    Confines Waits = Unit {0}
    Confines (Gives value change effects) = MayDo change effects
    Confines (Walks walking) = WalkIn plan.grants w.tree w.files.objects (w.files.table p) (record s { walk = Some walking }) (lookups_of call) walking

    pub tree : IsTree w.tree
    tree = known.acts.formed.world.tree

    pub fitting : FitsIfWalking w.tree w.files.objects (w.files.table p) s (Some call) s.walk
    fitting = walk_fits (programs_of_plan plan) w known.acts.formed.walks p s call known.acts.made here

    pub within : WalksIn plan.grants w.tree w.files.objects (w.files.table p) s (Some call) s.walk
    within = subst (λ o. WalksIn plan.grants w.tree w.files.objects (w.files.table p) s o s.walk) here lives.walker.walks

    -- ## Answers
    pub fails : (errno : Errno) (cause : Cause) → Confines (Fails errno cause)
    unfolding Confines
    fails errno cause = tt

    pub waits : Confines Waits
    unfolding Confines
    waits = tt

    pub does : (value : ℕ) (change : Change) (effects : List Effect) → MayDo change effects → Confines (Gives value change effects)
    unfolding Confines
    does value change effects may = may

    pub walks : (walking : Walking) → WalkIn plan.grants w.tree w.files.objects (w.files.table p) (record s { walk = Some walking }) (lookups_of call) walking → Confines (Walks walking)
    unfolding Confines
    walks walking is = is

    -- ## Tests
    pub if_passed : (c : Bool) (errno : Errno) (cause : Cause) (rest : Answer) → (c ≡ true → Confines rest) → Confines (unless c errno cause rest)
    unfolding unless
    if_passed true errno cause rest confines = confines refl
    if_passed false errno cause rest confines = fails errno cause

    pub if_so : (c : Bool) (one other : Answer) → Confines one → Confines other → Confines (if c then one else other)
    if_so true one other first second = first
    if_so false one other first second = second

    pub if_held : (o : Option Descriptor) (rest : Descriptor → Answer) → ((d : Descriptor) → o ≡ Some d → Confines (rest d)) → Confines (held o rest)
    unfolding held
    if_held None rest confines = fails _ _
    if_held (Some d) rest confines = confines d refl

    pub by_object : (o : Object) (on_node : ℕ → Access → Answer) (on_end : ℕ → ℕ → Answer)
        → ((n : ℕ) (access : Access) → o ≡ At_node n access → Confines (on_node n access))
        → ((pair side : ℕ) (class : PairClass) → o ≡ At_end pair side class → Confines (on_end pair side)) → Confines (at_object o on_node on_end)
    unfolding at_object
    by_object (At_node n access) on_node on_end node end = node n access refl
    by_object (At_end pair side class) on_node on_end node end = end pair side class refl

    pub if_number : (o : Option ℕ) (rest : ℕ → Answer) → ((n : ℕ) → Confines (rest n)) → Confines (at_number o rest)
    unfolding at_number
    if_number None rest confines = fails _ _
    if_number (Some n) rest confines = confines n

    -- the descriptor of an operand, with the rights that the call needs
    pub if_through : (x : Operand) (need : ℕ) (rest : Descriptor → Answer)
        → ((d : Descriptor) → w.files.table p (value_of s x) ≡ Some d → is_within need d.rights ≡ true → Confines (rest d)) → Confines (through need (w.files.table p (value_of s x)) rest)
    if_through x need rest confines =
        if_held (w.files.table p (value_of s x)) (λ d. granted need d (rest d)) (λ d there. if_passed (is_within need d.rights) _ _ (rest d) (λ has. confines d there has))

    module _ (e : Event) where
      -- nothing is done in a global name space
      pub never_outside : (rest : Answer) → Confines (outside_mode w p s e rest)
      never_outside rest =
          if_passed (not s.mode) ECAPMODE CapMode rest
          (λ off. absurd (let clash : false ≡ true = sym (ap not known.mode) ∙ off in cc))

      pub if_unrefused : (errno : Errno) (rest : Answer) → Confines rest → Confines (unrefused w p s e errno rest)
      if_unrefused errno rest confines = if_passed (not e.refuse) errno Refused rest (λ _. confines)

      pub if_blocked : (nonblock : Bool) → Confines (blocked w p s e nonblock)
      if_blocked true = fails _ _
      if_blocked false = waits

      pub if_directory : (description : ℕ) (rest : ℕ → Answer)
          → ((n : ℕ) (access : Access) → w.files.objects description ≡ At_node n access → is_dir (node w.tree n).kind ≡ true → Confines (rest n))
          → Confines (in_directory w p s e description rest)
      if_directory description rest confines =
          by_object (w.files.objects description) _ _
          (λ n access is. if_passed (is_dir (node w.tree n).kind) ENOTDIR errors.Kind (rest n) (λ dir. confines n access is dir)) (λ pair side class is. fails _ _)

      pub if_file : (description : ℕ) (rest : ℕ → Access → Answer)
          → ((n : ℕ) (access : Access) → w.files.objects description ≡ At_node n access → Confines (rest n access)) → Confines (at_file w p s e description rest)
      if_file description rest confines =
          by_object (w.files.objects description) _ _
          (λ n access is. if_passed (is_file (node w.tree n).kind) EINVAL errors.Kind (rest n access) (λ file. confines n access is)) (λ pair side class is. fails _ _)

      pub if_socket : (description : ℕ) (rest : ℕ → ℕ → Answer)
          → ((pair side : ℕ) (class : PairClass) → w.files.objects description ≡ At_end pair side class → Confines (rest pair side)) → Confines (at_socket w p s e description rest)
      if_socket description rest confines = by_object (w.files.objects description) _ _ (λ n access is. fails _ _) confines

      pub if_lost : (fault : LookupFault) → Confines (lookup_fails fault)
      if_lost fault = fault_any Confines w p s e fails fault

    -- ## Entries
    pub held_within : (n : ℕ) (d : Descriptor) → w.files.table p n ≡ Some d → IsWithinAuthority plan certificate w s.program d
    held_within n d there = subst (IfHeld (IsWithinAuthority plan certificate w s.program)) there (table_within n)

    pub held_named : (n : ℕ) (d : Descriptor) → w.files.table p n ≡ Some d → IsNamed w choice known.inv.classes d
    held_named n d there =
        subst (IfHeld (IsNamed w choice known.inv.classes)) there (entry_named plan w p s choice known.acts (bounds plan certificate) known.inv p n)

    pub held_formed : (n : ℕ) (d : Descriptor) → w.files.table p n ≡ Some d → IsDescriptor w.tree known.acts.formed.numbering w.files.objects w.files.states d
    held_formed n d there =
        subst (IfHeld (IsDescriptor w.tree known.acts.formed.numbering w.files.objects w.files.states)) there (known.acts.formed.world.entries p n)

    -- of a node it is below a ceiling, and of an end what its program may have
    pub held_of : (n : ℕ) (d : Descriptor) → w.files.table p n ≡ Some d → (o : Object) → w.files.objects d.description ≡ o
        → MayHave plan.wide plan.grants (own_authority plan certificate s.program) (program_name plan s.program) (subject_of plan w.tree o) d.rights
    held_of n d there o is =
        subst (λ x. MayHave plan.wide plan.grants (own_authority plan certificate s.program) (program_name plan s.program) (subject_of plan w.tree x) d.rights) is (held_within n d there)
