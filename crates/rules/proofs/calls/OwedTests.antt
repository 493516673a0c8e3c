-- Tests that many calls ask: each goes on, or the call fails or waits, and that owes what it should.
use Rattle.std.proofs.Common.{◌≡◌, ℕ, Bool, true, false, List, ap, sym, ◌∙◌, subst}
use Rattle.std.specs.Prelude.{not, Some}
use Rattle.std.specs.Option.{option_map}
use Rattle.rights.specs.Sets.{is_within}
use Rattle.rights.specs.Errors.{Errno, EINVAL, ENOTDIR, EAGAIN, ENOENT, ELOOP, ENAMETOOLONG, ENOTCAPABLE, ECAPMODE, CapMode, MissingRight, Refused}
use Rattle.rights.specs.Errors as errors
use Rattle.rights.specs.Operations.{Operation}
use Rattle.file_tree.specs.Nodes.{node, is_dir, is_file, is_link}
use Rattle.process.specs.State.{ProcessState}
use Rattle.certificate.specs.Bounds.{Certificate}
use Rattle.certificate.specs.Describes.{Node_at, target_describes}
use Rattle.fd_table.specs.Descriptions.{Access, At_node, Descriptor, IfHeld}
use Rattle.lookup.specs.Answers.{LookupFault, Escape, No_entry, Not_dir, Loop, Too_long, Bad_last}
use Rattle.instruction_set.specs.Programs.{Operand, Syscall, Invoke}
use Rattle.kernel.specs.World.{World, Choice}
use Rattle.kernel.specs.Answers.{Event, Answer, does, granted, through, lookup_fails, value_of}
use Rattle.kernel.specs.Calls.{outside_mode, unrefused, in_directory, at_file, blocked}
use Rattle.kernel.specs.WellFormed.{IsObject, IsDescriptor}
use Rattle.task.specs.Plans.{Plan}
use Rattle.task.specs.Policies.{grant_holds}
use Rattle.task.specs.Sandboxed.{AreAllowed}
use Rattle.rules.specs.Slots.{OpenSlot}
use Rattle.rules.specs.Demands.{demands}
use Rattle.rules.specs.Seen.{subject_of, seen_of, table_seen}
use Rattle.rules.proofs.Members.{Among}
use Rattle.rules.proofs.outcomes.Failing as failing
use Rattle.rules.proofs.outcomes.Outcomes.{subject_is}
use Rattle.rules.proofs.points.Uses.{Through, first_operand, first_use}
use Rattle.rules.proofs.points.Uses as through_slots
use Rattle.rules.proofs.points.Known.{allowed_where}
use Rattle.rules.proofs.calls.Owing.{Standing}
use Rattle.rules.proofs.calls.OwedCalls.{OwedBy, owed_fails, owed_wait, owed_unless, owed_passed, owed_held, owed_object}

module _ (plan : Plan) (certificate : Certificate) (w : World) (e : Event) (s : ProcessState) (choice : Choice) (call : Syscall) (otherwise : ℕ)
    (known : Standing plan certificate w e.process s choice (Invoke call otherwise)) where
  abbrev pub Owes : Answer → Type 0
  Owes a = OwedBy plan certificate w e.process s choice call otherwise known a

  -- the descriptor that an operand names, and what the rules say of it
  pub record Opened (x : Operand) (d : Descriptor) : Type 0 where
    pub held : w.files.table e.process (value_of s x) ≡ Some d
    pub there : table_seen plan w e.process (value_of s x) ≡ Some (seen_of plan w d)
    pub way : Through plan certificate known.stands.bound s.mode x (value_of s x) (first_use known.stands.bound call) (seen_of plan w d)

  -- it is as it is in a well-formed world
  pub entry_formed : (x : Operand) (d : Descriptor) → Opened x d → IsDescriptor w.tree known.acts.formed.numbering w.files.objects w.files.states d
  entry_formed x d opened =
      subst (IfHeld (IsDescriptor w.tree known.acts.formed.numbering w.files.objects w.files.states)) opened.held
      (known.acts.formed.world.entries e.process (value_of s x))

  -- what a descriptor is of is no link
  pub no_link : (x : Operand) (d : Descriptor) → Opened x d → (n : ℕ) (access : Access) → w.files.objects d.description ≡ At_node n access → is_link (node w.tree n).kind ≡ false
  no_link x d opened n access is =
      subst (IsObject w.tree known.acts.formed.numbering d.description) is (entry_formed x d opened).object

  -- the call goes through it
  pub owed_through :
      (x : Operand) → first_operand call ≡ Some x → (demands call).never_fails ≡ false → (need : ℕ)
      → ((slot : OpenSlot) → (first_use known.stands.bound call slot).need.rights ≡ need) → (rest : Descriptor → Answer)
      → ((d : Descriptor) → Opened x d → Owes (rest d)) → Owes (through need (w.files.table e.process (value_of s x)) rest)
  owed_through x first may need needs rest owed =
      owed_held plan certificate w e.process s choice call otherwise known may (w.files.table e.process (value_of s x)) (λ d. granted need d (rest d)) (λ d here.
      let there = ap (option_map (seen_of plan w)) here in
      let way = through_slots.through plan certificate s (table_seen plan w e.process) call otherwise known.stands x (seen_of plan w d) first there in
      owed_passed plan certificate w e.process s choice call otherwise known (is_within need d.rights) ENOTCAPABLE MissingRight (rest d)
      (subst (λ n. is_within n d.rights ≡ true) (needs (record { number = value_of s x; held = way.slot.held })) way.has.rights)
      (owed d (record { held = here; there = there; way = way })))

  -- What the call does to a node is allowed, if the node is in each grant that holds the descriptor's, or is that.
  pub allowed_through :
      (x : Operand) (d : Descriptor) (opened : Opened x d) (n : ℕ) (access : Access) → w.files.objects d.description ≡ At_node n access
      → ((slot : OpenSlot) → (first_use known.stands.bound call slot).need.works ≡ true) → (operation : Operation)
      → ((slot : OpenSlot) → Among operation (first_use known.stands.bound call slot).need.operations)
      → ((slot : OpenSlot) → (first_use known.stands.bound call slot).slot ≡ slot) → (place : List (List ℕ))
      → ((name : List ℕ) → grant_holds plan.grants name (node w.tree n).place ≡ true → grant_holds plan.grants name place ≡ true)
      → s.mode ≡ true → AreAllowed plan.grants (does operation place)
  allowed_through x d opened n access is works operation lists its place beneath on =
      let holds = grant_holds plan.grants in
      let g = opened.way.slot in
      let slot : OpenSlot = record { number = value_of s x; held = g.held } in
      let u = first_use known.stands.bound call slot in (
        allowed_where plan certificate s.mode u (seen_of plan w d) opened.way.has on (works slot) operation (lists slot)
            (node w.tree n).place place
            (subst (λ (t : OpenSlot). target_describes holds t.held.target (Node_at (node w.tree n).place) ≡ true) (sym (its slot))
            (subject_is holds g.held (seen_of plan w d) (Node_at (node w.tree n).place) g.facts (ap (subject_of plan w.tree) is))) beneath,
        tt,
      )

  -- ## Tests
  pub owed_unrefused : (demands call).never_fails ≡ false → (errno : Errno) (rest : Answer) → Owes rest → Owes (unrefused w e.process s e errno rest)
  owed_unrefused may errno rest owed =
      owed_unless plan certificate w e.process s choice call otherwise known may (not e.refuse) errno Refused rest tt (λ _. owed)

  pub owed_blocked : (demands call).never_fails ≡ false → (nonblock : Bool) → Owes (blocked w e.process s e nonblock)
  owed_blocked may true = owed_fails plan certificate w e.process s choice call otherwise known may EAGAIN Refused tt
  owed_blocked may false = owed_wait plan certificate w e.process s choice call otherwise known

  -- a call that reaches a global name space isn't made in the mode
  pub owed_outside : (demands call).is_global ≡ true → (rest : Answer) → Owes rest → Owes (outside_mode w e.process s e rest)
  owed_outside global rest owed =
      owed_passed plan certificate w e.process s choice call otherwise known (not s.mode) ECAPMODE CapMode rest
      (failing.outside_mode plan certificate s (table_seen plan w e.process) call otherwise known.stands global) owed

  pub never_on : (demands call).is_global ≡ true → s.mode ≡ true → ⊥
  never_on global on =
      let off = failing.outside_mode plan certificate s (table_seen plan w e.process) call otherwise known.stands global in
      let wrong : false ≡ true = ap not (sym on) ∙ off in
      cc

  pub owed_directory :
      (demands call).never_fails ≡ false → (description : ℕ) (rest : ℕ → Answer)
      → ((n : ℕ) (access : Access) → w.files.objects description ≡ At_node n access → is_dir (node w.tree n).kind ≡ true → Owes (rest n))
      → Owes (in_directory w e.process s e description rest)
  owed_directory may description rest owed =
      owed_object plan certificate w e.process s choice call otherwise known (w.files.objects description) _ _
      (λ n access is.
      owed_unless plan certificate w e.process s choice call otherwise known may (is_dir (node w.tree n).kind) ENOTDIR errors.Kind (rest n) tt
      (λ dir. owed n access is dir))
      (λ pair side class is. owed_fails plan certificate w e.process s choice call otherwise known may ENOTDIR errors.Kind tt)

  pub owed_file :
      (demands call).never_fails ≡ false → (description : ℕ) (rest : ℕ → Access → Answer)
      → ((n : ℕ) (access : Access) → w.files.objects description ≡ At_node n access → Owes (rest n access))
      → Owes (at_file w e.process s e description rest)
  owed_file may description rest owed =
      owed_object plan certificate w e.process s choice call otherwise known (w.files.objects description) _ _
      (λ n access is.
      owed_unless plan certificate w e.process s choice call otherwise known may (is_file (node w.tree n).kind) EINVAL errors.Kind (rest n access) tt
      (λ file. owed n access is))
      (λ pair side class is. owed_fails plan certificate w e.process s choice call otherwise known may EINVAL errors.Kind tt)

  -- a lookup that ends in a fault
  pub owed_lost : (demands call).never_fails ≡ false → (fault : LookupFault) → Owes (lookup_fails fault)
  owed_lost may Escape = owed_fails plan certificate w e.process s choice call otherwise known may ENOTCAPABLE errors.Escape tt
  owed_lost may No_entry = owed_fails plan certificate w e.process s choice call otherwise known may ENOENT errors.Path tt
  owed_lost may Not_dir = owed_fails plan certificate w e.process s choice call otherwise known may ENOTDIR errors.Path tt
  owed_lost may Loop = owed_fails plan certificate w e.process s choice call otherwise known may ELOOP errors.Path tt
  owed_lost may Too_long = owed_fails plan certificate w e.process s choice call otherwise known may ENAMETOOLONG errors.Path tt
  owed_lost may Bad_last = owed_fails plan certificate w e.process s choice call otherwise known may EINVAL errors.Path tt
