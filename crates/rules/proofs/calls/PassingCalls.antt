-- `recvfd`, `sendfd`, `socketpair` and `fork` owe what they should.
use Rattle.std.proofs.Common.{◌≡◌, ◌≢◌, ℕ, ◌+◌, Bool, true, false, List, [], ◌∷◌, length, refl, arith, ap, sym, ◌∙◌, subst}
use Rattle.std.specs.Prelude.{◌-◌, ◌%◌, ◌<◌, Option, Some, None, nat_lt, ◌&&◌, ◌||◌, slice_set, if◌then◌else◌}
use Rattle.std.specs.Option.{option_map}
use Rattle.std.specs.Cmp.Derive.{both_true}
use Rattle.std.proofs.lemmas.Bool.{ltb-true, le-leb}
use Rattle.rights.specs.Limits.{most_processes, most_messages, most_descriptors}
use Rattle.rights.specs.Classes.{Class}
use Rattle.rights.specs.Classes as classes
use Rattle.process.specs.State.{ProcessState, forked}
use Rattle.rights.specs.Sides.{other_side}
use Rattle.fd_table.specs.Descriptions.{PairClass, Initial, Made_at, Made_by, At_end, Descriptor, Message, IfHeld}
use Rattle.fd_table.specs.OpenFiles.{lowest_from, lowest_free}
use Rattle.instruction_set.specs.Programs.{Operand, Syscall, Sendfd, Recvfd, Socketpair, Fork, Invoke}
use Rattle.certificate.specs.Bounds.{with_interval, Socket, Held, with_slot, Bound, Certificate}
use Rattle.certificate.specs.Bounds as slots
use Rattle.certificate.specs.Describes.{End_of, Seen, Holds, held_describes, interval_describes}
use Rattle.kernel.specs.World.{World, Choice}
use Rattle.kernel.specs.Answers.{Event, Answer, Same_tree, New_pair, New_process, Push, Pop, Same_queue, Same_state, Change, value_of}
use Rattle.kernel.specs.Calls.{answer, own_class, receive_end, received, pair_at, sent_end}
use Rattle.kernel.specs.Changes.{second_number, given, changed}
use Rattle.kernel.specs.WellFormed.{IsDescriptor, EachMessage}
use Rattle.task.specs.Plans.{Plan, program_name}
use Rattle.task.specs.Policies.{grant_holds}
use Rattle.rules.specs.Intervals.{only}
use Rattle.rules.specs.Channels.{channel_at}
use Rattle.rules.specs.Outcomes.{from_to, all_held, with_pair}
use Rattle.rules.specs.Seen.{end_seen, subject_of, seen_of, table_seen}
use Rattle.rules.proofs.bounds.IntervalLaws.{only_fits}
use Rattle.rules.proofs.bounds.Describing.{Described, register_changed, set_apart}
use Rattle.rules.proofs.worlds.Invariant.{Carries, IsInLine, LivesBy, is_free, line_describes, bounds}
use Rattle.rules.proofs.frames.Frames.{bounds_persist}
use Rattle.rules.proofs.frames.ChangeKinds.{frame_changed}
use Rattle.rules.proofs.frames.PairClasses.{IsNamed}
use Rattle.rules.proofs.frames.OwnTables.{old_slots, child_slots, parent_slots, pair_slots}
use Rattle.rules.proofs.frames.Arrivals.{named_end, sent_arrives}
use Rattle.rules.proofs.frames.Bounded.{front_carried}
use Rattle.rules.proofs.points.Known.{Line, never_sends_own, sends_line}
use Rattle.rules.proofs.outcomes.CallOutcomes.{leads_fork, leads_fork_child}
use Rattle.rules.proofs.outcomes.Outcomes.{Takes}
use Rattle.rules.proofs.outcomes.TakenOutcomes.{IsComing, fresh, leads_recvfd, leads_own_recvfd, end_described, leads_pair, leads_sendfd}
use Rattle.rules.proofs.points.Taken.{number_taken, pair_taken}
use Rattle.rules.proofs.points.Uses.{through}
use Rattle.rules.proofs.outcomes.Plain.{arrives}
use Rattle.rules.proofs.calls.Owing.{Standing, described_there, lives_described}
use Rattle.rules.proofs.calls.OwedCalls.{OwedBy, off_stays, quiet, owed_fails, owed_passed, owed_unless, owed_held, owed_object, owed_number, owed_value}
use Rattle.rules.proofs.calls.OwedTests.{owed_blocked}
use Rattle.rules.proofs.calls.OwedChanges.{owed_change, own_described, held_named}
use Rattle.rules.proofs.calls.TableCalls.{entries, owed_set_queued}

coming : (holds : Holds) (line : Option (Option Held)) (d : Seen) → line_describes holds line d ≡ true → IsComing holds line d
coming holds None d is = tt
coming holds (Some line) d is = is

in_line : (holds : Holds) (line : Option (Option Held)) (d : Seen) → Line holds line d → line_describes holds line d ≡ true
in_line holds line d is = subst (λ x. line_describes holds x d ≡ true) (sym is.is) is.describes

set_twice : (xs : List ℕ) (v x : ℕ) → slice_set (slice_set xs 0 v) 0 x ≡ slice_set xs 0 x
set_twice [] v x = refl
set_twice (y ∷ xs) v x = refl

module _ (plan : Plan) (certificate : Certificate) (w : World) (p : ℕ) (s : ProcessState) (choice : Choice) (call : Syscall) (otherwise : ℕ)
    (known : Standing plan certificate w p s choice (Invoke call otherwise)) where
  owed_if : (c : Bool) (a b : Answer) → (c ≡ true → OwedBy plan certificate w p s choice call otherwise known a)
      → OwedBy plan certificate w p s choice call otherwise known b → OwedBy plan certificate w p s choice call otherwise known (if c then a else b)
  owed_if true a b one other = one refl
  owed_if false a b one other = other

module _ (plan : Plan) (certificate : Certificate) (w : World) (e : Event) (s : ProcessState) (choice : Choice) where
  -- ## recvfd
  -- the number takes what the front message carries, whatever the class of the pair
  takes_carried : (x : Operand) (otherwise : ℕ) (known : Standing plan certificate w e.process s choice (Invoke (Recvfd x) otherwise))
      → (pair side number : ℕ) (class : PairClass) (d c : Descriptor) → w.files.table e.process (value_of s x) ≡ Some d
      → w.files.objects d.description ≡ At_end pair side class → lowest_free (w.files.table e.process) ≡ Some number
      → Carries plan certificate w class (other_side side) c → IsDescriptor w.tree known.acts.formed.numbering w.files.objects w.files.states c
      → Takes plan certificate s known.stands.bound number (seen_of plan w c)
  takes_carried x otherwise known pair side number (Initial n) d c here end free carried formed =
      let holds = grant_holds plan.grants in
      leads_recvfd plan certificate s (table_seen plan w e.process) x otherwise known.stands (seen_of plan w d) (classes.Initial n) side (seen_of plan w c) number
      (ap (option_map (seen_of plan w)) here) (ap (subject_of plan w.tree) end)
      (coming holds (channel_at certificate (classes.Initial n) (other_side side)) (seen_of plan w c) carried) formed.rights formed.fcntls
      (number_taken plan certificate s (seen_of plan w) (w.files.table e.process) (Recvfd x) otherwise known.stands refl number free)
  takes_carried x otherwise known pair side number (Made_at program point) d c here end free carried formed =
      let holds = grant_holds plan.grants in
      let class = classes.Made_at (program_name plan program) point in
      leads_recvfd plan certificate s (table_seen plan w e.process) x otherwise known.stands (seen_of plan w d) class side (seen_of plan w c) number
      (ap (option_map (seen_of plan w)) here) (ap (subject_of plan w.tree) end)
      (coming holds (channel_at certificate class (other_side side)) (seen_of plan w c) carried) formed.rights formed.fcntls
      (number_taken plan certificate s (seen_of plan w) (w.files.table e.process) (Recvfd x) otherwise known.stands refl number free)
  takes_carried x otherwise known pair side number (Made_by program) d c here end free carried formed =
      leads_own_recvfd plan certificate s (table_seen plan w e.process) x otherwise known.stands (seen_of plan w d) (program_name plan program) side (seen_of plan w c) number
      (ap (option_map (seen_of plan w)) here) (ap (subject_of plan w.tree) end) formed.rights formed.fcntls
      (number_taken plan certificate s (seen_of plan w) (w.files.table e.process) (Recvfd x) otherwise known.stands refl number free)

  -- what the front message carries
  owed_received : (x : Operand) (otherwise : ℕ) (known : Standing plan certificate w e.process s choice (Invoke (Recvfd x) otherwise))
      → (pair side number : ℕ) (class : PairClass) (d : Descriptor) → w.files.table e.process (value_of s x) ≡ Some d
      → w.files.objects d.description ≡ At_end pair side class → lowest_free (w.files.table e.process) ≡ Some number → (o : Option Descriptor)
      → IfHeld (λ c. IsNamed w choice known.inv.classes c × Carries plan certificate w (known.inv.classes pair) (other_side side) c) o
      → IfHeld (IsDescriptor w.tree known.acts.formed.numbering w.files.objects w.files.states) o
      → OwedBy plan certificate w e.process s choice (Recvfd x) otherwise known (received w e.process s e pair side number o)
  owed_received x otherwise known pair side number class d here end free None carried formed =
      owed_fails plan certificate w e.process s choice (Recvfd x) otherwise known refl _ _ tt
  owed_received x otherwise known pair side number class d here end free (Some c) carried formed =
      let call = Recvfd x in
      let p = e.process in
      let named : IsNamed w choice known.inv.classes d = held_named plan certificate w p s choice call otherwise known (value_of s x) d here in
      let one : known.inv.classes pair ≡ class = (named_end plan w p s choice known.acts (bounds plan certificate) known.inv d pair side class named end).1 in
      let is : Takes plan certificate s known.stands.bound number (seen_of plan w c) =
      takes_carried x otherwise known pair side number class d c here end free (subst (λ k. Carries plan certificate w k (other_side side) c) one carried.1) formed in
      owed_set_queued plan certificate w p s choice call otherwise known number number c (Pop pair (other_side side)) is.held (only number) tt carried.0
      is.describes (only_fits number) is.leads

  owed_receive_end : (x : Operand) (otherwise : ℕ) (known : Standing plan certificate w e.process s choice (Invoke (Recvfd x) otherwise))
      → (pair side number : ℕ) (class : PairClass) (d : Descriptor) → w.files.table e.process (value_of s x) ≡ Some d
      → w.files.objects d.description ≡ At_end pair side class → lowest_free (w.files.table e.process) ≡ Some number
      → (messages : List Message) → w.files.queue pair (other_side side) ≡ messages
      → OwedBy plan certificate w e.process s choice (Recvfd x) otherwise known (receive_end w e.process s e d.description pair side number messages)
  owed_receive_end x otherwise known pair side number class d here end free [] is =
      owed_unless plan certificate w e.process s choice (Recvfd x) otherwise known refl _ _ _ _ tt (λ opened.
      owed_blocked plan certificate w e s choice (Recvfd x) otherwise known refl (w.files.states d.description).nonblock)
  owed_receive_end x otherwise known pair side number class d here end free (m ∷ messages) is =
      let formed : EachMessage (IsDescriptor w.tree known.acts.formed.numbering w.files.objects w.files.states) (m ∷ messages) =
      subst (EachMessage (IsDescriptor w.tree known.acts.formed.numbering w.files.objects w.files.states)) is
      (known.acts.formed.world.messages pair (other_side side)) in
      owed_received x otherwise known pair side number class d here end free m.passed
      (front_carried plan certificate w e.process s choice known.acts known.inv pair (other_side side) m messages is) formed.1

  pub owed_recvfd : (x : Operand) (otherwise : ℕ) (known : Standing plan certificate w e.process s choice (Invoke (Recvfd x) otherwise))
      → OwedBy plan certificate w e.process s choice (Recvfd x) otherwise known (answer w e.process s e (Recvfd x))
  unfolding answer
  owed_recvfd x otherwise known =
      let call = Recvfd x in
      let p = e.process in
      owed_held plan certificate w p s choice call otherwise known refl (w.files.table p (value_of s x)) _ (λ d here.
      let has = (through plan certificate s (table_seen plan w p) call otherwise known.stands x (seen_of plan w d) refl (ap (option_map (seen_of plan w)) here)).has in
      owed_passed plan certificate w p s choice call otherwise known _ _ _ _ has.rights
      (owed_object plan certificate w p s choice call otherwise known (w.files.objects d.description) _ _
      (λ n access is. owed_fails plan certificate w p s choice call otherwise known refl _ _ tt)
      (λ pair side class is.
      owed_number plan certificate w p s choice call otherwise known refl (lowest_free (w.files.table p)) _ (λ number free.
      owed_receive_end x otherwise known pair side number class d here is free (w.files.queue pair (other_side side)) refl))))

  -- ## sendfd
  -- into an end of a class that a certificate can name
  owed_sent : (x y v : Operand) (otherwise : ℕ) (known : Standing plan certificate w e.process s choice (Invoke (Sendfd x y v) otherwise))
      → (d passed : Descriptor) → w.files.table e.process (value_of s x) ≡ Some d → w.files.table e.process (value_of s y) ≡ Some passed
      → (pair side : ℕ) (class : PairClass) → w.files.objects d.description ≡ At_end pair side class → (named : Class) → end_seen plan class side ≡ End_of named side
      → (IsInLine plan certificate w named side passed → Carries plan certificate w class side passed)
      → OwedBy plan certificate w e.process s choice (Sendfd x y v) otherwise known
      (sent_end w e.process s e d.description pair side (record { byte = value_of s v % 256; passed = Some passed }))
  owed_sent x y v otherwise known d passed here also pair side class is class_named end_is carried =
      let call = Sendfd x y v in
      let p = e.process in
      let holds = grant_holds plan.grants in
      let there = ap (option_map (seen_of plan w)) here in
      let beside = ap (option_map (seen_of plan w)) also in
      let end = ap (subject_of plan w.tree) is ∙ end_is in
      let message : Message = record { byte = value_of s v % 256; passed = Some passed } in
      let change : Change = quiet Same_tree (Push pair side message) Same_state false in
      let t : ProcessState = given s 1 change in
      let named : IsNamed w choice known.inv.classes passed = held_named plan certificate w p s choice call otherwise known (value_of s y) passed also in
      let through_end : (pair ≢ choice.pair) × (known.inv.classes pair ≡ class) =
      named_end plan w p s choice known.acts (bounds plan certificate) known.inv d pair side class
      (held_named plan certificate w p s choice call otherwise known (value_of s x) d here) is in
      let line : Line holds (channel_at certificate class_named side) (seen_of plan w passed) =
      sends_line plan certificate s (table_seen plan w p) x y v otherwise known.stands (seen_of plan w d) (seen_of plan w passed) class_named side there beside end in
      let carries : Carries plan certificate w (known.inv.classes pair) side passed =
      subst (λ k. Carries plan certificate w k side passed) (sym through_end.1) (carried (in_line holds (channel_at certificate class_named side) (seen_of plan w passed) line)) in
      owed_unless plan certificate w p s choice call otherwise known refl _ _ _ _ tt (λ opened.
      owed_if plan certificate w p s choice call otherwise known (nat_lt (length (w.files.queue pair side)) most_messages) _ _
      (λ room.
      owed_value plan certificate w p s choice call otherwise known 1 Same_tree (Push pair side message) Same_state [] (only 1) tt (λ on. tt)
      (sent_arrives plan w p s choice known.acts (bounds plan certificate) known.inv t change tt
      (bounds_persist plan w (changed w p t choice change) choice (Push pair side message) p (frame_changed plan w p s choice known.acts t change tt) certificate)
      pair side through_end.0 passed named carries)
      (leads_sendfd plan certificate s (table_seen plan w p) x y v otherwise known.stands (seen_of plan w d) (seen_of plan w passed) class_named side there beside end)
      (only_fits 1))
      (owed_blocked plan certificate w e s choice call otherwise known refl (w.files.states d.description).nonblock))

  owed_into : (x y v : Operand) (otherwise : ℕ) (known : Standing plan certificate w e.process s choice (Invoke (Sendfd x y v) otherwise))
      → (d passed : Descriptor) → w.files.table e.process (value_of s x) ≡ Some d → w.files.table e.process (value_of s y) ≡ Some passed
      → (pair side : ℕ) (class : PairClass) → w.files.objects d.description ≡ At_end pair side class
      → OwedBy plan certificate w e.process s choice (Sendfd x y v) otherwise known
      (sent_end w e.process s e d.description pair side (record { byte = value_of s v % 256; passed = Some passed }))
  owed_into x y v otherwise known d passed here also pair side (Initial n) is =
      owed_sent x y v otherwise known d passed here also pair side (Initial n) is (classes.Initial n) refl (λ line. line)
  owed_into x y v otherwise known d passed here also pair side (Made_at program point) is =
      owed_sent x y v otherwise known d passed here also pair side (Made_at program point) is (classes.Made_at (program_name plan program) point) refl (λ line. line)
  owed_into x y v otherwise known d passed here also pair side (Made_by program) is =
      absurd (never_sends_own plan certificate s (table_seen plan w e.process) x y v otherwise known.stands (seen_of plan w d) (program_name plan program) side
      (ap (option_map (seen_of plan w)) here) (ap (subject_of plan w.tree) is))

  pub owed_sendfd : (x y v : Operand) (otherwise : ℕ) (known : Standing plan certificate w e.process s choice (Invoke (Sendfd x y v) otherwise))
      → OwedBy plan certificate w e.process s choice (Sendfd x y v) otherwise known (answer w e.process s e (Sendfd x y v))
  unfolding answer
  owed_sendfd x y v otherwise known =
      let call = Sendfd x y v in
      let p = e.process in
      owed_held plan certificate w p s choice call otherwise known refl (w.files.table p (value_of s x)) _ (λ d here.
      owed_held plan certificate w p s choice call otherwise known refl (w.files.table p (value_of s y)) _ (λ passed also.
      let has = (through plan certificate s (table_seen plan w p) call otherwise known.stands x (seen_of plan w d) refl (ap (option_map (seen_of plan w)) here)).has in
      owed_passed plan certificate w p s choice call otherwise known _ _ _ _ has.rights
      (owed_object plan certificate w p s choice call otherwise known (w.files.objects d.description) _ _
      (λ n access is. owed_fails plan certificate w p s choice call otherwise known refl _ _ tt)
      (λ pair side class is. owed_into x y v otherwise known d passed here also pair side class is))))

  -- ## socketpair
  at_second : (otherwise : ℕ) (known : Standing plan certificate w e.process s choice (Invoke Socketpair otherwise)) (first : ℕ)
      → lowest_free (w.files.table e.process) ≡ Some first
      → OwedBy plan certificate w e.process s choice Socketpair otherwise known (pair_at w e.process s e (Some first))
  at_second otherwise known first free =
      let p = e.process in
      let holds = grant_holds plan.grants in
      let b = known.stands.bound in
      let name = program_name plan s.program in
      owed_number plan certificate w p s choice Socketpair otherwise known refl (lowest_from (most_descriptors - 1 - first) (first + 1) (w.files.table p)) _
      (λ second free_too.
      owed_unless plan certificate w p s choice Socketpair otherwise known refl _ _ _ _ tt (λ goes.
      let class : PairClass = own_class s in
      let own : class ≡ Made_at s.program s.point = ap (λ b. if b then Made_by s.program else Made_at s.program s.point) known.follows in
      let change : Change = entries (New_pair first second class) Same_queue in
      let t : ProcessState = given s first change in
      let one : Held = all_held (Socket (classes.Made_at name s.point) 0) in
      let other : Held = all_held (Socket (classes.Made_at name s.point) 1) in
      let both : Bound = with_slot (with_slot b first (slots.Open one)) second (slots.Open other) in
      let table = table_seen plan (changed w p t choice change) p in
      let inside : Described holds both s.mode s.registers table = record {
        mode = known.stands.inside.mode;
        registers = known.stands.inside.registers;
        slots =
            pair_slots plan w p s choice known.acts t change tt first second class refl one other
            (subst (λ c. held_describes holds one (fresh (end_seen plan c 0)) ≡ true) (sym own) (end_described plan certificate s (table_seen plan w p) name s.point 0))
            (subst (λ c. held_describes holds other (fresh (end_seen plan c 1)) ≡ true) (sym own) (end_described plan certificate s (table_seen plan w p) name s.point 1))
            b.slots known.stands.inside.slots;
      } in
      owed_change plan certificate w p s choice Socketpair otherwise known first change [] (λ on. tt) (record {
        deep = tt;
        named = tt;
        own = λ alive.
            own_described plan certificate w p s choice Socketpair otherwise known first change (with_pair plan.grants certificate name s.point b first second) (only first)
            (slice_set s.registers 1 second) refl (set_apart s.registers 0 1 first second (λ same. absurd (omega (arith, same))))
            (leads_pair plan certificate s (table_seen plan w p) otherwise known.stands first second
            (pair_taken plan certificate s (seen_of plan w) (w.files.table p) Socketpair otherwise known.stands refl first second free free_too))
            (only_fits first) (register_changed holds both s.mode s.registers table 1 second (only second) (only_fits second) inside);
        child = tt;
        pushed = tt;
      })))

  at_first : (otherwise : ℕ) (known : Standing plan certificate w e.process s choice (Invoke Socketpair otherwise)) (o : Option ℕ)
      → lowest_free (w.files.table e.process) ≡ o
      → OwedBy plan certificate w e.process s choice Socketpair otherwise known (pair_at w e.process s e o)
  at_first otherwise known None free = owed_fails plan certificate w e.process s choice Socketpair otherwise known refl _ _ tt
  at_first otherwise known (Some first) free = at_second otherwise known first free

  pub owed_socketpair : (otherwise : ℕ) (known : Standing plan certificate w e.process s choice (Invoke Socketpair otherwise))
      → OwedBy plan certificate w e.process s choice Socketpair otherwise known (answer w e.process s e Socketpair)
  unfolding answer
  owed_socketpair otherwise known = at_first otherwise known (lowest_free (w.files.table e.process)) refl

  -- ## fork
  few_made : (n : ℕ) → 0 < n → nat_lt n most_processes ≡ true → interval_describes (from_to 1 (most_processes - 1)) n ≡ true
  few_made n some few =
      let below : n < most_processes = ltb-true n most_processes few in
      both_true (le-leb 1 n (omega (arith, some))) (le-leb n (most_processes - 1) (omega (arith, below)))

  pub owed_fork : (otherwise : ℕ) (known : Standing plan certificate w e.process s choice (Invoke Fork otherwise))
      → OwedBy plan certificate w e.process s choice Fork otherwise known (answer w e.process s e Fork)
  unfolding answer
  owed_fork otherwise known =
      let p = e.process in
      let holds = grant_holds plan.grants in
      let b = known.stands.bound in
      let made = length w.processes in
      let change : Change = entries New_process Same_queue in
      let t : ProcessState = given s made change in
      let v : World = changed w p t choice change in
      let row = old_slots plan w p s choice known.acts t change tt b.slots known.stands.inside.slots in
      let child : Described holds b s.mode s.registers (table_seen plan v made) = record {
        mode = known.stands.inside.mode;
        registers = known.stands.inside.registers;
        slots = child_slots plan w p s choice known.acts t change tt refl b.slots row;
      } in
      owed_unless plan certificate w p s choice Fork otherwise known refl (nat_lt made most_processes) _ _ _ tt (λ few.
      owed_unless plan certificate w p s choice Fork otherwise known refl _ _ _ _ tt (λ goes.
      owed_change plan certificate w p s choice Fork otherwise known made change [] (λ on. tt) (record {
        deep = tt;
        named = tt;
        own = λ alive.
            own_described plan certificate w p s choice Fork otherwise known made change b (from_to 1 (most_processes - 1)) s.registers refl refl
            (leads_fork plan certificate s (table_seen plan w p) otherwise known.stands) (few_made made known.acts.formed.world.some few) (record {
              mode = known.stands.inside.mode;
              registers = known.stands.inside.registers;
              slots = parent_slots plan w p s choice known.acts t change tt refl b.slots known.stands.inside.slots;
            });
        child = λ alive. child_described otherwise known made change refl child;
        pushed = tt;
      })))
    where
      child_described : (otherwise : ℕ) (known : Standing plan certificate w e.process s choice (Invoke Fork otherwise)) (made : ℕ) (change : Change)
          → change ≡ entries New_process Same_queue
          → Described (grant_holds plan.grants) known.stands.bound s.mode s.registers (table_seen plan (changed w e.process (given s made change) choice change) made)
          → LivesBy plan certificate (is_free (given s made change)) (changed w e.process (given s made change) choice change) made (forked (given s made change))
      child_described otherwise known made change is child =
          let holds = grant_holds plan.grants in
          let t : ProcessState = given s made change in
          let v : World = changed w e.process t choice change in
          let enters : (s.mode || change.enters) ≡ s.mode = ap (λ (c : Change). s.mode || c.enters) is ∙ off_stays s.mode in
          let registers : (forked t).registers ≡ slice_set s.registers 0 0 =
          ap (λ (c : Change). slice_set (second_number c.table (slice_set s.registers 0 made)) 0 0) is ∙ set_twice s.registers made 0 in
          lives_described plan certificate v made (forked t) (subst (λ m. (s.marked && m) ≡ false) (sym enters) known.follows)
          (described_there plan certificate v made (forked t)
          (arrives plan certificate (forked t) (table_seen plan v made) (with_interval known.stands.bound 0 (only 0))
          (leads_fork_child plan certificate s (table_seen plan w e.process) otherwise known.stands)
          (subst (λ m. Described holds (with_interval known.stands.bound 0 (only 0)) m (forked t).registers (table_seen plan v made)) (sym enters)
          (subst (λ rs. Described holds (with_interval known.stands.bound 0 (only 0)) s.mode rs (table_seen plan v made)) (sym registers)
          (register_changed holds known.stands.bound s.mode s.registers (table_seen plan v made) 0 0 (only 0) (only_fits 0) child)))))
