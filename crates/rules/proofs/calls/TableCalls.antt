-- Calls that change one number of a table owe what they should.
use Rattle.std.proofs.Common.{◌≡◌, ℕ, true, false, [], refl, ap}
use Rattle.std.specs.Option.{option_map}
use Rattle.process.specs.State.{ProcessState}
use Rattle.fd_table.specs.Descriptions.{Descriptor}
use Rattle.fd_table.specs.OpenFiles.{lowest_free}
use Rattle.instruction_set.specs.Programs.{Operand, Syscall, Dup, Close, Cap_rights_limit, Cap_fcntls_limit, Invoke}
use Rattle.certificate.specs.Bounds.{Interval, Held, Closed, with_slot, Bound, Certificate}
use Rattle.certificate.specs.Bounds as slots
use Rattle.certificate.specs.Describes.{interval_describes, held_describes}
use Rattle.kernel.specs.World.{World, Choice}
use Rattle.kernel.specs.Answers.{Event, Same_tree, Set_entry, Clear_entry, TableChange, Same_queue, QueueChange, Same_state, Change, Gives, value_of}
use Rattle.kernel.specs.Calls.{answer}
use Rattle.kernel.specs.Changes.{given, changed}
use Rattle.task.specs.Plans.{Plan}
use Rattle.task.specs.Policies.{grant_holds}
use Rattle.rules.specs.Intervals.{only}
use Rattle.rules.specs.Seen.{seen_of, table_seen}
use Rattle.rules.proofs.bounds.IntervalLaws.{only_fits}
use Rattle.rules.proofs.bounds.Describing.{Described}
use Rattle.rules.proofs.frames.Frames.{IfPushed}
use Rattle.rules.proofs.worlds.Invariant.{IsCarried, bounds}
use Rattle.rules.proofs.frames.PairClasses.{IsNamed}
use Rattle.rules.proofs.frames.OwnTables.{set_slots, clear_slots}
use Rattle.rules.proofs.outcomes.Outcomes.{GoesOn, Takes, Limits}
use Rattle.rules.proofs.outcomes.TakenOutcomes.{leads_close, leads_rights, leads_commands, leads_dup}
use Rattle.rules.proofs.points.Taken.{number_taken}
use Rattle.rules.proofs.points.Uses.{through}
use Rattle.rules.proofs.calls.Owing.{Standing}
use Rattle.rules.proofs.calls.OwedCalls.{OwedBy, owed_passed, owed_held, owed_number}
use Rattle.rules.proofs.calls.OwedChanges.{owed_change, own_described, held_named}

-- a call that sets or clears one number, and may take a message from a queue
abbrev pub entries : TableChange → QueueChange → Change
entries table queue = record { tree = Same_tree; table = table; queue = queue; state = Same_state; enters = false }

module _ (plan : Plan) (certificate : Certificate) (w : World) (p : ℕ) (s : ProcessState) (choice : Choice) (call : Syscall) (otherwise : ℕ)
    (known : Standing plan certificate w p s choice (Invoke call otherwise)) where
  abbrev inside_set : (value number : ℕ) (d : Descriptor) (queue : QueueChange) → Bound → Type 0
  inside_set value number d queue after =
      Described (grant_holds plan.grants) after s.mode s.registers (table_seen plan (changed w p (given s value (entries (Set_entry number d) queue)) choice (entries (Set_entry number d) queue)) p)

  -- a number gets a descriptor that is named
  sets : (value number : ℕ) (d : Descriptor) (queue : QueueChange) (h : Held) → IsNamed w choice known.inv.classes d
      → held_describes (grant_holds plan.grants) h (seen_of plan w d) ≡ true
      → inside_set value number d queue (with_slot known.stands.bound number (slots.Open h))
  sets value number d queue h named is =
      let change : Change = entries (Set_entry number d) queue in
      record {
        mode = known.stands.inside.mode;
        registers = known.stands.inside.registers;
        slots =
            set_slots plan w p s choice known.acts (given s value change) change tt number d refl known.inv.classes h named is known.stands.bound.slots
            known.stands.inside.slots;
      }

  pub owed_set_queued :
      (value number : ℕ) (d : Descriptor) (queue : QueueChange) (h : Held) (i : Interval)
      → IfPushed (IsCarried (bounds plan certificate) (changed w p (given s value (entries (Set_entry number d) queue)) choice (entries (Set_entry number d) queue)) known.inv.classes) queue
      → IsNamed w choice known.inv.classes d
      → held_describes (grant_holds plan.grants) h (seen_of plan w d) ≡ true → interval_describes i value ≡ true
      → GoesOn plan certificate s (with_slot known.stands.bound number (slots.Open h)) i
      → OwedBy plan certificate w p s choice call otherwise known (Gives value (entries (Set_entry number d) queue) [])
  owed_set_queued value number d queue h i pushed named is fits leads =
      let change : Change = entries (Set_entry number d) queue in
      let inside = sets value number d queue h named is in
      owed_change plan certificate w p s choice call otherwise known value change [] (λ on. tt) (record {
        deep = tt;
        named = named;
        own = λ alive. own_described plan certificate w p s choice call otherwise known value change (with_slot known.stands.bound number (slots.Open h)) i s.registers refl refl leads fits inside;
        child = tt;
        pushed = pushed;
      })

  pub owed_set :
      (value number : ℕ) (d : Descriptor) (h : Held) (i : Interval) → IsNamed w choice known.inv.classes d
      → held_describes (grant_holds plan.grants) h (seen_of plan w d) ≡ true → interval_describes i value ≡ true
      → GoesOn plan certificate s (with_slot known.stands.bound number (slots.Open h)) i
      → OwedBy plan certificate w p s choice call otherwise known (Gives value (entries (Set_entry number d) Same_queue) [])
  owed_set value number d h i named is fits leads = owed_set_queued value number d Same_queue h i tt named is fits leads

  -- a number is closed
  pub owed_cleared :
      (number : ℕ) → GoesOn plan certificate s (with_slot known.stands.bound number Closed) (only 0)
      → OwedBy plan certificate w p s choice call otherwise known (Gives 0 (entries (Clear_entry number) Same_queue) [])
  owed_cleared number leads =
      let change : Change = entries (Clear_entry number) Same_queue in
      owed_change plan certificate w p s choice call otherwise known 0 change [] (λ on. tt) (record {
        deep = tt;
        named = tt;
        own = λ alive.
            own_described plan certificate w p s choice call otherwise known 0 change (with_slot known.stands.bound number Closed) (only 0) s.registers refl refl leads (only_fits 0)
            (record {
              mode = known.stands.inside.mode;
              registers = known.stands.inside.registers;
              slots = clear_slots plan w p s choice known.acts (given s 0 change) change tt number refl known.stands.bound.slots known.stands.inside.slots;
            });
        child = tt;
        pushed = tt;
      })

module _ (plan : Plan) (certificate : Certificate) (w : World) (e : Event) (s : ProcessState) (choice : Choice) where
  pub owed_close : (x : Operand) (otherwise : ℕ) (known : Standing plan certificate w e.process s choice (Invoke (Close x) otherwise))
      → OwedBy plan certificate w e.process s choice (Close x) otherwise known (answer w e.process s e (Close x))
  unfolding answer
  owed_close x otherwise known =
      let call = Close x in
      let p = e.process in
      owed_held plan certificate w p s choice call otherwise known refl (w.files.table p (value_of s x)) _ (λ d here.
      let there = ap (option_map (seen_of plan w)) here in
      owed_cleared plan certificate w p s choice call otherwise known (value_of s x)
      (leads_close plan certificate s (table_seen plan w p) x otherwise known.stands (seen_of plan w d) there))

  pub owed_rights : (x : Operand) (rights otherwise : ℕ) (known : Standing plan certificate w e.process s choice (Invoke (Cap_rights_limit x rights) otherwise))
      → OwedBy plan certificate w e.process s choice (Cap_rights_limit x rights) otherwise known (answer w e.process s e (Cap_rights_limit x rights))
  unfolding answer
  owed_rights x rights otherwise known =
      let call = Cap_rights_limit x rights in
      let p = e.process in
      owed_held plan certificate w p s choice call otherwise known refl (w.files.table p (value_of s x)) _ (λ d here.
      let there = ap (option_map (seen_of plan w)) here in
      let has = (through plan certificate s (table_seen plan w p) call otherwise known.stands x (seen_of plan w d) refl there).has in
      let named : IsNamed w choice known.inv.classes d = held_named plan certificate w p s choice call otherwise known (value_of s x) d here in
      let is : Limits plan certificate s known.stands.bound (value_of s x) (record (seen_of plan w d) { rights = rights }) =
      leads_rights plan certificate s (table_seen plan w p) x rights otherwise known.stands (seen_of plan w d) there in
      owed_passed plan certificate w p s choice call otherwise known _ _ _ _ has.kept_rights
      (owed_set plan certificate w p s choice call otherwise known 0 (value_of s x) (record d { rights = rights }) is.held (only 0)
      (record { apart = named.apart; class = named.class }) is.describes (only_fits 0) is.leads))

  pub owed_commands : (x : Operand) (commands otherwise : ℕ) (known : Standing plan certificate w e.process s choice (Invoke (Cap_fcntls_limit x commands) otherwise))
      → OwedBy plan certificate w e.process s choice (Cap_fcntls_limit x commands) otherwise known (answer w e.process s e (Cap_fcntls_limit x commands))
  unfolding answer
  owed_commands x commands otherwise known =
      let call = Cap_fcntls_limit x commands in
      let p = e.process in
      owed_held plan certificate w p s choice call otherwise known refl (w.files.table p (value_of s x)) _ (λ d here.
      let there = ap (option_map (seen_of plan w)) here in
      let has = (through plan certificate s (table_seen plan w p) call otherwise known.stands x (seen_of plan w d) refl there).has in
      let named : IsNamed w choice known.inv.classes d = held_named plan certificate w p s choice call otherwise known (value_of s x) d here in
      let is : Limits plan certificate s known.stands.bound (value_of s x) (record (seen_of plan w d) { fcntls = commands }) =
      leads_commands plan certificate s (table_seen plan w p) x commands otherwise known.stands (seen_of plan w d) there in
      owed_passed plan certificate w p s choice call otherwise known _ _ _ _ has.kept_commands
      (owed_set plan certificate w p s choice call otherwise known 0 (value_of s x) (record d { fcntls = commands }) is.held (only 0)
      (record { apart = named.apart; class = named.class }) is.describes (only_fits 0) is.leads))

  pub owed_dup : (x : Operand) (otherwise : ℕ) (known : Standing plan certificate w e.process s choice (Invoke (Dup x) otherwise))
      → OwedBy plan certificate w e.process s choice (Dup x) otherwise known (answer w e.process s e (Dup x))
  unfolding answer
  owed_dup x otherwise known =
      let call = Dup x in
      let p = e.process in
      owed_held plan certificate w p s choice call otherwise known refl (w.files.table p (value_of s x)) _ (λ d here.
      let there = ap (option_map (seen_of plan w)) here in
      let named : IsNamed w choice known.inv.classes d = held_named plan certificate w p s choice call otherwise known (value_of s x) d here in
      owed_number plan certificate w p s choice call otherwise known refl (lowest_free (w.files.table p)) _ (λ k free.
      let numbers = number_taken plan certificate s (seen_of plan w) (w.files.table p) call otherwise known.stands refl k free in
      let is : Takes plan certificate s known.stands.bound k (seen_of plan w d) = leads_dup plan certificate s (table_seen plan w p) x otherwise known.stands (seen_of plan w d) k there numbers in
      owed_set plan certificate w p s choice call otherwise known k k d is.held (only k) named is.describes (only_fits k) is.leads))
