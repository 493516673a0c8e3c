-- Calls that change neither places nor tables owe what they should.
use Rattle.std.proofs.Common.{◌≡◌, ℕ, Bool, true, false, [], refl, ap}
use Rattle.std.specs.Prelude.{◌&&◌, ◌||◌}
use Rattle.std.specs.Option.{option_map}
use Rattle.process.specs.State.{ProcessState}
use Rattle.fd_table.specs.Descriptions.{State, status_number, bit_of}
use Rattle.instruction_set.specs.Programs.{Operand, Fsync, Fcntl_getfl, Cap_enter, Cap_getmode, Invoke}
use Rattle.certificate.specs.Bounds.{ModeBound, Off, On, Either, Certificate}
use Rattle.certificate.specs.Describes.{interval_describes, mode_describes}
use Rattle.kernel.specs.World.{World, Choice}
use Rattle.kernel.specs.Answers.{Event, Same_tree, Same_queue, Same_state, value_of}
use Rattle.kernel.specs.Calls.{answer}
use Rattle.kernel.specs.Changes.{given}
use Rattle.task.specs.Plans.{Plan}
use Rattle.rules.specs.Intervals.{only}
use Rattle.rules.specs.Outcomes.{from_to, mode_interval}
use Rattle.rules.specs.Seen.{seen_of, table_seen}
use Rattle.rules.proofs.bounds.IntervalLaws.{only_fits}
use Rattle.rules.proofs.points.Uses.{through}
use Rattle.rules.proofs.outcomes.CallOutcomes.{leads_cap_enter, leads_cap_getmode, leads_fsync, leads_getfl}
use Rattle.rules.proofs.calls.Owing.{Standing}
use Rattle.rules.proofs.calls.OwedCalls.{OwedBy, quiet, owed_passed, owed_held, owed_object, owed_fails, owed_quiet, owed_value, inside_later}

turned_on : (a : Bool) → (a || true) ≡ true
turned_on true = refl
turned_on false = refl

mode_fits : (m : ModeBound) (on : Bool) → mode_describes m on ≡ true → interval_describes (mode_interval m) (bit_of on 1) ≡ true
mode_fits Off true is = absurd cc
mode_fits Off false is = refl
mode_fits On true is = refl
mode_fits On false is = absurd cc
mode_fits Either true is = refl
mode_fits Either false is = refl

status_fits : (a b : Bool) (state : State) → state.append ≡ a → state.nonblock ≡ b → interval_describes (from_to 0 3) (status_number state) ≡ true
status_fits true true state one two = rw (one, two) refl
status_fits true false state one two = rw (one, two) refl
status_fits false true state one two = rw (one, two) refl
status_fits false false state one two = rw (one, two) refl

module _ (plan : Plan) (certificate : Certificate) (w : World) (e : Event) (s : ProcessState) (choice : Choice) where
  pub owed_cap_getmode : (otherwise : ℕ) (known : Standing plan certificate w e.process s choice (Invoke Cap_getmode otherwise))
      → OwedBy plan certificate w e.process s choice Cap_getmode otherwise known (answer w e.process s e Cap_getmode)
  unfolding answer
  owed_cap_getmode otherwise known =
      let b = known.stands.bound in
      owed_value plan certificate w e.process s choice Cap_getmode otherwise known (bit_of s.mode 1) Same_tree Same_queue Same_state [] (mode_interval b.mode) tt (λ on. tt) tt
      (leads_cap_getmode plan certificate s (table_seen plan w e.process) otherwise known.stands) (mode_fits b.mode s.mode known.stands.inside.mode)

  pub owed_cap_enter : (otherwise : ℕ) (known : Standing plan certificate w e.process s choice (Invoke Cap_enter otherwise))
      → OwedBy plan certificate w e.process s choice Cap_enter otherwise known (answer w e.process s e Cap_enter)
  unfolding answer
  owed_cap_enter otherwise known =
      let inside = inside_later plan certificate w e.process s choice Cap_enter otherwise known (given s 0 (quiet Same_tree Same_queue Same_state true)) Same_tree Same_queue Same_state true tt in
      owed_quiet plan certificate w e.process s choice Cap_enter otherwise known 0 Same_tree Same_queue Same_state true [] (record known.stands.bound { mode = On }) (only 0)
      (ap (λ m. m && (s.mode || true)) (known.stays refl)) tt (λ on. tt) tt
      (leads_cap_enter plan certificate s (table_seen plan w e.process) otherwise known.stands) (only_fits 0)
      (record { mode = turned_on s.mode; registers = inside.registers; slots = inside.slots })

  pub owed_getfl : (x : Operand) (otherwise : ℕ) (known : Standing plan certificate w e.process s choice (Invoke (Fcntl_getfl x) otherwise))
      → OwedBy plan certificate w e.process s choice (Fcntl_getfl x) otherwise known (answer w e.process s e (Fcntl_getfl x))
  unfolding answer
  owed_getfl x otherwise known =
      let call = Fcntl_getfl x in
      let p = e.process in
      owed_held plan certificate w p s choice call otherwise known refl (w.files.table p (value_of s x)) _ (λ d here.
      let there = ap (option_map (seen_of plan w)) here in
      let has = (through plan certificate s (table_seen plan w p) call otherwise known.stands x (seen_of plan w d) refl there).has in
      let state = w.files.states d.description in
      owed_passed plan certificate w p s choice call otherwise known _ _ _ _ has.rights
      (owed_passed plan certificate w p s choice call otherwise known _ _ _ _ has.commands
      (owed_value plan certificate w p s choice call otherwise known (status_number state) Same_tree Same_queue Same_state [] (from_to 0 3) tt (λ on. tt) tt
      (leads_getfl plan certificate s (table_seen plan w p) x otherwise known.stands (seen_of plan w d) there) (status_fits state.append state.nonblock state refl refl))))

  pub owed_fsync : (x : Operand) (otherwise : ℕ) (known : Standing plan certificate w e.process s choice (Invoke (Fsync x) otherwise))
      → OwedBy plan certificate w e.process s choice (Fsync x) otherwise known (answer w e.process s e (Fsync x))
  unfolding answer
  owed_fsync x otherwise known =
      let call = Fsync x in
      let p = e.process in
      owed_held plan certificate w p s choice call otherwise known refl (w.files.table p (value_of s x)) _ (λ d here.
      let there = ap (option_map (seen_of plan w)) here in
      let has = (through plan certificate s (table_seen plan w p) call otherwise known.stands x (seen_of plan w d) refl there).has in
      owed_passed plan certificate w p s choice call otherwise known _ _ _ _ has.rights
      (owed_object plan certificate w p s choice call otherwise known (w.files.objects d.description) _ _
      (λ n access is.
      owed_value plan certificate w p s choice call otherwise known 0 Same_tree Same_queue Same_state [] (only 0) tt (λ on. tt) tt
      (leads_fsync plan certificate s (table_seen plan w p) x otherwise known.stands (seen_of plan w d) there) (only_fits 0))
      (λ pair side class is. owed_fails plan certificate w p s choice call otherwise known refl _ _ tt)))
