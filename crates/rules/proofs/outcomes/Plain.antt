-- What an instruction that is no call does lies in its outcomes.
use Rattle.std.proofs.Common.{◌≡◌, ℕ, ◌+◌, ◌%◌, ◌^◌, Bool, true, false, List, ◌++◌, inl, refl, arith, ap, sym, ◌∙◌, subst}
use Rattle.std.specs.Prelude.{◌==◌, nat_lt, Option, Some, None}
use Rattle.std.proofs.lemmas.Bool.{eqb-true, eq-eqb, ltb-true, ltb-false}
use Rattle.process.specs.State.{ProcessState, moved_to}
use Rattle.instruction_set.specs.Programs.{Instruction, Set, Mov, Add, In, Jmp, Jeq, Jlt, Halt, Invoke}
use Rattle.kernel.specs.World.{World, Choice}
use Rattle.kernel.specs.Answers.{Event, IsEvent}
use Rattle.kernel.specs.Steps.{register, with_register, goes_on, plain, jumped, executed}
use Rattle.task.specs.Plans.{Plan, program_name}
use Rattle.task.specs.Policies.{grant_holds}
use Rattle.certificate.specs.Bounds.{Interval, interval, with_interval, Bound, Certificate, bound_at}
use Rattle.certificate.specs.Describes.{Seen, interval_describes, describes}
use Rattle.certificate.proofs.Smaller.{describes_smaller}
use Rattle.rules.specs.Intervals.{only, sums, equal_part, other_part, lower_part, upper_part}
use Rattle.rules.specs.Outcomes.{Outcome, outcome_to, outcomes_in, from_to, successes}
use Rattle.rules.proofs.bounds.Describing.{Described, from_described, register_changed, interval_changed}
use Rattle.rules.proofs.bounds.IntervalLaws.{HasPart, inside_of, only_fits, sum_fits, has_equal, has_other, has_lower, has_upper}
use Rattle.rules.proofs.Members.{Among, among_left, among_right}
use Rattle.rules.proofs.points.Asked.{Leads}
use Rattle.rules.proofs.points.Stands.{Stands, register_inside}

-- A process whose point has a bound that describes it.
pub record Arrives (plan : Plan) (certificate : Certificate) (t : ProcessState) (table : ℕ → Option Seen) : Type 0 where
  pub bound : Bound
  pub at : bound_at certificate (program_name plan t.program) t.point ≡ Some bound
  pub is : describes (grant_holds plan.grants) bound t.mode t.registers table ≡ true

-- It comes there with an outcome that describes it.
pub arrives :
    (plan : Plan) (certificate : Certificate) (t : ProcessState) (table : ℕ → Option Seen) (b : Bound)
    → Leads certificate (program_name plan t.program) (record { point = t.point; bound = b }) → Described (grant_holds plan.grants) b t.mode t.registers table
    → Arrives plan certificate t table
arrives plan certificate t table b there is = record {
  bound = there.bound;
  at = there.at;
  is =
      describes_smaller (grant_holds plan.grants) b there.bound t.mode t.registers table there.within
      (from_described (grant_holds plan.grants) b t.mode t.registers table is);
}

-- What a plain instruction comes to: another state of the process alone, of the same program, mark, mode and life.
pub record Moves (plan : Plan) (certificate : Certificate) (w : World) (e : Event) (choice : Choice) (s : ProcessState) (table : ℕ → Option Seen) (i : Instruction) : Type 0 where
  pub to : ProcessState
  pub is : executed w e choice s i ≡ plain w e.process to
  pub program : to.program ≡ s.program
  pub marked : to.marked ≡ s.marked
  pub mode : to.mode ≡ s.mode
  pub alive : to.alive ≡ s.alive
  pub resting : to.walk ≡ None
  pub arrives : Arrives plan certificate to table

-- an instruction that is neither `halt` nor a call
abbrev pub IfPlain : Instruction → Type 0 → Type 0
IfPlain (Set r value) P = P
IfPlain (Mov r source) P = P
IfPlain (Add r addend) P = P
IfPlain (In r) P = P
IfPlain (Jmp target) P = P
IfPlain (Jeq r value target) P = P
IfPlain (Jlt r value target) P = P
IfPlain Halt P = Unit {0}
IfPlain (Invoke call otherwise) P = Unit {0}

module _ (plan : Plan) (certificate : Certificate) (s : ProcessState) (table : ℕ → Option Seen) (i : Instruction) (known : Stands plan certificate s table i) where
  abbrev outs : List Outcome
  outs = successes plan.grants certificate (program_name plan s.program) s.point known.bound i

  -- a register is set to a value of an interval
  sets : (r v : ℕ) (n : Interval) → outs ≡ outcome_to (s.point + 1) (with_interval known.bound r n) → interval_describes n v ≡ true → Arrives plan certificate (goes_on (with_register s r v)) table
  sets r v n is fits =
      let o : Outcome = record { point = s.point + 1; bound = with_interval known.bound r n } in
      arrives plan certificate (goes_on (with_register s r v)) table (with_interval known.bound r n)
      (known.asked.successes o (subst (Among o) (sym is) (inl refl)))
      (register_changed (grant_holds plan.grants) known.bound s.mode s.registers table r v n fits known.inside)

  -- a jump, and one to a point where the register is in a part of its interval
  jumps : (target : ℕ) → outs ≡ outcome_to target known.bound → Arrives plan certificate (moved_to s target) table
  jumps target is =
      let o : Outcome = record { point = target; bound = known.bound } in
      arrives plan certificate (moved_to s target) table known.bound (known.asked.successes o (subst (Among o) (sym is) (inl refl)))
      known.inside

  in_part :
      (point r : ℕ) (part : Option Interval) (has : HasPart part (register s r))
      → Among (record { point = point; bound = with_interval known.bound r has.interval }) (outcomes_in point known.bound r part)
  in_part point r part has =
      subst (λ p. Among (record { point = point; bound = with_interval known.bound r has.interval }) (outcomes_in point known.bound r p)) (sym has.is) (inl refl)

  comes_in :
      (point r : ℕ) (part : Option Interval) (has : HasPart part (register s r))
      → Among (record { point = point; bound = with_interval known.bound r has.interval }) outs → Arrives plan certificate (moved_to s point) table
  comes_in point r part has there =
      let o : Outcome = record { point = point; bound = with_interval known.bound r has.interval } in
      arrives plan certificate (moved_to s point) table (with_interval known.bound r has.interval) (known.asked.successes o there)
      (interval_changed (grant_holds plan.grants) known.bound s.mode s.registers table r has.interval has.fits known.inside)

  -- `jeq` and `jlt` to their target, and past it
  takes_jump :
      (r target : ℕ) (part : Option Interval) (rest : List Outcome) → outs ≡ outcomes_in target known.bound r part ++ rest → HasPart part (register s r)
      → Arrives plan certificate (moved_to s target) table
  takes_jump r target part rest is has =
      let o : Outcome = record { point = target; bound = with_interval known.bound r has.interval } in
      comes_in target r part has (subst (Among o) (sym is) (among_left o (outcomes_in target known.bound r part) rest (in_part target r part has)))

  passes_by :
      (r : ℕ) (part : Option Interval) (others : List Outcome) → outs ≡ others ++ outcomes_in (s.point + 1) known.bound r part → HasPart part (register s r)
      → Arrives plan certificate (goes_on s) table
  passes_by r part others is has =
      let o : Outcome = record { point = s.point + 1; bound = with_interval known.bound r has.interval } in
      comes_in (s.point + 1) r part has (subst (Among o) (sym is) (among_right o others (outcomes_in (s.point + 1) known.bound r part) (in_part (s.point + 1) r part has)))

moves :
    (plan : Plan) (certificate : Certificate) (w : World) (e : Event) (choice : Choice) (s : ProcessState) (table : ℕ → Option Seen) (i : Instruction)
    (t : ProcessState)
    → executed w e choice s i ≡ plain w e.process t → t.program ≡ s.program → t.marked ≡ s.marked → t.mode ≡ s.mode → t.alive ≡ s.alive → t.walk ≡ None → Arrives plan certificate t table
    → Moves plan certificate w e choice s table i
moves plan certificate w e choice s table i t is program marked mode alive resting there =
    record { to = t; is = is; program = program; marked = marked; mode = mode; alive = alive; resting = resting; arrives = there }

pub plain_moves :
    (plan : Plan) (certificate : Certificate) (w : World) (e : Event) (choice : Choice) (s : ProcessState) (table : ℕ → Option Seen) (i : Instruction)
    → IsEvent e → Stands plan certificate s table i → IfPlain i (Moves plan certificate w e choice s table i)
unfolding executed jumped successes
plain_moves plan certificate w e choice s table (Set r v) byte known =
    moves plan certificate w e choice s table (Set r v) (goes_on (with_register s r v)) refl refl refl refl refl refl
    (sets plan certificate s table (Set r v) known r v (only v) refl (only_fits v))
plain_moves plan certificate w e choice s table (Mov r source) byte known =
    moves plan certificate w e choice s table (Mov r source) (goes_on (with_register s r (register s source))) refl refl refl refl refl refl
    (sets plan certificate s table (Mov r source) known r (register s source) (interval known.bound.registers source) refl
    (register_inside plan certificate s table (Mov r source) known source))
plain_moves plan certificate w e choice s table (Add r addend) byte known =
    let i : Instruction = Add r addend in
    let sum : ℕ = (register s r + register s addend) % 2 ^ 32 in
    let mine = interval known.bound.registers r in
    let other = interval known.bound.registers addend in
    moves plan certificate w e choice s table i (goes_on (with_register s r sum)) refl refl refl refl refl refl
    (sets plan certificate s table i known r sum (sums mine other) refl
    (sum_fits mine other (register s r) (register s addend) (register_inside plan certificate s table i known r) (register_inside plan certificate s table i known addend)))
plain_moves plan certificate w e choice s table (In r) byte known =
    moves plan certificate w e choice s table (In r) (goes_on (with_register s r e.input)) refl refl refl refl refl refl
    (sets plan certificate s table (In r) known r e.input (from_to 0 255) refl (inside_of (from_to 0 255) e.input (omega arith) (omega (arith, byte))))
plain_moves plan certificate w e choice s table (Jmp target) byte known =
    moves plan certificate w e choice s table (Jmp target) (moved_to s target) refl refl refl refl refl refl
    (jumps plan certificate s table (Jmp target) known target refl)
plain_moves plan certificate w e choice s table (Jeq r v target) byte known = jump (register s r == v) refl
  where
    i : Instruction
    i = Jeq r v target

    n : Interval
    n = interval known.bound.registers r

    inside : interval_describes n (register s r) ≡ true
    inside = register_inside plan certificate s table i known r

    jump : (taken : Bool) → (register s r == v) ≡ taken → Moves plan certificate w e choice s table i
    jump true is =
        moves plan certificate w e choice s table i (moved_to s target) (ap (λ c. plain w e.process (jumped s c target)) is) refl refl refl refl refl
        (takes_jump plan certificate s table i known r target (equal_part n v) (outcomes_in (s.point + 1) known.bound r (other_part n v)) refl
        (has_equal n v (register s r) inside (eqb-true _ _ is)))
    jump false is =
        moves plan certificate w e choice s table i (goes_on s) (ap (λ c. plain w e.process (jumped s c target)) is) refl refl refl refl refl
        (passes_by plan certificate s table i known r (other_part n v) (outcomes_in target known.bound r (equal_part n v)) refl
        (has_other n v (register s r) inside (λ same. absurd (let clash : true ≡ false = sym (eq-eqb _ _ same) ∙ is in cc))))
plain_moves plan certificate w e choice s table (Jlt r v target) byte known = jump (nat_lt (register s r) v) refl
  where
    i : Instruction
    i = Jlt r v target

    n : Interval
    n = interval known.bound.registers r

    inside : interval_describes n (register s r) ≡ true
    inside = register_inside plan certificate s table i known r

    jump : (taken : Bool) → nat_lt (register s r) v ≡ taken → Moves plan certificate w e choice s table i
    jump true is =
        moves plan certificate w e choice s table i (moved_to s target) (ap (λ c. plain w e.process (jumped s c target)) is) refl refl refl refl refl
        (takes_jump plan certificate s table i known r target (lower_part n v) (outcomes_in (s.point + 1) known.bound r (upper_part n v)) refl
        (has_lower n v (register s r) inside (ltb-true _ _ is)))
    jump false is =
        moves plan certificate w e choice s table i (goes_on s) (ap (λ c. plain w e.process (jumped s c target)) is) refl refl refl refl refl
        (passes_by plan certificate s table i known r (upper_part n v) (outcomes_in target known.bound r (lower_part n v)) refl
        (has_upper n v (register s r) inside (ltb-false _ _ is)))
plain_moves plan certificate w e choice s table Halt byte known = tt
plain_moves plan certificate w e choice s table (Invoke call otherwise) byte known = tt
