-- A process that stands at a point with an instruction and a bound that describes it, where nothing is found; and the slots
-- that its operands name.
use Rattle.std.proofs.Common.{◌≡◌, ℕ, zero, suc, ◌+◌, ◌≤◌, Bool, true, false, List, [], ◌∷◌, ◌++◌, inl, refl, arith, sym, ◌∙◌, subst}
use Rattle.std.specs.Prelude.{Option, Some, None, cond}
use Rattle.process.specs.State.{ProcessState}
use Rattle.instruction_set.specs.Programs.{Operand, Register, Number, Instruction}
use Rattle.kernel.specs.Answers.{value_of}
use Rattle.task.specs.Plans.{Plan, program_name}
use Rattle.task.specs.Policies.{grant_holds}
use Rattle.certificate.specs.Bounds.{Interval, Held, Slot, Closed, Open, Maybe, slot, held_in, Bound, Certificate, bound_at}
use Rattle.certificate.specs.Describes.{Seen, Holds, held_describes, slot_describes, interval_describes, describes}
use Rattle.certificate.proofs.Smaller.{Between, between}
use Rattle.rules.specs.Points.{instruction_at}
use Rattle.rules.specs.Slots.{operand_interval, holds_number, open_slot, slots_from, slots_in}
use Rattle.rules.specs.Outcomes.{is_followed}
use Rattle.rules.specs.Verdicts.{found_at}
use Rattle.rules.proofs.bounds.Describing.{Described, described, register_at, slot_at}
use Rattle.rules.proofs.bounds.IntervalLaws.{only_fits}
use Rattle.rules.proofs.Members.{Among, among_left, among_right}
use Rattle.rules.proofs.points.Asked.{Asked, asked}

-- The table is the process's, as bounds see it.
pub record Stands (plan : Plan) (certificate : Certificate) (s : ProcessState) (table : ℕ → Option Seen) (i : Instruction) : Type 0 where
  pub bound : Bound
  pub at : bound_at certificate (program_name plan s.program) s.point ≡ Some bound
  pub inside : Described (grant_holds plan.grants) bound s.mode s.registers table
  pub few : (m : ℕ) → 16 ≤ m → table m ≡ None
  pub asked : Asked plan certificate s.program s.point i bound

pub stands :
    (plan : Plan) (certificate : Certificate) (s : ProcessState) (table : ℕ → Option Seen) (i : Instruction) (b : Bound)
    → instruction_at plan s.program s.point ≡ Some i → bound_at certificate (program_name plan s.program) s.point ≡ Some b
    → describes (grant_holds plan.grants) b s.mode s.registers table ≡ true → ((m : ℕ) → 16 ≤ m → table m ≡ None)
    → is_followed plan (program_name plan s.program) i ≡ true → found_at plan certificate s.program s.point ≡ None → Stands plan certificate s table i
stands plan certificate s table i b here at is few followed none = record {
  bound = b;
  at = at;
  inside = described (grant_holds plan.grants) b s.mode s.registers table is;
  few = few;
  asked = asked plan certificate s.program s.point i b here at followed none;
}

-- ## The slot of a descriptor that is there
pub record Slotted (holds : Holds) (x : Slot) (d : Seen) : Type 0 where
  pub held : Held
  pub is_held : held_in x ≡ Some held
  pub describes : held_describes holds held d ≡ true

pub slotted : (holds : Holds) (x : Slot) (d : Seen) → slot_describes holds x (Some d) ≡ true → Slotted holds x d
slotted holds Closed d is = absurd cc
slotted holds (Open h) d is = record { held = h; is_held = refl; describes = is }
slotted holds (Maybe h) d is = record { held = h; is_held = refl; describes = is }

opened : (n : ℕ) (h : Held) (o : Option Held) → o ≡ Some h → Among (record { number = n; held = h }) (open_slot n o)
opened n h o is = subst (λ x. Among (record { number = n; held = h }) (open_slot n x)) (sym is) (inl refl)

-- a slot that may be open, of a number in the interval
among_slots :
    (n : ℕ) (i : Interval) (slots : List Slot) (k : ℕ) (h : Held) → holds_number i (n + k) ≡ true → held_in (slot slots k) ≡ Some h
    → Among (record { number = n + k; held = h }) (slots_from n i slots)
among_slots n i [] k h fits is = absurd cc
among_slots n i (x ∷ slots) zero h fits is =
    subst (λ m. holds_number i m ≡ true → Among (record { number = m; held = h }) (slots_from n i (x ∷ slots))) number (go (holds_number i n) refl) fits
  where
    number : n ≡ n + 0
    number = omega arith

    go : (c : Bool) → holds_number i n ≡ c → holds_number i n ≡ true → Among (record { number = n; held = h }) (cond c (open_slot n (held_in x)) [] ++ slots_from (n + 1) i slots)
    go true in_it fit =
        among_left (record { number = n; held = h }) (open_slot n (held_in x)) (slots_from (n + 1) i slots) (opened n h (held_in x) is)
    go false out fit = absurd (let wrong : true ≡ false = sym fit ∙ out in cc)
among_slots n i (x ∷ slots) (suc k) h fits is =
    let later : n + 1 + k ≡ n + suc k = omega arith in
    among_right (record { number = n + suc k; held = h }) (cond (holds_number i n) (open_slot n (held_in x)) []) (slots_from (n + 1) i slots)
    (subst (λ m. Among (record { number = m; held = h }) (slots_from (n + 1) i slots)) later
    (among_slots (n + 1) i slots k h (subst (λ m. holds_number i m ≡ true) (sym later) fits) is))

-- The slot of the number that an operand is, where a descriptor is there.
pub record Gone (holds : Holds) (b : Bound) (x : Operand) (n : ℕ) (d : Seen) : Type 0 where
  pub held : Held
  pub is_held : held_in (slot b.slots n) ≡ Some held
  pub among : Among (record { number = n; held = held }) (slots_in b x)
  pub facts : Between holds held d

module _ (plan : Plan) (certificate : Certificate) (s : ProcessState) (table : ℕ → Option Seen) (i : Instruction) (known : Stands plan certificate s table i) where
  -- what a register holds lies in its interval, and what an operand is
  pub register_inside : (r : ℕ) → interval_describes (operand_interval known.bound (Register r)) (value_of s (Register r)) ≡ true
  register_inside r = register_at known.bound.registers s.registers known.inside.registers r

  pub operand_inside : (x : Operand) → holds_number (operand_interval known.bound x) (value_of s x) ≡ true
  operand_inside (Register r) = register_inside r
  operand_inside (Number n) = only_fits n

  -- a number of the table is as its slot says
  pub number_inside : (n : ℕ) → slot_describes (grant_holds plan.grants) (slot known.bound.slots n) (table n) ≡ true
  number_inside n =
      let P : ℕ → Type 0 = λ k. slot_describes (grant_holds plan.grants) (slot known.bound.slots n) (table k) ≡ true in
      let same : 0 + n ≡ n = omega arith in
      subst P same (slot_at (grant_holds plan.grants) 0 known.bound.slots table known.inside.slots known.few n)

  pub gone : (x : Operand) (d : Seen) → table (value_of s x) ≡ Some d → Gone (grant_holds plan.grants) known.bound x (value_of s x) d
  unfolding slots_in
  gone x d here =
      let holds = grant_holds plan.grants in
      let n = value_of s x in
      let found : Slotted holds (slot known.bound.slots n) d =
      slotted holds (slot known.bound.slots n) d
      (subst (λ o. slot_describes holds (slot known.bound.slots n) o ≡ true) here (number_inside n)) in
      let same : 0 + n ≡ n = omega arith in
      record {
        held = found.held;
        is_held = found.is_held;
        among =
            subst (λ m. Among (record { number = m; held = found.held }) (slots_in known.bound x)) same
            (among_slots 0 (operand_interval known.bound x) known.bound.slots n found.held
            (subst (λ m. holds_number (operand_interval known.bound x) m ≡ true) (sym same) (operand_inside x)) found.is_held);
        facts = between holds found.held d found.describes;
      }
