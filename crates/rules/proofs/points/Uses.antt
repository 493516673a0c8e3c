-- What a call needs of a descriptor that it goes through, it has.
use Rattle.std.proofs.Common.{◌≡◌, false, ℕ, Bool, true, List, refl, sym, subst}
use Rattle.std.specs.Prelude.{Option, Some, None}
use Rattle.rights.specs.Sets.{is_within}
use Rattle.rights.specs.Needs.{Second, needs_of}
use Rattle.rights.specs.Operations.{Operation}
use Rattle.rights.proofs.Subsets.{is_within-trans}
use Rattle.process.specs.State.{ProcessState}
use Rattle.instruction_set.specs.Programs.{Operand, Syscall, Renameat, Invoke, called}
use Rattle.kernel.specs.Answers.{value_of}
use Rattle.rights.specs.Opens.{no_request}
use Rattle.task.specs.Plans.{Plan}
use Rattle.task.specs.Policies.{grant_holds}
use Rattle.certificate.specs.Bounds.{Bound, Certificate}
use Rattle.certificate.specs.Describes.{Seen}
use Rattle.rules.specs.Slots.{OpenSlot, slots_in}
use Rattle.rules.specs.Needs.{Need, no_need, moving_to, needs}
use Rattle.rules.specs.Needs as needs
use Rattle.rules.specs.Uses.{Use, use_of, uses_through, uses}
use Rattle.rules.specs.Channels.{keeps_channel_bound, has_channel}
use Rattle.rules.specs.Rules.{is_known, target_lists, same_grant}
use Rattle.rules.proofs.Members.{Among, among_map, among_left, among_right}
use Rattle.rules.proofs.points.AskedCalls.{on_may_be, AskedOf, AskedCall, asked_call}
use Rattle.rules.proofs.points.Stands.{Stands, Gone, gone}

-- ## The use that a call makes of a slot of its first operand, and of its second
abbrev pub operand_in : Option needs.Through → Option Operand
operand_in None = None
operand_in (Some t) = Some t.operand

abbrev pub need_in : Option needs.Through → Need
need_in None = no_need
need_in (Some t) = t.need

abbrev pub first_operand : Syscall → Option Operand
first_operand call = operand_in (needs call).first

abbrev pub first_use : Bound → Syscall → OpenSlot → Use
first_use b call slot = use_of b (need_in (needs call).first) slot

among_through : (b : Bound) (o : Option needs.Through) (x : Operand) (slot : OpenSlot) → operand_in o ≡ Some x → Among slot (slots_in b x) → Among (use_of b (need_in o) slot) (uses_through b o)
among_through b None x slot is there = absurd cc
among_through b (Some t) x slot is there =
    let same : t.operand ≡ x = cc in
    among_map (use_of b t.need) slot (slots_in b t.operand) (subst (λ z. Among slot (slots_in b z)) (sym same) there)

among_uses : (b : Bound) (call : Syscall) (x : Operand) (slot : OpenSlot) → first_operand call ≡ Some x → Among slot (slots_in b x) → Among (first_use b call slot) (uses b call)
unfolding uses
among_uses b call x slot is there =
    among_left (first_use b call slot) (uses_through b (needs call).first) (uses_through b (needs call).second)
    (among_through b (needs call).first x slot is there)

-- the second of `renameat`
among_moves : (b : Bound) (x y : Operand) (from to : List ℕ) (slot : OpenSlot) → Among slot (slots_in b y) → Among (use_of b moving_to slot) (uses b (Renameat x from y to))
unfolding uses
among_moves b x y from to slot there =
    let call = Renameat x from y to in
    among_right (use_of b moving_to slot) (uses_through b (needs call).first) (uses_through b (needs call).second)
    (among_through b (needs call).second y slot refl there)

-- ## What follows for the descriptor
-- It has what the call needs, and what it is of is known where it has to be.
pub record Used (plan : Plan) (certificate : Certificate) (on : Bool) (u : Use) (d : Seen) : Type 0 where
  pub rights : is_within u.need.rights d.rights ≡ true
  pub commands : is_within u.need.commands d.fcntls ≡ true
  pub further : is_within u.need.further d.rights ≡ true
  pub kept_rights : is_within u.need.kept_rights d.rights ≡ true
  pub kept_commands : is_within u.need.kept_commands d.fcntls ≡ true
  pub known : on ≡ true → u.need.works ≡ true → is_known u.slot.held.target ≡ true
  pub listed : on ≡ true → (operation : Operation) → Among operation u.need.operations → target_lists plan.grants u.slot.held.target operation ≡ true
  pub names : u.need.changes_names ≡ true → is_known u.slot.held.target ≡ true
  pub moves : (t : OpenSlot) → Among t u.targets → same_grant u.slot.held.target t.held.target ≡ true
  pub channel_bound : keeps_channel_bound certificate u u.passing ≡ true
  pub channel : has_channel certificate u u.passing ≡ true

-- the slot that the operand names, and the use that is made of it
pub record Through (plan : Plan) (certificate : Certificate) (b : Bound) (on : Bool) (x : Operand) (n : ℕ) (use_of : OpenSlot → Use) (d : Seen) : Type 0 where
  pub slot : Gone (grant_holds plan.grants) b x n d
  pub has : Used plan certificate on (use_of (record { number = n; held = slot.held })) d

module _ (plan : Plan) (certificate : Certificate) (s : ProcessState) (table : ℕ → Option Seen)
    (call : Syscall) (otherwise : ℕ) (known : Stands plan certificate s table (Invoke call otherwise)) where
  -- what the rules say of the call
  pub said : AskedCall plan certificate s.program s.point known.bound call otherwise
  said = asked_call plan certificate s.program s.point known.bound call otherwise known.asked

  used :
      (x : Operand) (n : ℕ) (u : Use) (d : Seen) → Among u (uses known.bound call) → (here : Gone (grant_holds plan.grants) known.bound x n d)
      → u.slot.held ≡ here.held → Used plan certificate s.mode u d
  used x n u d among here same =
      let all : AskedOf plan.grants certificate known.bound u = said.each u among in
      let on_may = on_may_be known.bound.mode s.mode known.inside.mode in
      let least : is_within u.slot.held.least d.rights ≡ true = subst (λ h. is_within h.least d.rights ≡ true) (sym same) here.facts.least in
      let least_fcntls : is_within u.slot.held.least_fcntls d.fcntls ≡ true = subst (λ h. is_within h.least_fcntls d.fcntls ≡ true) (sym same) here.facts.least_fcntls in
      record {
        rights = is_within-trans u.need.rights u.slot.held.least d.rights all.rights least;
        commands = is_within-trans u.need.commands u.slot.held.least_fcntls d.fcntls all.commands least_fcntls;
        further = is_within-trans u.need.further u.slot.held.least d.rights all.further least;
        kept_rights = is_within-trans u.need.kept_rights u.slot.held.least d.rights all.kept_rights least;
        kept_commands = is_within-trans u.need.kept_commands u.slot.held.least_fcntls d.fcntls all.kept_commands least_fcntls;
        known = λ on. all.known (on_may on);
        listed = λ on. all.listed (on_may on);
        names = all.names;
        moves = all.moves;
        channel_bound = all.channel_bound;
        channel = all.channel;
      }

  -- through the first descriptor of a call
  pub through : (x : Operand) (d : Seen) → first_operand call ≡ Some x → table (value_of s x) ≡ Some d → Through plan certificate known.bound s.mode x (value_of s x) (first_use known.bound call) d
  through x d first here =
      let n = value_of s x in
      let found : Gone (grant_holds plan.grants) known.bound x n d = gone plan certificate s table (Invoke call otherwise) known x d here in
      let slot : OpenSlot = record { number = n; held = found.held } in
      record {
        slot = found;
        has =
            used x n (first_use known.bound call slot) d (among_uses known.bound call x slot first found.among) found
            refl;
      }

-- and the second of `renameat`
pub through_second :
    (plan : Plan) (certificate : Certificate) (s : ProcessState) (table : ℕ → Option Seen) (x y : Operand) (from to : List ℕ) (otherwise : ℕ)
    (known : Stands plan certificate s table (Invoke (Renameat x from y to) otherwise)) (d : Seen)
    → table (value_of s y) ≡ Some d → Through plan certificate known.bound s.mode y (value_of s y) (use_of known.bound moving_to) d
through_second plan certificate s table x y from to otherwise known d here =
    let call = Renameat x from y to in
    let n = value_of s y in
    let found : Gone (grant_holds plan.grants) known.bound y n d = gone plan certificate s table (Invoke call otherwise) known y d here in
    let slot : OpenSlot = record { number = n; held = found.held } in
    record {
      slot = found;
      has =
          used plan certificate s table call otherwise known y n (use_of known.bound moving_to slot) d
          (among_moves known.bound x y from to slot found.among) found refl;
    }

-- which has the rights that it needs where no node is replaced, too
pub second_rights :
    (plan : Plan) (certificate : Certificate) (s : ProcessState) (table : ℕ → Option Seen) (x y : Operand) (from to : List ℕ) (otherwise : ℕ)
    (known : Stands plan certificate s table (Invoke (Renameat x from y to) otherwise)) (d : Seen)
    → table (value_of s y) ≡ Some d → is_within (needs_of (called (Renameat x from y to)) no_request Second false) d.rights ≡ true
second_rights plan certificate s table x y from to otherwise known d here =
    let call = called (Renameat x from y to) in
    is_within-trans (needs_of call no_request Second false) (needs_of call no_request Second true) d.rights refl
    (through_second plan certificate s table x y from to otherwise known d here).has.rights
