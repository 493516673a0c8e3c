-- What follows where it is known what a slot is of.
use Rattle.std.proofs.Common.{◌≡◌, ℕ, Bool, true, false, List, [], ◌∷◌, refl, sym, subst}
use Rattle.std.specs.Prelude.{◌||◌, ◌==◌, Option, Some, None, cond, is_some}
use Rattle.std.specs.Str.{bytes_eq}
use Rattle.std.specs.Cmp.Derive.{both_true}
use Rattle.std.proofs.lemmas.Bool.{eqb-true}
use Rattle.rights.specs.Classes.{Class}
use Rattle.rights.specs.Operations.{Operation}
use Rattle.rights.proofs.Tests.{both_left, both_right}
use Rattle.rights.proofs.Words.{same_bytes}
use Rattle.task.specs.Plans.{Grant, Plan}
use Rattle.task.specs.Policies.{allows, is_allowed, grant_named, holds_in, grant_holds, lists_in, grant_lists}
use Rattle.task.specs.Sandboxed.{Allowed}
use Rattle.task.proofs.Allowances.{allowed_is_tested}
use Rattle.certificate.specs.Bounds.{Target, In_grant, Any_node, Socket, Unknown, Held, Open, Certificate}
use Rattle.certificate.specs.Order.{same_class, held_within}
use Rattle.certificate.specs.OrderLaws.{class_is}
use Rattle.certificate.specs.Describes.{Node_at, End_of, Own_end, Seen, Holds, target_describes, held_describes}
use Rattle.certificate.proofs.Smaller.{from_between, slot_smaller}
use Rattle.rules.specs.Slots.{OpenSlot, slots_in}
use Rattle.rules.specs.Needs.{moving_to}
use Rattle.rules.specs.Uses.{Use, use_of}
use Rattle.rules.specs.Channels.{channel_at, lets_through, sends_into, sends_known}
use Rattle.rules.specs.Rules.{is_known, target_lists, same_grant}
use Rattle.rules.proofs.Members.{Among, each_of}
use Rattle.rules.proofs.points.Stands.{Stands, Gone, gone}
use Rattle.rules.proofs.points.Uses.{Used, Through, first_use, through, through_second}
use Rattle.process.specs.State.{ProcessState}
use Rattle.instruction_set.specs.Programs.{Operand, Sendfd, Renameat, Invoke}
use Rattle.kernel.specs.Answers.{value_of}

-- ## Nodes
-- a node's slot that is known is of a grant that holds the node's place
pub record InGrant (grants : List Grant) (t : Target) (place : List (List ℕ)) : Type 0 where
  pub name : List ℕ
  pub is : t ≡ In_grant name
  pub holds : grant_holds grants name place ≡ true

pub known_node : (grants : List Grant) (t : Target) (place : List (List ℕ)) → target_describes (grant_holds grants) t (Node_at place) ≡ true → is_known t ≡ true → InGrant grants t place
known_node grants (In_grant name) place is known = record { name = name; is = refl; holds = is }
known_node grants Any_node place is known = absurd cc
known_node grants (Socket class side) place is known = absurd cc
known_node grants Unknown place is known = absurd cc

-- a grant that holds the place and lists the operation allows it
pub allowed_by :
    (grants : List Grant) (name : List ℕ) (operation : Operation) (place : List (List ℕ)) → grant_holds grants name place ≡ true
    → grant_lists grants name operation ≡ true → is_allowed grants operation place ≡ true
unfolding grant_named
allowed_by [] name operation place holds listed = absurd cc
allowed_by (g ∷ grants) name operation place holds listed = go (bytes_eq g.name name) holds listed (allowed_by grants name operation place)
  where
    either : (a b : Bool) → b ≡ true → (a || b) ≡ true
    either true b h = refl
    either false b h = h

    first : (a b : Bool) → a ≡ true → (a || b) ≡ true
    first true b h = refl
    first false b h = absurd cc

    go :
        (c : Bool) → holds_in (cond c (Some g) (grant_named grants name)) place ≡ true → lists_in (cond c (Some g) (grant_named grants name)) operation ≡ true
        → (grant_holds grants name place ≡ true → grant_lists grants name operation ≡ true → is_allowed grants operation place ≡ true)
        → is_allowed (g ∷ grants) operation place ≡ true
    go true in_first lists_first rest = first (allows g operation place) (is_allowed grants operation place) (both_true in_first lists_first)
    go false in_rest lists_rest rest = either (allows g operation place) (is_allowed grants operation place) (rest in_rest lists_rest)

-- What a call that works on a node's slot does in the mode, at a place that is in each grant that holds the node's, is
-- allowed.
pub allowed_where :
    (plan : Plan) (certificate : Certificate) (on : Bool) (u : Use) (d : Seen) → Used plan certificate on u d → on ≡ true → u.need.works ≡ true
    → (operation : Operation) → Among operation u.need.operations → (from place : List (List ℕ))
    → target_describes (grant_holds plan.grants) u.slot.held.target (Node_at from) ≡ true
    → ((name : List ℕ) → grant_holds plan.grants name from ≡ true → grant_holds plan.grants name place ≡ true) → Allowed plan.grants operation place
allowed_where plan certificate on u d has is_on works operation one from place is beneath =
    let found : InGrant plan.grants u.slot.held.target from = known_node plan.grants u.slot.held.target from is (has.known is_on works) in
    let listed : grant_lists plan.grants found.name operation ≡ true = subst (λ t. target_lists plan.grants t operation ≡ true) found.is (has.listed is_on operation one) in
    (allowed_is_tested plan.grants operation place).0 (allowed_by plan.grants found.name operation place (beneath found.name found.holds) listed)

-- at the node itself
pub allowed_here :
    (plan : Plan) (certificate : Certificate) (on : Bool) (u : Use) (d : Seen) → Used plan certificate on u d → on ≡ true → u.need.works ≡ true
    → (operation : Operation) → Among operation u.need.operations → (place : List (List ℕ))
    → target_describes (grant_holds plan.grants) u.slot.held.target (Node_at place) ≡ true → Allowed plan.grants operation place
allowed_here plan certificate on u d has is_on works operation one place is =
    allowed_where plan certificate on u d has is_on works operation one place place is (λ name holds. holds)

-- a move from a grant into a grant stays in it
pub moves_in : (source target : List ℕ) → same_grant (In_grant source) (In_grant target) ≡ true → source ≡ target
moves_in source target same = same_bytes source target same

-- ## Ends
-- the slot of an end is of its class and side, or of unknown kind
pub ends_known : (holds : Holds) (t : Target) (class : Class) (side : ℕ) → target_describes holds t (End_of class side) ≡ true → is_known t ≡ true → t ≡ Socket class side
ends_known holds (In_grant name) class side is known = absurd cc
ends_known holds Any_node class side is known = absurd cc
ends_known holds (Socket c s) class side is known =
    let classes : class ≡ c = class_is class c (both_left _ (side == s) is) in
    let sides : side ≡ s = eqb-true side s (both_right (same_class class c) _ is) in
    cc
ends_known holds Unknown class side is known = absurd cc

-- the end that something is sent into has a line
sends_at :
    (certificate : Certificate) (holds : Holds) (t : Target) (class : Class) (side : ℕ) → target_describes holds t (End_of class side) ≡ true
    → sends_known certificate t ≡ true → t ≡ Socket class side
sends_at certificate holds (In_grant name) class side is known = absurd cc
sends_at certificate holds Any_node class side is known = absurd cc
sends_at certificate holds (Socket c s) class side is known = ends_known holds (Socket c s) class side is refl
sends_at certificate holds Unknown class side is known = absurd cc

-- A line of descriptors that describes this one.
pub record Line (holds : Holds) (line : Option (Option Held)) (d : Seen) : Type 0 where
  pub held : Held
  pub is : line ≡ Some (Some held)
  pub describes : held_describes holds held d ≡ true

line_of :
    (holds : Holds) (line : Option (Option Held)) (slots : List OpenSlot) (t : OpenSlot) (d : Seen) → lets_through line slots ≡ true → is_some line ≡ true
    → Among t slots → held_describes holds t.held d ≡ true → Line holds line d
line_of holds None slots t d lets there one is = absurd cc
line_of holds (Some None) slots t d lets there one is = absurd cc
line_of holds (Some (Some h)) slots t d lets there one is = record {
  held = h;
  is = refl;
  describes = slot_smaller holds (Open t.held) (Open h) (Some d) (each_of (λ (x : OpenSlot). held_within x.held h) slots lets t one) is;
}

-- What is sent into an end is described by the line of its class and side.
pub sent :
    (certificate : Certificate) (holds : Holds) (t : Target) (class : Class) (side : ℕ) (slots : List OpenSlot) (passed : OpenSlot) (d : Seen)
    → target_describes holds t (End_of class side) ≡ true → sends_into certificate t slots ≡ true → sends_known certificate t ≡ true → Among passed slots
    → held_describes holds passed.held d ≡ true → Line holds (channel_at certificate class side) d
sent certificate holds t class side slots passed d is bounded known one describes =
    let same : t ≡ Socket class side = sends_at certificate holds t class side is known in
    line_of holds (channel_at certificate class side) slots passed d
    (subst (λ x. sends_into certificate x slots ≡ true) same bounded) (subst (λ x. sends_known certificate x ≡ true) same known) one describes

-- what `sendfd` sends is
pub sends_line :
    (plan : Plan) (certificate : Certificate) (s : ProcessState) (table : ℕ → Option Seen) (x y v : Operand) (otherwise : ℕ)
    (known : Stands plan certificate s table (Invoke (Sendfd x y v) otherwise)) (d passed : Seen) (class : Class) (side : ℕ)
    → table (value_of s x) ≡ Some d → table (value_of s y) ≡ Some passed → d.subject ≡ End_of class side
    → Line (grant_holds plan.grants) (channel_at certificate class side) passed
sends_line plan certificate s table x y v otherwise known d passed class side here there end =
    let holds = grant_holds plan.grants in
    let call = Sendfd x y v in
    let b = known.bound in
    let way : Through plan certificate b s.mode x (value_of s x) (first_use b call) d = through plan certificate s table call otherwise known x d refl here in
    let k : Gone holds b y (value_of s y) passed = gone plan certificate s table (Invoke call otherwise) known y passed there in
    sent certificate holds way.slot.held.target class side (slots_in b y) (record { number = value_of s y; held = k.held }) passed
    (subst (λ z. target_describes holds way.slot.held.target z ≡ true) end way.slot.facts.target)
    way.has.channel_bound way.has.channel k.among (from_between holds k.held passed k.facts)

-- Nothing is sent into a pair that no certificate names.
own_unknown : (certificate : Certificate) (holds : Holds) (t : Target) (program : List ℕ) (side : ℕ) → target_describes holds t (Own_end program side) ≡ true → sends_known certificate t ≡ true → ⊥
own_unknown certificate holds (In_grant name) program side is known = absurd cc
own_unknown certificate holds Any_node program side is known = absurd cc
own_unknown certificate holds (Socket c s) program side is known = absurd cc
own_unknown certificate holds Unknown program side is known = absurd cc

pub never_sends_own :
    (plan : Plan) (certificate : Certificate) (s : ProcessState) (table : ℕ → Option Seen) (x y v : Operand) (otherwise : ℕ)
    (known : Stands plan certificate s table (Invoke (Sendfd x y v) otherwise)) (d : Seen) (program : List ℕ) (side : ℕ)
    → table (value_of s x) ≡ Some d → d.subject ≡ Own_end program side → ⊥
never_sends_own plan certificate s table x y v otherwise known d program side here end =
    let holds = grant_holds plan.grants in
    let call = Sendfd x y v in
    let way : Through plan certificate known.bound s.mode x (value_of s x) (first_use known.bound call) d = through plan certificate s table call otherwise known x d refl here in
    own_unknown certificate holds way.slot.held.target program side (subst (λ z. target_describes holds way.slot.held.target z ≡ true) end way.slot.facts.target) way.has.channel

-- ## Moves
-- Where both slots of `renameat` are known, they are of one grant.
pub record OneGrant (grants : List Grant) (from place : List (List ℕ)) : Type 0 where
  pub name : List ℕ
  pub holds_source : grant_holds grants name from ≡ true
  pub holds_target : grant_holds grants name place ≡ true

one_grant : (grants : List Grant) (t u : Target) (from place : List (List ℕ)) → InGrant grants t from → InGrant grants u place → same_grant t u ≡ true → OneGrant grants from place
one_grant grants t u from place source target same =
    let both : same_grant (In_grant source.name) (In_grant target.name) ≡ true =
    subst (λ z. same_grant z (In_grant target.name) ≡ true) source.is
    (subst (λ z. same_grant t z ≡ true) target.is same) in
    record {
      name = source.name;
      holds_source = source.holds;
      holds_target = subst (λ z. grant_holds grants z place ≡ true) (sym (moves_in source.name target.name both)) target.holds;
    }

pub renames_in :
    (plan : Plan) (certificate : Certificate) (s : ProcessState) (table : ℕ → Option Seen) (x y : Operand) (source to : List ℕ) (otherwise : ℕ)
    (known : Stands plan certificate s table (Invoke (Renameat x source y to) otherwise)) (d e : Seen) (from place : List (List ℕ))
    → table (value_of s x) ≡ Some d → d.subject ≡ Node_at from → table (value_of s y) ≡ Some e → e.subject ≡ Node_at place → OneGrant plan.grants from place
renames_in plan certificate s table x y source to otherwise known d e from place here node there target =
    let holds = grant_holds plan.grants in
    let call = Renameat x source y to in
    let b = known.bound in
    let way : Through plan certificate b s.mode x (value_of s x) (first_use b call) d = through plan certificate s table call otherwise known x d refl here in
    let other : Through plan certificate b s.mode y (value_of s y) (use_of b moving_to) e = through_second plan certificate s table x y source to otherwise known e there in
    one_grant plan.grants way.slot.held.target other.slot.held.target from place
    (known_node plan.grants way.slot.held.target from (subst (λ z. target_describes holds way.slot.held.target z ≡ true) node way.slot.facts.target) (way.has.names refl))
    (known_node plan.grants other.slot.held.target place (subst (λ z. target_describes holds other.slot.held.target z ≡ true) target other.slot.facts.target) (other.has.names refl))
    (way.has.moves (record { number = value_of s y; held = other.slot.held }) other.slot.among)
