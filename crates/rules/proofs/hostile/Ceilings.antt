-- What a program's authority allows.
use Rattle.std.proofs.Common.{◌≡◌, ℕ, Bool, cond, true, false, List, [], ◌∷◌, inl, inr, refl, ap, sym, ◌∙◌, subst}
use Rattle.std.specs.Prelude.{◌==◌, ◌&&◌, ◌||◌, not, Option, Some, None}
use Rattle.std.specs.List.{list_all, slice_get}
use Rattle.std.specs.Str.{bytes_eq}
use Rattle.std.specs.Cmp.Derive.{both_true}
use Rattle.std.proofs.lemmas.Bool.{eqb-true}
use Rattle.rights.specs.Classes.{Class}
use Rattle.rights.specs.Operations.{operations_of_rights, Operation}
use Rattle.rights.specs.Sets.{all_rights, all_commands, is_within, renameat_source_right, renameat_target_right}
use Rattle.rights.proofs.Lists.{list_all-slice_get}
use Rattle.rights.proofs.Subsets.{is_within-trans}
use Rattle.rights.proofs.Tests.{both_left, both_right, not_true}
use Rattle.rights.proofs.Words.{same_bytes}
use Rattle.rights.specs.Sides.{other_side}
use Rattle.certificate.specs.Bounds.{Authority, Ceiling, Certificate, End, Held, In_grant, Any_node, Open, Socket, Target, Unknown}
use Rattle.certificate.specs.Describes.{End_of, Node_at, Own_end, Seen, Subject, held_describes, target_describes}
use Rattle.certificate.specs.Order.{same_class}
use Rattle.certificate.specs.OrderLaws.{class_is}
use Rattle.certificate.proofs.Smaller.{between, slot_smaller}
use Rattle.task.specs.Plans.{Plan, program_name}
use Rattle.task.specs.Policies.{grant_holds, grant_lists}
use Rattle.task.specs.Sandboxed.{Allowed}
use Rattle.task.proofs.Allowances.{allowed_is_tested}
use Rattle.rules.proofs.hostile.Unsaid.{asked_said, has_said, is_said}
use Rattle.rights.specs.Uses.{asked_rights}
use Rattle.rules.specs.Authority.{ceiling_in, most_in, is_widest, keeps_ceiling, lists_end, may_come, may_hold, may_hold_all, stays_in}
use Rattle.rules.specs.Channels.{channel_at}
use Rattle.rules.specs.Outcomes.{unknown_held}
use Rattle.rules.proofs.Members.{Among, each_of}
use Rattle.rules.proofs.outcomes.Outcomes.{unknown_described}
use Rattle.rules.proofs.points.AskedCalls.{if_passes}
use Rattle.rules.proofs.points.Known.{OneGrant, allowed_by}
use Rattle.rules.proofs.points.Marked.{AuthorityAsked, Passing, any_found}
use Rattle.rules.proofs.worlds.Invariant.{line_describes}
use Rattle.rules.specs.Within.{IsBelowCeiling, MayHave, own_authority}

-- ## Ceilings
-- the ceiling that has a right which the grant's has
pub record CeilingOf (ceilings : List Ceiling) (name : List ℕ) (right : ℕ) : Type 0 where
  pub ceiling : Ceiling
  pub among : Among ceiling ceilings
  pub of : ceiling.grant ≡ name
  pub has : is_within right ceiling.rights ≡ true

pub ceiling_of : (ceilings : List Ceiling) (name : List ℕ) (right : ℕ) → is_within right 0 ≡ false → is_within right (ceiling_in ceilings name) ≡ true → CeilingOf ceilings name right
unfolding ceiling_in
ceiling_of [] name right some has = absurd (let clash : true ≡ false = sym has ∙ some in cc)
ceiling_of (c ∷ ceilings) name right some has = go (bytes_eq c.grant name) refl has (ceiling_of ceilings name right some)
  where
    go : (b : Bool) → bytes_eq c.grant name ≡ b → is_within right (cond b c.rights (ceiling_in ceilings name)) ≡ true
        → (is_within right (ceiling_in ceilings name) ≡ true → CeilingOf ceilings name right) → CeilingOf (c ∷ ceilings) name right
    go true same has later = record { ceiling = c; among = inl refl; of = same_bytes c.grant name same; has = has }
    go false other has later =
        let found : CeilingOf ceilings name right = later has in
        record { ceiling = found.ceiling; among = inr found.among; of = found.of; has = found.has }

or_first : (a b : Bool) → (a || b) ≡ true → b ≡ false → a ≡ true
or_first true b is other = refl
or_first false b is other = absurd (let clash : true ≡ false = sym is ∙ other in cc)

module _ (plan : Plan) (certificate : Certificate) (program : ℕ) (asked : AuthorityAsked plan certificate program) where
  abbrev pub a : Authority
  a = own_authority plan certificate program

  abbrev pub own : List ℕ
  own = program_name plan program

  -- What a right lets do at a place in each grant that holds the descriptor's is allowed.
  pub may_do : (right : ℕ) (operation : Operation) → Among (right, operation) operations_of_rights → (not (is_within right 0) && is_said plan.wide right) ≡ true
      → (from place : List (List ℕ)) (rights : ℕ)
      → IsBelowCeiling plan.wide plan.grants a from rights → is_within right rights ≡ true
      → ((name : List ℕ) → grant_holds plan.grants name from ≡ true → grant_holds plan.grants name place ≡ true) → Allowed plan.grants operation place
  may_do right operation one is from place rights below has beneath =
      let some : is_within right 0 ≡ false = not_true (is_within right 0) (both_left (not (is_within right 0)) (is_said plan.wide right) is) in
      let said : is_said plan.wide right ≡ true = both_right (not (is_within right 0)) (is_said plan.wide right) is in
      let found = ceiling_of a.ceilings below.name right some
      (has_said plan.wide right (ceiling_in a.ceilings below.name) said (is_within-trans right rights (most_in plan.wide a below.name) has below.below)) in
      let c : Ceiling = found.ceiling in
      let kept = each_of (keeps_ceiling plan.wide plan.grants) a.ceilings asked.ceilings c found.among in
      let test : ℕ × Operation → Bool = λ (o : ℕ × Operation). not (is_within o.0 (asked_rights plan.wide c.rights)) || grant_lists plan.grants c.grant o.1 in
      let listed : grant_lists plan.grants c.grant operation ≡ true =
      if_passes (is_within right (asked_rights plan.wide c.rights)) _ (each_of test operations_of_rights kept (right, operation) one)
      (asked_said plan.wide right c.rights said found.has) in
      (allowed_is_tested plan.grants operation place).0
      (allowed_by plan.grants below.name operation place (beneath below.name below.holds) (subst (λ n. grant_lists plan.grants n operation ≡ true) found.of listed))

  -- What a node can be moved from, and into, is one grant.
  pub moves_in_one : (from place : List (List ℕ)) (rights others : ℕ) → IsBelowCeiling plan.wide plan.grants a from rights → is_within renameat_source_right rights ≡ true
      → IsBelowCeiling plan.wide plan.grants a place others → is_within renameat_target_right others ≡ true → OneGrant plan.grants from place
  moves_in_one from place rights others source may target also =
      let one = ceiling_of a.ceilings source.name renameat_source_right refl
      (has_said plan.wide renameat_source_right (ceiling_in a.ceilings source.name) refl
      (is_within-trans renameat_source_right rights (most_in plan.wide a source.name) may source.below)) in
      let two = ceiling_of a.ceilings target.name renameat_target_right refl
      (has_said plan.wide renameat_target_right (ceiling_in a.ceilings target.name) refl
      (is_within-trans renameat_target_right others (most_in plan.wide a target.name) also target.below)) in
      let rest = each_of (λ (c : Ceiling). list_all (stays_in c) a.ceilings) a.ceilings asked.moves one.ceiling one.among in
      let stays = each_of (stays_in one.ceiling) a.ceilings rest two.ceiling two.among in
      let both : (is_within renameat_source_right one.ceiling.rights && is_within renameat_target_right two.ceiling.rights) ≡ true = both_true one.has two.has in
      let same : one.ceiling.grant ≡ two.ceiling.grant = same_bytes one.ceiling.grant two.ceiling.grant (or_first _ _ stays (ap not both)) in
      let names : source.name ≡ target.name = sym one.of ∙ same ∙ two.of in
      record { name = source.name; holds_source = source.holds; holds_target = subst (λ n. grant_holds plan.grants n place ≡ true) (sym names) target.holds }

  -- ## Ends
  -- a listed end is of the class and the side
  record IsListed (class : Class) (side : ℕ) : Type 0 where
    number : ℕ
    held : End
    there : slice_get a.holds number ≡ Some held
    of_class : held.class ≡ class
    of_side : held.side ≡ side

  listed : (class : Class) (side : ℕ) → lists_end a.holds class side ≡ true → IsListed class side
  listed class side is =
      let found : Passing (λ (held : End). same_class held.class class && (held.side == side)) a.holds = any_found (λ (held : End). same_class held.class class && (held.side == side)) a.holds is in
      record {
        number = found.number;
        held = found.element;
        there = found.there;
        of_class = class_is found.element.class class (both_left _ (found.element.side == side) found.passes);
        of_side = eqb-true found.element.side side (both_right (same_class found.element.class class) _ found.passes);
      }

  -- a descriptor of a slot that the program may have
  pub held_may : (h : Held) (d : Seen) → held_describes (grant_holds plan.grants) h d ≡ true → may_hold_all plan.wide a h ≡ true → MayHave plan.wide plan.grants a own d.subject d.rights
  held_may h d is may =
      let facts = between (grant_holds plan.grants) h d is in
      by_target h.target d.subject facts.target may facts.greatest
    where
      by_target : (t : Target) (x : Subject) → target_describes (grant_holds plan.grants) t x ≡ true → may_hold plan.wide a t h.greatest ≡ true → is_within d.rights h.greatest ≡ true
          → MayHave plan.wide plan.grants a own x d.rights
      by_target (In_grant g) (Node_at place) is may least =
          record { name = g; holds = is; below = is_within-trans d.rights h.greatest (most_in plan.wide a g) least may }
      by_target (In_grant g) (End_of class side) is may least = absurd cc
      by_target (In_grant g) (Own_end of side) is may least = absurd cc
      by_target Any_node x is may least = absurd cc
      by_target (Socket c s) (Node_at place) is may least = absurd cc
      by_target (Socket c s) (End_of class side) is may least =
          let classes : class ≡ c = class_is class c (both_left _ (side == s) is) in
          let sides : side ≡ s = eqb-true side s (both_right (same_class class c) _ is) in
          subst (λ n. lists_end a.holds class n ≡ true) (sym sides) (subst (λ k. lists_end a.holds k s ≡ true) (sym classes) may)
      by_target (Socket c s) (Own_end of side) is may least = absurd cc
      by_target Unknown x is may least = absurd cc

  -- What comes by a listed end the program may have.
  pub may_receive : (class : Class) (side : ℕ) → lists_end a.holds class side ≡ true → (d : Seen)
      → line_describes (grant_holds plan.grants) (channel_at certificate class (other_side side)) d ≡ true → MayHave plan.wide plan.grants a own d.subject d.rights
  may_receive class side is d comes =
      let end = listed class side is in
      let kept = list_all-slice_get (λ (held : End). may_come plan.wide a (channel_at certificate held.class (other_side held.side))) a.holds end.number end.held asked.received end.there in
      by_line (channel_at certificate class (other_side side))
      (subst (λ n. may_come plan.wide a (channel_at certificate class (other_side n)) ≡ true) end.of_side
      (subst (λ c. may_come plan.wide a (channel_at certificate c (other_side end.held.side)) ≡ true) end.of_class kept)) comes
    where
      by_line : (line : Option (Option Held)) → may_come plan.wide a line ≡ true → line_describes (grant_holds plan.grants) line d ≡ true → MayHave plan.wide plan.grants a own d.subject d.rights
      by_line None may comes = absurd cc
      by_line (Some None) may comes = absurd cc
      by_line (Some (Some h)) may comes = held_may h d comes may

  -- Whatever is sent by a listed end is in its channel's line.
  pub may_send : (class : Class) (side : ℕ) → lists_end a.holds class side ≡ true → (d : Seen) → is_within d.rights all_rights ≡ true → is_within d.fcntls all_commands ≡ true
      → line_describes (grant_holds plan.grants) (channel_at certificate class side) d ≡ true
  may_send class side is d rights fcntls =
      let end = listed class side is in
      let kept = list_all-slice_get (λ (held : End). is_widest (channel_at certificate held.class held.side)) a.holds end.number end.held asked.sent end.there in
      by_line (channel_at certificate class side)
      (subst (λ n. is_widest (channel_at certificate class n) ≡ true) end.of_side (subst (λ c. is_widest (channel_at certificate c end.held.side) ≡ true) end.of_class kept))
    where
      by_line : (line : Option (Option Held)) → is_widest line ≡ true → line_describes (grant_holds plan.grants) line d ≡ true
      by_line None widest = absurd cc
      by_line (Some None) widest = absurd cc
      by_line (Some (Some h)) widest =
          slot_smaller (grant_holds plan.grants) (Open unknown_held) (Open h) (Some d) widest (unknown_described (grant_holds plan.grants) d rights fcntls)
