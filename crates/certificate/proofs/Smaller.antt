-- What a bound within another describes, the other describes too.
use Rattle.std.proofs.Common.{◌≡◌, ℕ, ◌≤◌, ◌+◌, Bool, true, List, [], ◌∷◌, refl, arith, subst}
use Rattle.std.specs.Prelude.{◌==◌, ◌&&◌, nat_le, Option, Some, None}
use Rattle.std.specs.Cmp.Derive.{both_true}
use Rattle.std.proofs.lemmas.Bool.{eqb-true, leb-true, le-leb}
use Rattle.rights.specs.Sets.{is_within}
use Rattle.rights.proofs.Subsets.{is_within-trans}
use Rattle.rights.proofs.Tests.{both_left, both_right}
use Rattle.rights.proofs.Words.{same_bytes}
use Rattle.certificate.specs.Bounds.{ModeBound, Off, On, Either, Interval, Target, In_grant, Any_node, Socket, Unknown, Held, Slot, Closed, Open, Maybe, Bound}
use Rattle.certificate.specs.Order.{mode_within, interval_within, same_class, target_within, held_within, slot_within, each_within, bound_within, sends_within}
use Rattle.certificate.specs.OrderLaws.{class_is}
use Rattle.certificate.specs.Describes.{Subject, Node_at, End_of, Own_end, Seen, Holds, target_describes, held_describes, slot_describes, mode_describes, interval_describes}
use Rattle.certificate.specs.Describes.{registers_describe, slots_describe, describes, sends_describes}

mode_smaller : (a b : ModeBound) (on : Bool) → mode_within a b ≡ true → mode_describes a on ≡ true → mode_describes b on ≡ true
mode_smaller Off Off on within is = is
mode_smaller Off On on within is = absurd cc
mode_smaller Off Either on within is = refl
mode_smaller On Off on within is = absurd cc
mode_smaller On On on within is = is
mode_smaller On Either on within is = refl
mode_smaller Either Off on within is = absurd cc
mode_smaller Either On on within is = absurd cc
mode_smaller Either Either on within is = refl

pub interval_smaller : (a b : Interval) (value : ℕ) → interval_within a b ≡ true → interval_describes a value ≡ true → interval_describes b value ≡ true
interval_smaller a b value within is =
    let low : b.low ≤ a.low = leb-true _ _ (both_left _ (nat_le a.high b.high) within) in
    let high : a.high ≤ b.high = leb-true _ _ (both_right (nat_le b.low a.low) _ within) in
    let above : a.low ≤ value = leb-true _ _ (both_left _ (nat_le value a.high) is) in
    let below : value ≤ a.high = leb-true _ _ (both_right (nat_le a.low value) _ is) in
    both_true (le-leb b.low value (omega arith)) (le-leb value b.high (omega arith))

target_smaller : (holds : Holds) (a b : Target) (s : Subject) → target_within a b ≡ true → target_describes holds a s ≡ true → target_describes holds b s ≡ true
target_smaller holds (In_grant g) (In_grant h) (Node_at place) within is =
    subst (λ name. holds name place ≡ true) (same_bytes g h within) is
target_smaller holds (In_grant g) (In_grant h) (End_of class side) within is = absurd cc
target_smaller holds (In_grant g) (In_grant h) (Own_end program side) within is = absurd cc
target_smaller holds (In_grant g) Any_node (Node_at place) within is = refl
target_smaller holds (In_grant g) Any_node (End_of class side) within is = absurd cc
target_smaller holds (In_grant g) Any_node (Own_end program side) within is = absurd cc
target_smaller holds (In_grant g) (Socket class side) s within is = absurd cc
target_smaller holds (In_grant g) Unknown s within is = refl
target_smaller holds Any_node (In_grant h) s within is = absurd cc
target_smaller holds Any_node Any_node s within is = is
target_smaller holds Any_node (Socket class side) s within is = absurd cc
target_smaller holds Any_node Unknown s within is = refl
target_smaller holds (Socket class side) (In_grant h) s within is = absurd cc
target_smaller holds (Socket class side) Any_node s within is = absurd cc
target_smaller holds (Socket class side) (Socket other end) (Node_at place) within is = absurd cc
target_smaller holds (Socket class side) (Socket other end) (End_of c t) within is =
    let classes : class ≡ other = class_is class other (both_left _ (side == end) within) in
    let sides : side ≡ end = eqb-true side end (both_right (same_class class other) _ within) in
    subst (λ n. (same_class c other && (t == n)) ≡ true) sides (subst (λ k. (same_class c k && (t == side)) ≡ true) classes is)
target_smaller holds (Socket class side) (Socket other end) (Own_end program t) within is = absurd cc
target_smaller holds (Socket class side) Unknown s within is = refl
target_smaller holds Unknown (In_grant h) s within is = absurd cc
target_smaller holds Unknown Any_node s within is = absurd cc
target_smaller holds Unknown (Socket class side) s within is = absurd cc
target_smaller holds Unknown Unknown s within is = refl

-- the parts of a descriptor's description, and of what is within
pub record Between (holds : Holds) (h : Held) (d : Seen) : Type 0 where
  pub target : target_describes holds h.target d.subject ≡ true
  pub least : is_within h.least d.rights ≡ true
  pub greatest : is_within d.rights h.greatest ≡ true
  pub least_fcntls : is_within h.least_fcntls d.fcntls ≡ true
  pub greatest_fcntls : is_within d.fcntls h.greatest_fcntls ≡ true

pub between : (holds : Holds) (h : Held) (d : Seen) → held_describes holds h d ≡ true → Between holds h d
between holds h d is =
    let four = both_left _ (is_within d.fcntls h.greatest_fcntls) is in
    let three = both_left _ (is_within h.least_fcntls d.fcntls) four in
    let two = both_left _ (is_within d.rights h.greatest) three in
    record {
      target = both_left _ (is_within h.least d.rights) two;
      least = both_right (target_describes holds h.target d.subject) _ two;
      greatest = both_right (target_describes holds h.target d.subject && is_within h.least d.rights) _ three;
      least_fcntls = both_right (target_describes holds h.target d.subject && is_within h.least d.rights && is_within d.rights h.greatest) _ four;
      greatest_fcntls = both_right (target_describes holds h.target d.subject && is_within h.least d.rights && is_within d.rights h.greatest && is_within h.least_fcntls d.fcntls) _ is;
    }

pub from_between : (holds : Holds) (h : Held) (d : Seen) → Between holds h d → held_describes holds h d ≡ true
from_between holds h d facts =
    both_true (both_true (both_true (both_true facts.target facts.least) facts.greatest) facts.least_fcntls) facts.greatest_fcntls

held_smaller : (holds : Holds) (a b : Held) (d : Seen) → held_within a b ≡ true → held_describes holds a d ≡ true → held_describes holds b d ≡ true
held_smaller holds a b d within is =
    let four = both_left _ (is_within a.greatest_fcntls b.greatest_fcntls) within in
    let three = both_left _ (is_within b.least_fcntls a.least_fcntls) four in
    let two = both_left _ (is_within a.greatest b.greatest) three in
    let facts = between holds a d is in
    from_between holds b d (record {
      target = target_smaller holds a.target b.target d.subject (both_left _ (is_within b.least a.least) two) facts.target;
      least = is_within-trans b.least a.least d.rights (both_right (target_within a.target b.target) _ two) facts.least;
      greatest = is_within-trans d.rights a.greatest b.greatest facts.greatest (both_right (target_within a.target b.target && is_within b.least a.least) _ three);
      least_fcntls = is_within-trans b.least_fcntls a.least_fcntls d.fcntls
          (both_right (target_within a.target b.target && is_within b.least a.least && is_within a.greatest b.greatest) _ four) facts.least_fcntls;
      greatest_fcntls = is_within-trans d.fcntls a.greatest_fcntls b.greatest_fcntls facts.greatest_fcntls
          (both_right (target_within a.target b.target && is_within b.least a.least && is_within a.greatest b.greatest
          && is_within b.least_fcntls a.least_fcntls) _ within);
    })

pub slot_smaller : (holds : Holds) (a b : Slot) (o : Option Seen) → slot_within a b ≡ true → slot_describes holds a o ≡ true → slot_describes holds b o ≡ true
slot_smaller holds Closed Closed o within is = is
slot_smaller holds Closed (Open b) o within is = absurd cc
slot_smaller holds Closed (Maybe b) None within is = refl
slot_smaller holds Closed (Maybe b) (Some d) within is = absurd cc
slot_smaller holds (Open a) Closed o within is = absurd cc
slot_smaller holds (Open a) (Open b) None within is = absurd cc
slot_smaller holds (Open a) (Open b) (Some d) within is = held_smaller holds a b d within is
slot_smaller holds (Open a) (Maybe b) None within is = refl
slot_smaller holds (Open a) (Maybe b) (Some d) within is = held_smaller holds a b d within is
slot_smaller holds (Maybe a) Closed o within is = absurd cc
slot_smaller holds (Maybe a) (Open b) o within is = absurd cc
slot_smaller holds (Maybe a) (Maybe b) None within is = refl
slot_smaller holds (Maybe a) (Maybe b) (Some d) within is = held_smaller holds a b d within is

registers_smaller : (a b : List Interval) (values : List ℕ) → each_within interval_within a b ≡ true → registers_describe a values ≡ true → registers_describe b values ≡ true
registers_smaller [] [] values within is = is
registers_smaller [] (y ∷ b) values within is = absurd cc
registers_smaller (x ∷ a) [] values within is = absurd cc
registers_smaller (x ∷ a) (y ∷ b) [] within is = absurd cc
registers_smaller (x ∷ a) (y ∷ b) (v ∷ values) within is =
    both_true
    (interval_smaller x y v (both_left _ (each_within interval_within a b) within) (both_left _ (registers_describe a values) is))
    (registers_smaller a b values (both_right (interval_within x y) _ within) (both_right (interval_describes x v) _ is))

slots_smaller : (holds : Holds) (n : ℕ) (a b : List Slot) (table : ℕ → Option Seen) → each_within slot_within a b ≡ true → slots_describe holds n a table ≡ true → slots_describe holds n b table ≡ true
slots_smaller holds n [] [] table within is = is
slots_smaller holds n [] (y ∷ b) table within is = absurd cc
slots_smaller holds n (x ∷ a) [] table within is = absurd cc
slots_smaller holds n (x ∷ a) (y ∷ b) table within is =
    both_true
    (slot_smaller holds x y (table n) (both_left _ (each_within slot_within a b) within) (both_left _ (slots_describe holds (n + 1) a table) is))
    (slots_smaller holds (n + 1) a b table (both_right (slot_within x y) _ within) (both_right (slot_describes holds x (table n)) _ is))

-- the whole
pub describes_smaller : (holds : Holds) (a b : Bound) (on : Bool) (values : List ℕ) (table : ℕ → Option Seen) → bound_within a b ≡ true →
    describes holds a on values table ≡ true → describes holds b on values table ≡ true
describes_smaller holds a b on values table within is =
    let first = both_left _ (each_within slot_within a.slots b.slots) within in
    let here = both_left _ (slots_describe holds 0 a.slots table) is in
    both_true
    (both_true
    (mode_smaller a.mode b.mode on (both_left _ (each_within interval_within a.registers b.registers) first) (both_left _ (registers_describe a.registers values) here))
    (registers_smaller a.registers b.registers values (both_right (mode_within a.mode b.mode) _ first) (both_right (mode_describes a.mode on) _ here)))
    (slots_smaller holds 0 a.slots b.slots table
    (both_right (mode_within a.mode b.mode && each_within interval_within a.registers b.registers) _ within)
    (both_right (mode_describes a.mode on && registers_describe a.registers values) _ is))

pub sends_smaller : (holds : Holds) (a b : Option Held) (d : Seen) → sends_within a b ≡ true → sends_describes holds a d ≡ true → sends_describes holds b d ≡ true
sends_smaller holds None b d within is = absurd cc
sends_smaller holds (Some a) None d within is = absurd cc
sends_smaller holds (Some a) (Some b) d within is = held_smaller holds a b d within is
