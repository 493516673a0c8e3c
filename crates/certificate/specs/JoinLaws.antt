-- A join is above both. These are theorems, which the laws of `Domain` cite.
use Rattle.std.proofs.Common.{◌≡◌, ℕ, Bool, true, false, cond, min, max, bit_and, bit_or, List, [], ◌∷◌, length, refl, sym, arith, subst}
use Rattle.std.specs.Prelude.{◌==◌, ◌&&◌, Option, Some, None}
use Rattle.std.specs.Cmp.Derive.{both_true}
use Rattle.std.proofs.lemmas.Bool.{eqb-true, le-leb}
use Rattle.std.specs.Str.{bytes_eq}
use Rattle.rights.specs.Sets.{is_within}
use Rattle.rights.proofs.Subsets.{is_within-from_members, IsIn-or_left, IsIn-or_right, IsIn-and}
use Rattle.rights.proofs.Tests.{both_left, both_right}
use Rattle.rights.proofs.Words.{same_bytes}
use Rattle.certificate.specs.Bounds.{ModeBound, Off, On, Either, Interval, Target, In_grant, Any_node, Socket, Unknown, Held, Slot, Closed, Open, Maybe, Bound}
use Rattle.certificate.specs.Order.{mode_within, interval_within, same_class, target_within, held_within, slot_within, each_within, bound_within, sends_within}
use Rattle.certificate.specs.Joins.{mode_join, interval_join, target_join, held_join, slot_join, each_join, bound_join, sends_join}
use Rattle.certificate.specs.OrderLaws.{class_is, from_parts, held-refl, sends-refl, target-refl}

pub mode-left : (a b : ModeBound) → mode_within a (mode_join a b) ≡ true
mode-left Off Off = refl
mode-left Off On = refl
mode-left Off Either = refl
mode-left On Off = refl
mode-left On On = refl
mode-left On Either = refl
mode-left Either Off = refl
mode-left Either On = refl
mode-left Either Either = refl

pub mode-right : (a b : ModeBound) → mode_within b (mode_join a b) ≡ true
mode-right Off Off = refl
mode-right Off On = refl
mode-right Off Either = refl
mode-right On Off = refl
mode-right On On = refl
mode-right On Either = refl
mode-right Either Off = refl
mode-right Either On = refl
mode-right Either Either = refl

pub interval-left : (a b : Interval) → interval_within a (interval_join a b) ≡ true
interval-left a b = both_true (le-leb (min a.low b.low) a.low (omega arith)) (le-leb a.high (max a.high b.high) (omega arith))

pub interval-right : (a b : Interval) → interval_within b (interval_join a b) ≡ true
interval-right a b = both_true (le-leb (min a.low b.low) b.low (omega arith)) (le-leb b.high (max a.high b.high) (omega arith))

pub target-left : (a b : Target) → target_within a (target_join a b) ≡ true
target-left (In_grant g) (In_grant h) = go (bytes_eq g h)
  where
    go : (same : Bool) → target_within (In_grant g) (cond same (In_grant g) Any_node) ≡ true
    go true = target-refl (In_grant g)
    go false = refl
target-left (In_grant g) Any_node = refl
target-left (In_grant g) (Socket class side) = refl
target-left (In_grant g) Unknown = refl
target-left Any_node (In_grant h) = refl
target-left Any_node Any_node = refl
target-left Any_node (Socket class side) = refl
target-left Any_node Unknown = refl
target-left (Socket class side) (In_grant h) = refl
target-left (Socket class side) Any_node = refl
target-left (Socket class side) (Socket other end) = go (same_class class other && (side == end))
  where
    go : (same : Bool) → target_within (Socket class side) (cond same (Socket class side) Unknown) ≡ true
    go true = target-refl (Socket class side)
    go false = refl
target-left (Socket class side) Unknown = refl
target-left Unknown (In_grant h) = refl
target-left Unknown Any_node = refl
target-left Unknown (Socket class side) = refl
target-left Unknown Unknown = refl

pub target-right : (a b : Target) → target_within b (target_join a b) ≡ true
target-right (In_grant g) (In_grant h) = go (bytes_eq g h) refl
  where
    go : (same : Bool) → bytes_eq g h ≡ same → target_within (In_grant h) (cond same (In_grant g) Any_node) ≡ true
    go true is = subst (λ n. target_within (In_grant h) (In_grant n) ≡ true) (sym (same_bytes g h is)) (target-refl (In_grant h))
    go false is = refl
target-right (In_grant g) Any_node = refl
target-right (In_grant g) (Socket class side) = refl
target-right (In_grant g) Unknown = refl
target-right Any_node (In_grant h) = refl
target-right Any_node Any_node = refl
target-right Any_node (Socket class side) = refl
target-right Any_node Unknown = refl
target-right (Socket class side) (In_grant h) = refl
target-right (Socket class side) Any_node = refl
target-right (Socket class side) (Socket other end) = go (same_class class other && (side == end)) refl
  where
    go : (same : Bool) → (same_class class other && (side == end)) ≡ same → target_within (Socket other end) (cond same (Socket class side) Unknown) ≡ true
    go true is =
        let classes : class ≡ other = class_is class other (both_left _ (side == end) is) in
        let sides : side ≡ end = eqb-true side end (both_right (same_class class other) _ is) in
        subst (λ c. target_within (Socket other end) (Socket c side) ≡ true) (sym classes)
        (subst (λ s. target_within (Socket other end) (Socket other s) ≡ true) (sym sides) (target-refl (Socket other end)))
    go false is = refl
target-right (Socket class side) Unknown = refl
target-right Unknown (In_grant h) = refl
target-right Unknown Any_node = refl
target-right Unknown (Socket class side) = refl
target-right Unknown Unknown = refl

and-left : (a b : ℕ) → is_within (bit_and a b) a ≡ true
and-left a b = is_within-from_members _ a (λ k h. (IsIn-and a b k h).0)

and-right : (a b : ℕ) → is_within (bit_and a b) b ≡ true
and-right a b = is_within-from_members _ b (λ k h. (IsIn-and a b k h).1)

or-left : (a b : ℕ) → is_within a (bit_or a b) ≡ true
or-left a b = is_within-from_members a _ (λ k h. IsIn-or_left a b k h)

or-right : (a b : ℕ) → is_within b (bit_or a b) ≡ true
or-right a b = is_within-from_members b _ (λ k h. IsIn-or_right a b k h)

-- of two ranges of sets
pub range-left : (least greatest other_least other_greatest l g : ℕ) → l ≡ bit_and least other_least → g ≡ bit_or greatest other_greatest → (is_within l least && is_within greatest g) ≡ true
range-left least greatest other_least other_greatest l g low high =
    both_true (subst (λ n. is_within n least ≡ true) (sym low) (and-left least other_least)) (subst (λ n. is_within greatest n ≡ true) (sym high) (or-left greatest other_greatest))

pub range-right : (least greatest other_least other_greatest l g : ℕ) → l ≡ bit_and least other_least → g ≡ bit_or greatest other_greatest →
    (is_within l other_least && is_within other_greatest g) ≡ true
range-right least greatest other_least other_greatest l g low high =
    both_true (subst (λ n. is_within n other_least ≡ true) (sym low) (and-right least other_least)) (subst (λ n. is_within other_greatest n ≡ true) (sym high) (or-right greatest other_greatest))

pub held-left : (a b : Held) → held_within a (held_join a b) ≡ true
held-left a b = from_parts a (held_join a b) (record {
  target = target-left a.target b.target;
  least = and-left a.least b.least;
  greatest = or-left a.greatest b.greatest;
  least_fcntls = and-left a.least_fcntls b.least_fcntls;
  greatest_fcntls = or-left a.greatest_fcntls b.greatest_fcntls;
})

pub held-right : (a b : Held) → held_within b (held_join a b) ≡ true
held-right a b = from_parts b (held_join a b) (record {
  target = target-right a.target b.target;
  least = and-right a.least b.least;
  greatest = or-right a.greatest b.greatest;
  least_fcntls = and-right a.least_fcntls b.least_fcntls;
  greatest_fcntls = or-right a.greatest_fcntls b.greatest_fcntls;
})

pub slot-left : (a b : Slot) → slot_within a (slot_join a b) ≡ true
slot-left Closed Closed = refl
slot-left Closed (Open b) = refl
slot-left Closed (Maybe b) = refl
slot-left (Open a) Closed = held-refl a
slot-left (Open a) (Open b) = held-left a b
slot-left (Open a) (Maybe b) = held-left a b
slot-left (Maybe a) Closed = held-refl a
slot-left (Maybe a) (Open b) = held-left a b
slot-left (Maybe a) (Maybe b) = held-left a b

pub slot-right : (a b : Slot) → slot_within b (slot_join a b) ≡ true
slot-right Closed Closed = refl
slot-right Closed (Open b) = held-refl b
slot-right Closed (Maybe b) = held-refl b
slot-right (Open a) Closed = refl
slot-right (Open a) (Open b) = held-right a b
slot-right (Open a) (Maybe b) = held-right a b
slot-right (Maybe a) Closed = refl
slot-right (Maybe a) (Open b) = held-right a b
slot-right (Maybe a) (Maybe b) = held-right a b

-- of rows of one length
pub each-left : {A : Type 0} (test : A → A → Bool) (join : A → A → A) → ((x y : A) → test x (join x y) ≡ true) → (xs ys : List A) →
    length xs ≡ length ys → each_within test xs (each_join join xs ys) ≡ true
each-left test join law [] ys same = refl
each-left test join law (x ∷ xs) [] same = absurd (omega arith)
each-left test join law (x ∷ xs) (y ∷ ys) same = both_true (law x y) (each-left test join law xs ys (omega arith))

pub each-right : {A : Type 0} (test : A → A → Bool) (join : A → A → A) → ((x y : A) → test y (join x y) ≡ true) → (xs ys : List A) →
    length xs ≡ length ys → each_within test ys (each_join join xs ys) ≡ true
each-right test join law [] [] same = refl
each-right test join law [] (y ∷ ys) same = absurd (omega arith)
each-right test join law (x ∷ xs) [] same = absurd (omega arith)
each-right test join law (x ∷ xs) (y ∷ ys) same = both_true (law x y) (each-right test join law xs ys (omega arith))

pub bound-left : (a b : Bound) → length a.registers ≡ length b.registers → length a.slots ≡ length b.slots → bound_within a (bound_join a b) ≡ true
bound-left a b registers slots =
    both_true
    (both_true (mode-left a.mode b.mode) (each-left interval_within interval_join interval-left a.registers b.registers registers))
    (each-left slot_within slot_join slot-left a.slots b.slots slots)

pub bound-right : (a b : Bound) → length a.registers ≡ length b.registers → length a.slots ≡ length b.slots → bound_within b (bound_join a b) ≡ true
bound-right a b registers slots =
    both_true
    (both_true (mode-right a.mode b.mode) (each-right interval_within interval_join interval-right a.registers b.registers registers))
    (each-right slot_within slot_join slot-right a.slots b.slots slots)

pub sends-left : (a b : Option Held) → sends_within a (sends_join a b) ≡ true
sends-left None b = refl
sends-left (Some a) None = held-refl a
sends-left (Some a) (Some b) = held-left a b

pub sends-right : (a b : Option Held) → sends_within b (sends_join a b) ≡ true
sends-right None b = sends-refl b
sends-right (Some a) None = refl
sends-right (Some a) (Some b) = held-right a b

-- whatever is the join is above both, where a law says so of the join
pub join_above : {A : Type 0} (test : A → A → Bool) (a b joined join : A) → join ≡ joined → test a joined ≡ true → test b joined ≡ true → (test a join ≡ true) × (test b join ≡ true)
join_above test a b joined join is left right = (subst (λ j. test a j ≡ true) (sym is) left, subst (λ j. test b j ≡ true) (sym is) right)
