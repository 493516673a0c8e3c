-- The order of bounds is reflexive and transitive. These are theorems, which the laws of `Domain` cite.
use Rattle.std.proofs.Common.{◌≡◌, ℕ, ◌≤◌, Bool, true, List, [], ◌∷◌, refl, sym, arith, subst}
use Rattle.std.specs.Prelude.{◌==◌, ◌&&◌, nat_le, Option, Some, None}
use Rattle.std.specs.Cmp.Derive.{both_true}
use Rattle.std.proofs.lemmas.Bool.{eqb-true, eq-eqb, leb-true, le-leb}
use Rattle.std.specs.Str.{bytes_eq}
use Rattle.rights.specs.Sets.{is_within}
use Rattle.rights.specs.Classes.{Class, Initial, Made_at}
use Rattle.rights.proofs.Subsets.{is_within-refl, is_within-trans}
use Rattle.rights.proofs.Tests.{both_left, both_right}
use Rattle.rights.proofs.Words.{same_bytes}
use Rattle.certificate.specs.Bounds.{ModeBound, Off, On, Either, Interval, Target, In_grant, Any_node, Socket, Unknown, Held, Slot, Closed, Open, Maybe, Bound}
use Rattle.certificate.specs.Order.{mode_within, interval_within, same_class, target_within, held_within, slot_within, each_within, bound_within, sends_within}

pub class_is : (c d : Class) → same_class c d ≡ true → c ≡ d
class_is (Initial m) (Initial n) is = let same : m ≡ n = eqb-true m n is in cc
class_is (Initial m) (Made_at program point) is = absurd cc
class_is (Made_at p m) (Initial n) is = absurd cc
class_is (Made_at p m) (Made_at q n) is =
    let program : p ≡ q = same_bytes p q (both_left _ (m == n) is) in
    let point : m ≡ n = eqb-true m n (both_right (bytes_eq p q) _ is) in
    cc

-- reflexive
pub mode-refl : (m : ModeBound) → mode_within m m ≡ true
mode-refl Off = refl
mode-refl On = refl
mode-refl Either = refl

pub interval-refl : (i : Interval) → interval_within i i ≡ true
interval-refl i = both_true (le-leb i.low i.low (omega arith)) (le-leb i.high i.high (omega arith))

bytes-refl : (xs : List ℕ) → bytes_eq xs xs ≡ true
bytes-refl [] = refl
bytes-refl (x ∷ xs) = both_true (eq-eqb x x refl) (bytes-refl xs)

class-refl : (c : Class) → same_class c c ≡ true
class-refl (Initial n) = eq-eqb n n refl
class-refl (Made_at p n) = both_true (bytes-refl p) (eq-eqb n n refl)

pub target-refl : (t : Target) → target_within t t ≡ true
target-refl (In_grant g) = bytes-refl g
target-refl Any_node = refl
target-refl (Socket class side) = both_true (class-refl class) (eq-eqb side side refl)
target-refl Unknown = refl

-- the parts of what is within
pub record Within (a b : Held) : Type 0 where
  pub target : target_within a.target b.target ≡ true
  pub least : is_within b.least a.least ≡ true
  pub greatest : is_within a.greatest b.greatest ≡ true
  pub least_fcntls : is_within b.least_fcntls a.least_fcntls ≡ true
  pub greatest_fcntls : is_within a.greatest_fcntls b.greatest_fcntls ≡ true

pub parts : (a b : Held) → held_within a b ≡ true → Within a b
parts a b within =
    let four = both_left _ (is_within a.greatest_fcntls b.greatest_fcntls) within in
    let three = both_left _ (is_within b.least_fcntls a.least_fcntls) four in
    let two = both_left _ (is_within a.greatest b.greatest) three in
    record {
      target = both_left _ (is_within b.least a.least) two;
      least = both_right (target_within a.target b.target) _ two;
      greatest = both_right (target_within a.target b.target && is_within b.least a.least) _ three;
      least_fcntls = both_right (target_within a.target b.target && is_within b.least a.least && is_within a.greatest b.greatest) _ four;
      greatest_fcntls = both_right (target_within a.target b.target && is_within b.least a.least && is_within a.greatest b.greatest && is_within b.least_fcntls a.least_fcntls) _ within;
    }

pub from_parts : (a b : Held) → Within a b → held_within a b ≡ true
from_parts a b p = both_true (both_true (both_true (both_true p.target p.least) p.greatest) p.least_fcntls) p.greatest_fcntls

pub held-refl : (h : Held) → held_within h h ≡ true
held-refl h = from_parts h h (record {
  target = target-refl h.target;
  least = is_within-refl h.least;
  greatest = is_within-refl h.greatest;
  least_fcntls = is_within-refl h.least_fcntls;
  greatest_fcntls = is_within-refl h.greatest_fcntls;
})

pub slot-refl : (s : Slot) → slot_within s s ≡ true
slot-refl Closed = refl
slot-refl (Open h) = held-refl h
slot-refl (Maybe h) = held-refl h

pub each-refl : {A : Type 0} (test : A → A → Bool) → ((x : A) → test x x ≡ true) → (xs : List A) → each_within test xs xs ≡ true
each-refl test law [] = refl
each-refl test law (x ∷ xs) = both_true (law x) (each-refl test law xs)

pub bound-refl : (b : Bound) → bound_within b b ≡ true
bound-refl b =
    both_true (both_true (mode-refl b.mode) (each-refl interval_within interval-refl b.registers)) (each-refl slot_within slot-refl b.slots)

pub sends-refl : (o : Option Held) → sends_within o o ≡ true
sends-refl None = refl
sends-refl (Some h) = held-refl h

-- transitive
pub mode-trans : (a b c : ModeBound) → mode_within a b ≡ true → mode_within b c ≡ true → mode_within a c ≡ true
mode-trans Off b Either ab bc = refl
mode-trans On b Either ab bc = refl
mode-trans Either b Either ab bc = refl
mode-trans Off Off c ab bc = bc
mode-trans Off On c ab bc = absurd cc
mode-trans Off Either Off ab bc = absurd cc
mode-trans Off Either On ab bc = absurd cc
mode-trans On Off c ab bc = absurd cc
mode-trans On On c ab bc = bc
mode-trans On Either Off ab bc = absurd cc
mode-trans On Either On ab bc = absurd cc
mode-trans Either Off c ab bc = absurd cc
mode-trans Either On c ab bc = absurd cc
mode-trans Either Either c ab bc = bc

pub interval-trans : (a b c : Interval) → interval_within a b ≡ true → interval_within b c ≡ true → interval_within a c ≡ true
interval-trans a b c ab bc =
    let low : b.low ≤ a.low = leb-true _ _ (both_left _ (nat_le a.high b.high) ab) in
    let high : a.high ≤ b.high = leb-true _ _ (both_right (nat_le b.low a.low) _ ab) in
    let lower : c.low ≤ b.low = leb-true _ _ (both_left _ (nat_le b.high c.high) bc) in
    let higher : b.high ≤ c.high = leb-true _ _ (both_right (nat_le c.low b.low) _ bc) in
    both_true (le-leb c.low a.low (omega arith)) (le-leb a.high c.high (omega arith))

-- what a target is within
pub target-trans : (a b c : Target) → target_within a b ≡ true → target_within b c ≡ true → target_within a c ≡ true
target-trans a b Unknown ab bc = refl
target-trans (In_grant g) (In_grant h) (In_grant k) ab bc = subst (λ n. bytes_eq n k ≡ true) (sym (same_bytes g h ab)) bc
target-trans Any_node (In_grant h) (In_grant k) ab bc = absurd cc
target-trans (Socket class side) (In_grant h) (In_grant k) ab bc = absurd cc
target-trans Unknown (In_grant h) (In_grant k) ab bc = absurd cc
target-trans a Any_node (In_grant k) ab bc = absurd cc
target-trans a (Socket class side) (In_grant k) ab bc = absurd cc
target-trans a Unknown (In_grant k) ab bc = absurd cc
target-trans (In_grant g) b Any_node ab bc = refl
target-trans Any_node b Any_node ab bc = refl
target-trans (Socket class side) (In_grant h) Any_node ab bc = absurd cc
target-trans (Socket class side) Any_node Any_node ab bc = absurd cc
target-trans (Socket class side) (Socket c s) Any_node ab bc = absurd cc
target-trans (Socket class side) Unknown Any_node ab bc = absurd cc
target-trans Unknown (In_grant h) Any_node ab bc = absurd cc
target-trans Unknown Any_node Any_node ab bc = absurd cc
target-trans Unknown (Socket c s) Any_node ab bc = absurd cc
target-trans Unknown Unknown Any_node ab bc = absurd cc
target-trans a (In_grant h) (Socket class side) ab bc = absurd cc
target-trans a Any_node (Socket class side) ab bc = absurd cc
target-trans a Unknown (Socket class side) ab bc = absurd cc
target-trans (In_grant g) (Socket c s) (Socket class side) ab bc = absurd cc
target-trans Any_node (Socket c s) (Socket class side) ab bc = absurd cc
target-trans Unknown (Socket c s) (Socket class side) ab bc = absurd cc
target-trans (Socket d t) (Socket c s) (Socket class side) ab bc =
    let classes : d ≡ c = class_is d c (both_left _ (t == s) ab) in
    let sides : t ≡ s = eqb-true t s (both_right (same_class d c) _ ab) in
    subst (λ k. (same_class k class && (t == side)) ≡ true) (sym classes) (subst (λ n. (same_class c class && (n == side)) ≡ true) (sym sides) bc)

-- of ranges of sets
pub range-refl : (least greatest : ℕ) → (is_within least least && is_within greatest greatest) ≡ true
range-refl least greatest = both_true (is_within-refl least) (is_within-refl greatest)

pub range-trans : (l g m h n k : ℕ) → (is_within m l && is_within g h) ≡ true → (is_within n m && is_within h k) ≡ true → (is_within n l && is_within g k) ≡ true
range-trans l g m h n k ab bc =
    both_true
    (is_within-trans n m l (both_left _ (is_within h k) bc) (both_left _ (is_within g h) ab))
    (is_within-trans g h k (both_right (is_within m l) _ ab) (both_right (is_within n m) _ bc))

pub held-trans : (a b c : Held) → held_within a b ≡ true → held_within b c ≡ true → held_within a c ≡ true
held-trans a b c ab bc =
    let p = parts a b ab in
    let q = parts b c bc in
    from_parts a c (record {
      target = target-trans a.target b.target c.target p.target q.target;
      least = is_within-trans c.least b.least a.least q.least p.least;
      greatest = is_within-trans a.greatest b.greatest c.greatest p.greatest q.greatest;
      least_fcntls = is_within-trans c.least_fcntls b.least_fcntls a.least_fcntls q.least_fcntls p.least_fcntls;
      greatest_fcntls = is_within-trans a.greatest_fcntls b.greatest_fcntls c.greatest_fcntls p.greatest_fcntls q.greatest_fcntls;
    })

pub slot-trans : (a b c : Slot) → slot_within a b ≡ true → slot_within b c ≡ true → slot_within a c ≡ true
slot-trans Closed b Closed ab bc = refl
slot-trans Closed b (Maybe z) ab bc = refl
slot-trans Closed Closed (Open z) ab bc = absurd cc
slot-trans Closed (Open y) (Open z) ab bc = absurd cc
slot-trans Closed (Maybe y) (Open z) ab bc = absurd cc
slot-trans (Open x) Closed c ab bc = absurd cc
slot-trans (Open x) (Open y) Closed ab bc = absurd cc
slot-trans (Open x) (Open y) (Open z) ab bc = held-trans x y z ab bc
slot-trans (Open x) (Open y) (Maybe z) ab bc = held-trans x y z ab bc
slot-trans (Open x) (Maybe y) Closed ab bc = absurd cc
slot-trans (Open x) (Maybe y) (Open z) ab bc = absurd cc
slot-trans (Open x) (Maybe y) (Maybe z) ab bc = held-trans x y z ab bc
slot-trans (Maybe x) Closed c ab bc = absurd cc
slot-trans (Maybe x) (Open y) c ab bc = absurd cc
slot-trans (Maybe x) (Maybe y) Closed ab bc = absurd cc
slot-trans (Maybe x) (Maybe y) (Open z) ab bc = absurd cc
slot-trans (Maybe x) (Maybe y) (Maybe z) ab bc = held-trans x y z ab bc

pub each-trans : {A : Type 0} (test : A → A → Bool) → ((x y z : A) → test x y ≡ true → test y z ≡ true → test x z ≡ true) → (xs ys zs : List A) →
    each_within test xs ys ≡ true → each_within test ys zs ≡ true → each_within test xs zs ≡ true
each-trans test law [] [] zs ab bc = bc
each-trans test law [] (y ∷ ys) zs ab bc = absurd cc
each-trans test law (x ∷ xs) [] zs ab bc = absurd cc
each-trans test law (x ∷ xs) (y ∷ ys) [] ab bc = absurd cc
each-trans test law (x ∷ xs) (y ∷ ys) (z ∷ zs) ab bc =
    both_true
    (law x y z (both_left _ (each_within test xs ys) ab) (both_left _ (each_within test ys zs) bc))
    (each-trans test law xs ys zs (both_right (test x y) _ ab) (both_right (test y z) _ bc))

pub bound-trans : (a b c : Bound) → bound_within a b ≡ true → bound_within b c ≡ true → bound_within a c ≡ true
bound-trans a b c ab bc =
    let ab_two = both_left _ (each_within slot_within a.slots b.slots) ab in
    let bc_two = both_left _ (each_within slot_within b.slots c.slots) bc in
    both_true
    (both_true
    (mode-trans a.mode b.mode c.mode (both_left _ (each_within interval_within a.registers b.registers) ab_two) (both_left _ (each_within interval_within b.registers c.registers) bc_two))
    (each-trans interval_within interval-trans a.registers b.registers c.registers (both_right (mode_within a.mode b.mode) _ ab_two) (both_right (mode_within b.mode c.mode) _ bc_two)))
    (each-trans slot_within slot-trans a.slots b.slots c.slots
    (both_right (mode_within a.mode b.mode && each_within interval_within a.registers b.registers) _ ab)
    (both_right (mode_within b.mode c.mode && each_within interval_within b.registers c.registers) _ bc))

pub sends-trans : (a b c : Option Held) → sends_within a b ≡ true → sends_within b c ≡ true → sends_within a c ≡ true
sends-trans None b c ab bc = refl
sends-trans (Some x) None c ab bc = absurd cc
sends-trans (Some x) (Some y) None ab bc = absurd cc
sends-trans (Some x) (Some y) (Some z) ab bc = held-trans x y z ab bc
