-- A join with what was joined before, or with itself, changes nothing.
use Rattle.std.proofs.Common.{◌≡◌, ℕ, ◌+◌, Bool, true, false, cond, min, max, bit_and, bit_or, List, [], ◌∷◌, refl, ap, ◌∙◌, arith}
use Rattle.std.specs.Prelude.{◌==◌, ◌&&◌}
use Rattle.std.specs.Str.{bytes_eq}
use Rattle.std.specs.Int.Bits.{and_self, or_self, or_add_and}
use Rattle.std.proofs.lemmas.Nat.{and_or_self, and_assoc}
use Rattle.certificate.specs.Bounds.{ModeBound, Off, On, Either, Interval, Target, In_grant, Any_node, Socket, Unknown, Held, Slot, Closed, Open, Maybe, Bound}
use Rattle.certificate.specs.Order.{same_class}
use Rattle.certificate.specs.OrderLaws.{target-refl}
use Rattle.certificate.specs.Joins.{mode_join, interval_join, target_join, held_join, slot_join, each_join, bound_join}

-- ## With itself
mode-self : (m : ModeBound) → mode_join m m ≡ m
mode-self Off = refl
mode-self On = refl
mode-self Either = refl

interval-self : (i : Interval) → interval_join i i ≡ i
interval-self i =
    let low : min i.low i.low ≡ i.low = omega arith in
    let high : max i.high i.high ≡ i.high = omega arith in
    λ k. record { low = low k; high = high k }

target-self : (t : Target) → target_join t t ≡ t
target-self (In_grant g) = let same : bytes_eq g g ≡ true = target-refl (In_grant g) in rw same
target-self Any_node = refl
target-self (Socket class side) =
    let same : (same_class class class && (side == side)) ≡ true = target-refl (Socket class side) in rw same
target-self Unknown = refl

held-self : (h : Held) → held_join h h ≡ h
held-self h = λ k. record {
  target = target-self h.target k;
  least = and_self h.least k;
  greatest = or_self h.greatest k;
  least_fcntls = and_self h.least_fcntls k;
  greatest_fcntls = or_self h.greatest_fcntls k;
}

slot-self : (s : Slot) → slot_join s s ≡ s
slot-self Closed = refl
slot-self (Open h) = ap Open (held-self h)
slot-self (Maybe h) = ap Maybe (held-self h)

each-self : {A : Type 0} (join : A → A → A) → ((x : A) → join x x ≡ x) → (xs : List A) → each_join join xs xs ≡ xs
each-self join law [] = refl
each-self join law (x ∷ xs) = λ k. law x k ∷ each-self join law xs k

pub bound-self : (b : Bound) → bound_join b b ≡ b
bound-self b = λ k. record {
  mode = mode-self b.mode k;
  registers = each-self interval_join interval-self b.registers k;
  slots = each-self slot_join slot-self b.slots k;
}

-- ## Once more
mode-twice : (a b : ModeBound) → mode_join (mode_join a b) b ≡ mode_join a b
mode-twice Off Off = refl
mode-twice Off On = refl
mode-twice Off Either = refl
mode-twice On Off = refl
mode-twice On On = refl
mode-twice On Either = refl
mode-twice Either Off = refl
mode-twice Either On = refl
mode-twice Either Either = refl

interval-twice : (a b : Interval) → interval_join (interval_join a b) b ≡ interval_join a b
interval-twice a b =
    let low : min (min a.low b.low) b.low ≡ min a.low b.low = omega arith in
    let high : max (max a.high b.high) b.high ≡ max a.high b.high = omega arith in
    λ k. record { low = low k; high = high k }

target-twice : (a b : Target) → target_join (target_join a b) b ≡ target_join a b
target-twice (In_grant g) (In_grant h) = go (bytes_eq g h) refl
  where
    go : (same : Bool) → bytes_eq g h ≡ same → target_join (cond same (In_grant g) Any_node) (In_grant h) ≡ cond same (In_grant g) Any_node
    go true is = rw is
    go false is = refl
target-twice (In_grant g) Any_node = refl
target-twice (In_grant g) (Socket class side) = refl
target-twice (In_grant g) Unknown = refl
target-twice Any_node (In_grant h) = refl
target-twice Any_node Any_node = refl
target-twice Any_node (Socket class side) = refl
target-twice Any_node Unknown = refl
target-twice (Socket class side) (In_grant h) = refl
target-twice (Socket class side) Any_node = refl
target-twice (Socket class side) (Socket other end) = go (same_class class other && (side == end)) refl
  where
    go : (same : Bool) → (same_class class other && (side == end)) ≡ same
        → target_join (cond same (Socket class side) Unknown) (Socket other end) ≡ cond same (Socket class side) Unknown
    go true is = rw is
    go false is = refl
target-twice (Socket class side) Unknown = refl
target-twice Unknown (In_grant h) = refl
target-twice Unknown Any_node = refl
target-twice Unknown (Socket class side) = refl
target-twice Unknown Unknown = refl

and-twice : (a b : ℕ) → bit_and (bit_and a b) b ≡ bit_and a b
and-twice a b = and_assoc b a b ∙ ap (bit_and a) (and_self b)

or-twice : (a b : ℕ) → bit_or (bit_or a b) b ≡ bit_or a b
or-twice a b =
    let sum : bit_or (bit_or a b) b + bit_and (bit_or a b) b ≡ bit_or a b + b = or_add_and (bit_or a b) b in
    let both : bit_and (bit_or a b) b ≡ b = and_or_self b a in
    omega arith

held-twice : (a b : Held) → held_join (held_join a b) b ≡ held_join a b
held-twice a b = λ k. record {
  target = target-twice a.target b.target k;
  least = and-twice a.least b.least k;
  greatest = or-twice a.greatest b.greatest k;
  least_fcntls = and-twice a.least_fcntls b.least_fcntls k;
  greatest_fcntls = or-twice a.greatest_fcntls b.greatest_fcntls k;
}

slot-twice : (a b : Slot) → slot_join (slot_join a b) b ≡ slot_join a b
slot-twice Closed Closed = refl
slot-twice Closed (Open b) = ap Maybe (held-self b)
slot-twice Closed (Maybe b) = ap Maybe (held-self b)
slot-twice (Open a) Closed = refl
slot-twice (Open a) (Open b) = ap Open (held-twice a b)
slot-twice (Open a) (Maybe b) = ap Maybe (held-twice a b)
slot-twice (Maybe a) Closed = refl
slot-twice (Maybe a) (Open b) = ap Maybe (held-twice a b)
slot-twice (Maybe a) (Maybe b) = ap Maybe (held-twice a b)

each-twice : {A : Type 0} (join : A → A → A) → ((x y : A) → join (join x y) y ≡ join x y) → (xs ys : List A)
    → each_join join (each_join join xs ys) ys ≡ each_join join xs ys
each-twice join law [] ys = refl
each-twice join law (x ∷ xs) [] = refl
each-twice join law (x ∷ xs) (y ∷ ys) = λ k. law x y k ∷ each-twice join law xs ys k

pub bound-twice : (a b : Bound) → bound_join (bound_join a b) b ≡ bound_join a b
bound-twice a b = λ k. record {
  mode = mode-twice a.mode b.mode k;
  registers = each-twice interval_join interval-twice a.registers b.registers k;
  slots = each-twice slot_join slot-twice a.slots b.slots k;
}
