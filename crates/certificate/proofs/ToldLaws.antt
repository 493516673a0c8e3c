-- What a version tells of further rights: it is above what was said, it is the same when it is told again, and it keeps the
-- order.
use Rattle.std.proofs.Common.{◌≡◌, ℕ, Bool, true, false, List, [], ◌∷◌, map, refl, ap, sym, ◌∙◌, bit_and, bit_or, zero, suc, arith}
use Rattle.std.specs.Prelude.{◌&&◌, ◌||◌, ◌+◌, ◌-◌, Option, Some, None, if◌then◌else◌, option_map}
use Rattle.std.specs.Cmp.Derive.{both_true}
use Rattle.std.specs.Int.{bit_at}
use Rattle.std.specs.List.{list_all}
use Rattle.std.proofs.lemmas.Bool.{eqb-true}
use Rattle.std.proofs.lemmas.List.{map-id}
use Rattle.std.proofs.lemmas.Nat.{and_comm}
use Rattle.std.proofs.lemmas.Nat.Bits.{same_from_bits, bit_at_or, bit_at-lt}
use Rattle.rights.specs.Sets.{all_commands, all_rights, further_right, further_rights, is_within, plain_rights}
use Rattle.rights.proofs.Subsets.{is_within-from_members, is_within-members, is_within-refl, is_within-or, is_within-trans, IsIn-and, IsIn-and_both, IsIn-or_left, IsIn-or_right}
use Rattle.rights.proofs.Tests.{both_left, both_right}
use Rattle.certificate.specs.Bounds.{Any_node, Held, Slot, Closed, Open, Maybe, Bound, PointBound, ChannelBound, Ceiling, Authority, Version, One, Two, Three, Four, held_in, tells_further}
use Rattle.certificate.specs.Lines.{is_held_bound, is_range}
use Rattle.certificate.specs.Order.{bound_within, each_within, held_within, interval_within, mode_within, slot_within}
use Rattle.certificate.specs.OrderLaws.{bound-refl, each-refl, from_parts, held-refl, interval-refl, mode-refl, parts, slot-refl, target-refl}
use Rattle.certificate.specs.Told.{are_told_authorities, are_told_ceilings, are_told_channels, are_told_points, is_told, is_told_bound, is_told_ceiling, is_told_slot}
use Rattle.certificate.specs.Told.{told_bound, told_channel, told_held, told_point, told_slot}
use Rattle.certificate.specs.Told.{untold_bound, untold_held, untold_slot}

-- SETS
and_below : (a set : ℕ) → is_within (bit_and a set) a ≡ true
and_below a set = is_within-from_members (bit_and a set) a (λ k i. (IsIn-and a set k i).0)

pub and_within : (a set : ℕ) → is_within (bit_and a set) set ≡ true
and_within a set = is_within-from_members (bit_and a set) set (λ k i. (IsIn-and a set k i).1)

or_above : (a set : ℕ) → is_within a (bit_or a set) ≡ true
or_above a set = is_within-from_members a (bit_or a set) (λ k i. IsIn-or_left a set k i)

pub within_or : (a set : ℕ) → is_within set (bit_or a set) ≡ true
within_or a set = is_within-from_members set (bit_or a set) (λ k i. IsIn-or_right a set k i)

-- a set within another is what is in both, and a set that has another is what is in either
pub and_same : (a set : ℕ) → is_within a set ≡ true → bit_and a set ≡ a
and_same a set within = and_comm a set ∙ eqb-true _ _ within

pub or_same : (a set : ℕ) → is_within set a ≡ true → bit_or a set ≡ a
or_same a set within = same_from_bits (bit_or a set) a (λ k. by_bit k (bit_at set k) refl)
  where
    by_bit : (k n : ℕ) → bit_at set k ≡ n → bit_at (bit_or a set) k ≡ bit_at a k
    by_bit k zero is = omega (arith, bit_at_or a set k, is)
    by_bit k (suc zero) is = let in_a : bit_at a k ≡ 1 = is_within-members set a within k is in omega (arith, bit_at_or a set k, is, in_a)
    by_bit k (suc (suc n)) is = absurd (omega (arith, bit_at-lt set k, is))

and_kept : (a b set : ℕ) → is_within a b ≡ true → is_within (bit_and a set) (bit_and b set) ≡ true
and_kept a b set within =
    is_within-from_members (bit_and a set) (bit_and b set)
    (λ k i. let both = IsIn-and a set k i in IsIn-and_both b set k (is_within-members a b within k both.0) both.1)

or_kept : (a b set : ℕ) → is_within a b ≡ true → is_within (bit_or a set) (bit_or b set) ≡ true
or_kept a b set within = is_within-or a set (bit_or b set) (is_within-trans a b (bit_or b set) within (or_above b set)) (within_or b set)

-- WITHOUT A WORD OF FURTHER RIGHTS
pub untold_is_above : (h : Held) → held_within h (untold_held h) ≡ true
untold_is_above h = from_parts h (untold_held h) (record {
  target = target-refl h.target;
  least = and_below h.least plain_rights;
  greatest = or_above h.greatest further_rights;
  least_fcntls = is_within-refl h.least_fcntls;
  greatest_fcntls = is_within-refl h.greatest_fcntls;
})

pub untold_slot_is_above : (s : Slot) → slot_within s (untold_slot s) ≡ true
untold_slot_is_above Closed = refl
untold_slot_is_above (Open h) = untold_is_above h
untold_slot_is_above (Maybe h) = untold_is_above h

untold_slots_are_above : (slots : List Slot) → each_within slot_within slots (map untold_slot slots) ≡ true
untold_slots_are_above [] = refl
untold_slots_are_above (s ∷ slots) = both_true (untold_slot_is_above s) (untold_slots_are_above slots)

pub untold_bound_is_above : (b : Bound) → bound_within b (untold_bound b) ≡ true
untold_bound_is_above b =
    both_true (both_true (mode-refl b.mode) (each-refl interval_within interval-refl b.registers)) (untold_slots_are_above b.slots)

-- what is told already stays
untold_is : (h : Held) → (is_within h.least plain_rights && is_within further_rights h.greatest) ≡ true → untold_held h ≡ h
untold_is h is =
    let least = and_same h.least plain_rights (both_left _ (is_within further_rights h.greatest) is) in
    let greatest = or_same h.greatest further_rights (both_right (is_within h.least plain_rights) _ is) in
    λ i. record h { least = least i; greatest = greatest i }

untold_is_told : (h : Held) → (is_within (untold_held h).least plain_rights && is_within further_rights (untold_held h).greatest) ≡ true
untold_is_told h = both_true (and_within h.least plain_rights) (within_or h.greatest further_rights)

-- a range stays one
pub untold_nested : (least greatest : ℕ) → is_within least greatest ≡ true → is_within (bit_and least plain_rights) (bit_or greatest further_rights) ≡ true
untold_nested least greatest nested =
    is_within-trans (bit_and least plain_rights) least (bit_or greatest further_rights) (and_below least plain_rights)
    (is_within-trans least greatest (bit_or greatest further_rights) nested (or_above greatest further_rights))

pub untold_known : (greatest : ℕ) → is_within greatest all_rights ≡ true → is_within (bit_or greatest further_rights) all_rights ≡ true
untold_known greatest known = is_within-or greatest further_rights all_rights known refl

untold_is_held : (h : Held) → is_held_bound h ≡ true → is_held_bound (untold_held h) ≡ true
untold_is_held h is =
    let rights = both_left _ (is_range all_commands h.least_fcntls h.greatest_fcntls) is in
    let fcntls = both_right (is_range all_rights h.least h.greatest) _ is in
    let nested = both_left _ (is_within h.greatest all_rights) rights in
    let known = both_right (is_within h.least h.greatest) _ rights in
    both_true (both_true (untold_nested h.least h.greatest nested) (untold_known h.greatest known)) fcntls

untold_keeps : (a b : Held) → held_within a b ≡ true → held_within (untold_held a) (untold_held b) ≡ true
untold_keeps a b within =
    let p = parts a b within in
    from_parts (untold_held a) (untold_held b) (record {
      target = p.target;
      least = and_kept b.least a.least plain_rights p.least;
      greatest = or_kept a.greatest b.greatest further_rights p.greatest;
      least_fcntls = p.least_fcntls;
      greatest_fcntls = p.greatest_fcntls;
    })

untold_slot_keeps : (a b : Slot) → slot_within a b ≡ true → slot_within (untold_slot a) (untold_slot b) ≡ true
untold_slot_keeps Closed Closed within = refl
untold_slot_keeps Closed (Open h) within = absurd cc
untold_slot_keeps Closed (Maybe h) within = refl
untold_slot_keeps (Open g) Closed within = absurd cc
untold_slot_keeps (Open g) (Open h) within = untold_keeps g h within
untold_slot_keeps (Open g) (Maybe h) within = untold_keeps g h within
untold_slot_keeps (Maybe g) Closed within = absurd cc
untold_slot_keeps (Maybe g) (Open h) within = absurd cc
untold_slot_keeps (Maybe g) (Maybe h) within = untold_keeps g h within

untold_slots_keep : (xs ys : List Slot) → each_within slot_within xs ys ≡ true → each_within slot_within (map untold_slot xs) (map untold_slot ys) ≡ true
untold_slots_keep [] [] within = refl
untold_slots_keep [] (y ∷ ys) within = absurd cc
untold_slots_keep (x ∷ xs) [] within = absurd cc
untold_slots_keep (x ∷ xs) (y ∷ ys) within =
    both_true (untold_slot_keeps x y (both_left _ (each_within slot_within xs ys) within)) (untold_slots_keep xs ys (both_right (slot_within x y) _ within))

untold_bound_keeps : (a b : Bound) → bound_within a b ≡ true → bound_within (untold_bound a) (untold_bound b) ≡ true
untold_bound_keeps a b within =
    both_true (both_left _ (each_within slot_within a.slots b.slots) within)
    (untold_slots_keep a.slots b.slots (both_right (mode_within a.mode b.mode && each_within interval_within a.registers b.registers) _ within))

-- AS A VERSION TELLS IT
-- what holds of a thing and of what is said of it without a word of further rights
chosen : {A : Type 0} (P : A → Type 0) (t : Bool) (x y : A) → (t ≡ true → P x) → P y → P (if t then x else y)
chosen P true x y first second = first refl
chosen P false x y first second = second

-- it is above what was said,
pub told_held_is_above : (v : Version) (h : Held) → held_within h (told_held v h) ≡ true
told_held_is_above v h = chosen (λ k. held_within h k ≡ true) (tells_further v) h (untold_held h) (λ t. held-refl h) (untold_is_above h)

pub told_slot_is_above : (v : Version) (s : Slot) → slot_within s (told_slot v s) ≡ true
told_slot_is_above v s = chosen (λ k. slot_within s k ≡ true) (tells_further v) s (untold_slot s) (λ t. slot-refl s) (untold_slot_is_above s)

pub told_bound_is_above : (v : Version) (b : Bound) → bound_within b (told_bound v b) ≡ true
told_bound_is_above v b =
    chosen (λ c. bound_within b c ≡ true) (tells_further v) b (untold_bound b) (λ t. bound-refl b) (untold_bound_is_above b)

-- it is a range where that was one,
pub told_is_held : (v : Version) (h : Held) → is_held_bound h ≡ true → is_held_bound (told_held v h) ≡ true
told_is_held v h is = chosen (λ k. is_held_bound k ≡ true) (tells_further v) h (untold_held h) (λ t. is) (untold_is_held h is)

-- it is told,
either_way : (a b : Bool) → b ≡ true → (a || b) ≡ true
either_way true b is = refl
either_way false b is = is

all_told : (v : Version) (o : Option Held) → tells_further v ≡ true → is_told v o ≡ true
all_told v None tells = refl
all_told v (Some h) tells = ap (λ t. t || (is_within h.least plain_rights && is_within further_rights h.greatest)) tells

untold_in_each : (v : Version) (h : Held) → is_told v (Some (untold_held h)) ≡ true
untold_in_each v h = either_way (tells_further v) _ (untold_is_told h)

untold_slot_in_each : (v : Version) (s : Slot) → is_told_slot v (untold_slot s) ≡ true
untold_slot_in_each v Closed = refl
untold_slot_in_each v (Open h) = untold_in_each v h
untold_slot_in_each v (Maybe h) = untold_in_each v h

pub held_is_told : (v : Version) (h : Held) → is_told v (Some (told_held v h)) ≡ true
held_is_told v h = chosen (λ k. is_told v (Some k) ≡ true) (tells_further v) h (untold_held h) (all_told v (Some h)) (untold_in_each v h)

pub sends_are_told : (v : Version) (o : Option Held) → is_told v (option_map (told_held v) o) ≡ true
sends_are_told v None = refl
sends_are_told v (Some h) = held_is_told v h

pub slot_is_told : (v : Version) (s : Slot) → is_told_slot v (told_slot v s) ≡ true
slot_is_told v s = chosen (λ k. is_told_slot v k ≡ true) (tells_further v) s (untold_slot s) (all_told v (held_in s)) (untold_slot_in_each v s)

slots_are_told : (v : Version) (slots : List Slot) → list_all (is_told_slot v) (map (told_slot v) slots) ≡ true
slots_are_told v [] = refl
slots_are_told v (s ∷ slots) = both_true (slot_is_told v s) (slots_are_told v slots)

-- of a bound it is told slot by slot
pub bound_by_slots : (v : Version) (b : Bound) → told_bound v b ≡ record b { slots = map (told_slot v) b.slots }
bound_by_slots v b = by_case (tells_further v)
  where
    by_case : (t : Bool) → (if t then b else untold_bound b) ≡ record b { slots = map (λ s. if t then s else untold_slot s) b.slots }
    by_case true = ap (λ slots. record b { slots = slots }) (sym (map-id b.slots))
    by_case false = refl

pub bound_is_told : (v : Version) (b : Bound) → is_told_bound v (told_bound v b) ≡ true
bound_is_told v b = ap (is_told_bound v) (bound_by_slots v b) ∙ slots_are_told v b.slots

-- and what is told stays when it is told again.
stays : {A : Type 0} (f : A → A) (t : Bool) (x : A) → (t ≡ false → f x ≡ x) → (if t then x else f x) ≡ x
stays f true x is = refl
stays f false x is = is refl

of_none : (t b : Bool) → (t || b) ≡ true → t ≡ false → b ≡ true
of_none true b is none = absurd cc
of_none false b is none = is

pub told_held_stays : (v : Version) (h : Held) → is_told v (Some h) ≡ true → told_held v h ≡ h
told_held_stays v h told = stays untold_held (tells_further v) h (λ none. untold_is h (of_none (tells_further v) _ told none))

pub told_sends_stay : (v : Version) (o : Option Held) → is_told v o ≡ true → option_map (told_held v) o ≡ o
told_sends_stay v None told = refl
told_sends_stay v (Some h) told = ap Some (told_held_stays v h told)

pub told_slot_stays : (v : Version) (s : Slot) → is_told_slot v s ≡ true → told_slot v s ≡ s
told_slot_stays v Closed told = stays untold_slot (tells_further v) Closed (λ none. refl)
told_slot_stays v (Open h) told =
    stays untold_slot (tells_further v) (Open h) (λ none. ap Open (untold_is h (of_none (tells_further v) _ told none)))
told_slot_stays v (Maybe h) told =
    stays untold_slot (tells_further v) (Maybe h) (λ none. ap Maybe (untold_is h (of_none (tells_further v) _ told none)))

-- each of a list stays where it is told
each_stays : {A : Type 0} (test : A → Bool) (f : A → A) → ((x : A) → test x ≡ true → f x ≡ x) → (xs : List A) → list_all test xs ≡ true → map f xs ≡ xs
each_stays test f law [] told = refl
each_stays test f law (x ∷ xs) told =
    ap (λ y. y ∷ map f xs) (law x (both_left (test x) (list_all test xs) told))
    ∙ ap (λ ys. x ∷ ys) (each_stays test f law xs (both_right (test x) (list_all test xs) told))

pub told_bound_stays : (v : Version) (b : Bound) → is_told_bound v b ≡ true → told_bound v b ≡ b
told_bound_stays v b told =
    bound_by_slots v b ∙ ap (λ slots. record b { slots = slots }) (each_stays (is_told_slot v) (told_slot v) (told_slot_stays v) b.slots told)

pub told_channel_stays : (v : Version) (c : ChannelBound) → is_told v c.sends ≡ true → told_channel v c ≡ c
told_channel_stays v c told = ap (λ sends. record c { sends = sends }) (told_sends_stay v c.sends told)

pub told_points_stay : (v : Version) (points : List PointBound) → are_told_points v points ≡ true → map (told_point v) points ≡ points
told_points_stay v points told =
    each_stays (λ (p : PointBound). is_told_bound v p.bound) (told_point v)
    (λ (p : PointBound) is. ap (λ bound. record p { bound = bound }) (told_bound_stays v p.bound is)) points told

pub told_channels_stay : (v : Version) (channels : List ChannelBound) → are_told_channels v channels ≡ true → map (told_channel v) channels ≡ channels
told_channels_stay v channels told = each_stays (λ (c : ChannelBound). is_told v c.sends) (told_channel v) (told_channel_stays v) channels told

pub told_held_twice : (v : Version) (h : Held) → told_held v (told_held v h) ≡ told_held v h
told_held_twice v h = told_held_stays v (told_held v h) (held_is_told v h)

pub told_slot_twice : (v : Version) (s : Slot) → told_slot v (told_slot v s) ≡ told_slot v s
told_slot_twice v s = told_slot_stays v (told_slot v s) (slot_is_told v s)

pub told_bound_twice : (v : Version) (b : Bound) → told_bound v (told_bound v b) ≡ told_bound v b
told_bound_twice v b = told_bound_stays v (told_bound v b) (bound_is_told v b)

-- It keeps the order.
both_chosen : {A : Type 0} (within : A → A → Bool) (f : A → A) (t : Bool) (a b : A) → within a b ≡ true → within (f a) (f b) ≡ true
    → within (if t then a else f a) (if t then b else f b) ≡ true
both_chosen within f true a b first second = first
both_chosen within f false a b first second = second

pub told_held_keeps : (v : Version) (a b : Held) → held_within a b ≡ true → held_within (told_held v a) (told_held v b) ≡ true
told_held_keeps v a b within = both_chosen held_within untold_held (tells_further v) a b within (untold_keeps a b within)

pub told_slot_keeps : (v : Version) (a b : Slot) → slot_within a b ≡ true → slot_within (told_slot v a) (told_slot v b) ≡ true
told_slot_keeps v a b within = both_chosen slot_within untold_slot (tells_further v) a b within (untold_slot_keeps a b within)

pub told_bound_keeps : (v : Version) (a b : Bound) → bound_within a b ≡ true → bound_within (told_bound v a) (told_bound v b) ≡ true
told_bound_keeps v a b within = both_chosen bound_within untold_bound (tells_further v) a b within (untold_bound_keeps a b within)

-- VERSIONS that tell the same
pub told_bound_alike : (v w : Version) → tells_further v ≡ tells_further w → (b : Bound) → told_bound v b ≡ told_bound w b
told_bound_alike v w alike b = ap (λ t. if t then b else untold_bound b) alike

pub is_told_alike : (v w : Version) → tells_further v ≡ tells_further w → (o : Option Held) → is_told v o ≡ is_told w o
is_told_alike v w alike None = refl
is_told_alike v w alike (Some h) = ap (λ t. t || (is_within h.least plain_rights && is_within further_rights h.greatest)) alike

each_alike : {A : Type 0} (f g : A → Bool) → ((x : A) → f x ≡ g x) → (xs : List A) → list_all f xs ≡ list_all g xs
each_alike f g law [] = refl
each_alike f g law (x ∷ xs) = ap (λ b. b && list_all f xs) (law x) ∙ ap (λ b. g x && b) (each_alike f g law xs)

pub are_told_points_alike : (v w : Version) → tells_further v ≡ tells_further w → (points : List PointBound)
    → are_told_points v points ≡ are_told_points w points
are_told_points_alike v w alike points =
    each_alike (λ (p : PointBound). is_told_bound v p.bound) (λ (p : PointBound). is_told_bound w p.bound)
    (λ p. each_alike (is_told_slot v) (is_told_slot w) (λ s. is_told_alike v w alike (held_in s)) p.bound.slots) points

pub are_told_channels_alike : (v w : Version) → tells_further v ≡ tells_further w → (channels : List ChannelBound)
    → are_told_channels v channels ≡ are_told_channels w channels
are_told_channels_alike v w alike channels =
    each_alike (λ (c : ChannelBound). is_told v c.sends) (λ (c : ChannelBound). is_told w c.sends) (λ c. is_told_alike v w alike c.sends) channels

pub are_told_authorities_alike : (v w : Version) → tells_further v ≡ tells_further w → (authorities : List Authority)
    → are_told_authorities v authorities ≡ are_told_authorities w authorities
are_told_authorities_alike v w alike authorities =
    each_alike (λ (a : Authority). are_told_ceilings v a.ceilings) (λ (a : Authority). are_told_ceilings w a.ceilings)
    (λ a. each_alike (λ (c : Ceiling). is_told_ceiling v c.rights) (λ (c : Ceiling). is_told_ceiling w c.rights)
    (λ c. ap (λ t. t || is_within c.rights plain_rights) alike) a.ceilings) authorities

-- ROWS: a descriptor that surely has a further right, as version 4 alone says it; and one that surely lacks it, too
abbrev has_event : Held
has_event = record { target = Any_node; least = plain_rights + further_right 4; greatest = all_rights; least_fcntls = 0; greatest_fcntls = 3 }

abbrev lacks_event : Held
lacks_event = record has_event { least = 1; greatest = all_rights - further_right 4 }

abbrev of_plain : ℕ → Held
of_plain least = record has_event { least = least }

told_rows : (is_told Three (Some has_event) ≡ false) × (is_told Three (Some lacks_event) ≡ false) × (is_told Four (Some has_event) ≡ true)
    × (is_told Four (Some lacks_event) ≡ true) × (is_told Three (Some (of_plain 1)) ≡ true)
    × (is_told_ceiling Three (1 + further_right 4) ≡ false) × (is_told_ceiling Four (1 + further_right 4) ≡ true)
told_rows = (refl, refl, refl, refl, refl, refl, refl)

held_rows : (told_held Three has_event ≡ of_plain plain_rights) × (told_held Three lacks_event ≡ of_plain 1) × (told_held Four has_event ≡ has_event)
    × (told_slot Two (Open has_event) ≡ Open (of_plain plain_rights)) × (told_slot One (Maybe lacks_event) ≡ Maybe (of_plain 1))
held_rows = (refl, refl, refl, refl, refl)
