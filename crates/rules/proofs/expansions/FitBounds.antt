-- Bounds that fit a certificate: what instructions make of one, and joins of two.
use Rattle.std.proofs.Common.{◌≡◌, ◌+◌, ◌++◌, ◌∷◌, [], Bool, true, false, ℕ, zero, suc, List, length, set, refl, ap, ◌∙◌, arith}
use Rattle.std.specs.Prelude.{◌==◌, ◌&&◌, map, Option, Some, None, if◌then◌else◌}
use Rattle.std.specs.List.{flat_map, list_all}
use Rattle.std.specs.Str.{bytes_eq}
use Rattle.std.proofs.lemmas.Bool.{eq-eqb, eqb-true}
use Rattle.std.proofs.lemmas.List.{length-map, length-set}
use Rattle.std.proofs.lemmas.List.Folds.{list_all-append}
use Rattle.rights.specs.Classes.{Class}
use Rattle.rights.specs.Limits.{most_descriptors, register_count}
use Rattle.certificate.specs.Bounds.{ModeBound, Interval, Target, In_grant, Any_node, Socket, Unknown, Held, Slot, Closed}
use Rattle.certificate.specs.Bounds.{Open, Maybe, Bound, ChannelBound, PointBound, Version, One, Two, Three, Four, held_in}
use Rattle.certificate.specs.Told.{told_bound, untold_bound, untold_slot}
use Rattle.certificate.specs.Bounds.{with_interval, with_slot, bound_in}
use Rattle.certificate.specs.Growth.{programs_of_channel, programs_of_class, programs_of_held, programs_of_target}
use Rattle.certificate.specs.Joins.{bound_join, each_join, interval_join, slot_join, target_join}
use Rattle.certificate.specs.Order.{same_class}
use Rattle.certificate.proofs.Fewer.{among_split, are_among, is_among}
use Rattle.certificate.proofs.Fits.{is_fit, is_fit_point, is_fit_slot}
use Rattle.certificate.proofs.Growing.{and_left, and_right, both_true}
use Rattle.rules.specs.Channels.{line_in}
use Rattle.rules.specs.Slots.{OpenSlot, holds_number, open_slot, slots_from}

all_set : {A : Type 0} (test : A → Bool) (xs : List A) (n : ℕ) (x : A) → list_all test xs ≡ true → test x ≡ true → list_all test (set xs n x) ≡ true
all_set test [] n x all passes = refl
all_set test (y ∷ xs) zero x all passes = both_true (test x) (list_all test xs) passes (and_right (test y) (list_all test xs) all)
all_set test (y ∷ xs) (suc n) x all passes =
    both_true (test y) (list_all test (set xs n x)) (and_left (test y) (list_all test xs) all)
    (all_set test xs n x (and_right (test y) (list_all test xs) all) passes)

joined_length : {A : Type 0} (join : A → A → A) (xs ys : List A) (n : ℕ) → length xs ≡ n → length ys ≡ n → length (each_join join xs ys) ≡ n
joined_length join [] ys n left right = left
joined_length join (x ∷ xs) [] n left right = right
joined_length join (x ∷ xs) (y ∷ ys) zero left right = absurd (omega (arith, left))
joined_length join (x ∷ xs) (y ∷ ys) (suc n) left right = ap suc (joined_length join xs ys n (omega (arith, left)) (omega (arith, right)))

all_joined : {A : Type 0} (test : A → Bool) (join : A → A → A) → ((x y : A) → test x ≡ true → test y ≡ true → test (join x y) ≡ true)
    → (xs ys : List A) → list_all test xs ≡ true → list_all test ys ≡ true → list_all test (each_join join xs ys) ≡ true
all_joined test join keeps [] ys all others = refl
all_joined test join keeps (x ∷ xs) [] all others = refl
all_joined test join keeps (x ∷ xs) (y ∷ ys) all others =
    both_true (test (join x y)) (list_all test (each_join join xs ys))
    (keeps x y (and_left (test x) (list_all test xs) all) (and_left (test y) (list_all test ys) others))
    (all_joined test join keeps xs ys (and_right (test x) (list_all test xs) all) (and_right (test y) (list_all test ys) others))

module _ (names : List (List ℕ)) where
  -- a target names programs among these
  abbrev pub is_fit_target : Target → Bool
  is_fit_target t = are_among names (programs_of_target t)

  -- THE PARTS of a bound that fits
  pub record Parts (b : Bound) : Type 0 where
    pub eight : (length b.registers == register_count) ≡ true
    pub sixteen : (length b.slots == most_descriptors) ≡ true
    pub slots : list_all (is_fit_slot names) b.slots ≡ true

  pub parts : (b : Bound) → is_fit names b ≡ true → Parts b
  parts b fit =
      let rest = and_right (length b.registers == register_count) ((length b.slots == most_descriptors) && list_all (is_fit_slot names) b.slots) fit in
      record {
        eight = and_left (length b.registers == register_count) ((length b.slots == most_descriptors) && list_all (is_fit_slot names) b.slots) fit;
        sixteen = and_left (length b.slots == most_descriptors) (list_all (is_fit_slot names) b.slots) rest;
        slots = and_right (length b.slots == most_descriptors) (list_all (is_fit_slot names) b.slots) rest;
      }

  whole : (b : Bound) → Parts b → is_fit names b ≡ true
  whole b p =
      both_true (length b.registers == register_count) ((length b.slots == most_descriptors) && list_all (is_fit_slot names) b.slots) p.eight
      (both_true (length b.slots == most_descriptors) (list_all (is_fit_slot names) b.slots) p.sixteen p.slots)

  pub fit_interval : (b : Bound) (r : ℕ) (i : Interval) → is_fit names b ≡ true → is_fit names (with_interval b r i) ≡ true
  fit_interval b r i fit =
      let p = parts b fit in
      whole (with_interval b r i) (record {
        eight = ap (λ n. n == register_count) (length-set b.registers r i) ∙ p.eight;
        sixteen = p.sixteen;
        slots = p.slots;
      })

  pub fit_slot : (b : Bound) (n : ℕ) (s : Slot) → is_fit names b ≡ true → is_fit_slot names s ≡ true → is_fit names (with_slot b n s) ≡ true
  fit_slot b n s fit own =
      let p = parts b fit in
      whole (with_slot b n s) (record {
        eight = p.eight;
        sixteen = ap (λ k. k == most_descriptors) (length-set b.slots n s) ∙ p.sixteen;
        slots = all_set (is_fit_slot names) b.slots n s p.slots own;
      })

  -- as a certificate says it
  fit_untold_slots : (slots : List Slot) → list_all (is_fit_slot names) slots ≡ true → list_all (is_fit_slot names) (map untold_slot slots) ≡ true
  fit_untold_slots [] all = refl
  fit_untold_slots (s ∷ slots) all =
      both_true (is_fit_slot names (untold_slot s)) (list_all (is_fit_slot names) (map untold_slot slots))
      (one s (and_left (is_fit_slot names s) (list_all (is_fit_slot names) slots) all))
      (fit_untold_slots slots (and_right (is_fit_slot names s) (list_all (is_fit_slot names) slots) all))
    where
      one : (s : Slot) → is_fit_slot names s ≡ true → is_fit_slot names (untold_slot s) ≡ true
      one Closed fit = fit
      one (Open h) fit = fit
      one (Maybe h) fit = fit

  fit_untold : (b : Bound) → is_fit names b ≡ true → is_fit names (untold_bound b) ≡ true
  fit_untold b fit =
      let p : Parts b = parts b fit in
      whole (untold_bound b) (record {
        eight = p.eight;
        sixteen = ap (λ n. n == most_descriptors) (length-map b.slots untold_slot) ∙ p.sixteen;
        slots = fit_untold_slots b.slots p.slots;
      })

  pub fit_told : (v : Version) (b : Bound) → is_fit names b ≡ true → is_fit names (told_bound v b) ≡ true
  fit_told One b fit = fit_untold b fit
  fit_told Two b fit = fit_untold b fit
  fit_told Three b fit = fit_untold b fit
  fit_told Four b fit = fit

  pub fit_mode : (b : Bound) (mode : ModeBound) → is_fit names b ≡ true → is_fit names (record b { mode = mode }) ≡ true
  fit_mode b mode fit = fit

  -- THE JOIN of two
  one_class : (same : Bool) (class : Class) (side : ℕ) → is_fit_target (Socket class side) ≡ true
      → is_fit_target (if same then Socket class side else Unknown) ≡ true
  one_class true class side fit = fit
  one_class false class side fit = refl

  one_grant : (same : Bool) (a : List ℕ) → is_fit_target (if same then In_grant a else Any_node) ≡ true
  one_grant true a = refl
  one_grant false a = refl

  joined_target : (t u : Target) → is_fit_target t ≡ true → is_fit_target u ≡ true → is_fit_target (target_join t u) ≡ true
  joined_target (In_grant a) (In_grant b) left right = one_grant (bytes_eq a b) a
  joined_target (In_grant a) Any_node left right = refl
  joined_target (In_grant a) (Socket class side) left right = refl
  joined_target (In_grant a) Unknown left right = refl
  joined_target Any_node (In_grant b) left right = refl
  joined_target Any_node Any_node left right = refl
  joined_target Any_node (Socket class side) left right = refl
  joined_target Any_node Unknown left right = refl
  joined_target (Socket class side) (In_grant b) left right = refl
  joined_target (Socket class side) Any_node left right = refl
  joined_target (Socket class side) (Socket other end) left right = one_class (same_class class other && (side == end)) class side left
  joined_target (Socket class side) Unknown left right = refl
  joined_target Unknown (In_grant b) left right = refl
  joined_target Unknown Any_node left right = refl
  joined_target Unknown (Socket class side) left right = refl
  joined_target Unknown Unknown left right = refl

  joined_slot : (s t : Slot) → is_fit_slot names s ≡ true → is_fit_slot names t ≡ true → is_fit_slot names (slot_join s t) ≡ true
  joined_slot Closed Closed left right = refl
  joined_slot Closed (Open b) left right = right
  joined_slot Closed (Maybe b) left right = right
  joined_slot (Open a) Closed left right = left
  joined_slot (Open a) (Open b) left right = joined_target a.target b.target left right
  joined_slot (Open a) (Maybe b) left right = joined_target a.target b.target left right
  joined_slot (Maybe a) Closed left right = left
  joined_slot (Maybe a) (Open b) left right = joined_target a.target b.target left right
  joined_slot (Maybe a) (Maybe b) left right = joined_target a.target b.target left right

  pub fit_join : (a b : Bound) → is_fit names a ≡ true → is_fit names b ≡ true → is_fit names (bound_join a b) ≡ true
  fit_join a b left right =
      let p = parts a left in
      let q = parts b right in
      let eight = joined_length interval_join a.registers b.registers register_count
      (eqb-true (length a.registers) register_count p.eight) (eqb-true (length b.registers) register_count q.eight) in
      let sixteen = joined_length slot_join a.slots b.slots most_descriptors
      (eqb-true (length a.slots) most_descriptors p.sixteen) (eqb-true (length b.slots) most_descriptors q.sixteen) in
      whole (bound_join a b) (record {
        eight = eq-eqb (length (each_join interval_join a.registers b.registers)) register_count eight;
        sixteen = eq-eqb (length (each_join slot_join a.slots b.slots)) most_descriptors sixteen;
        slots = all_joined (is_fit_slot names) slot_join joined_slot a.slots b.slots p.slots q.slots;
      })

  -- WHAT A SLOT HOLDS
  abbrev pub is_fit_open : OpenSlot → Bool
  is_fit_open s = is_fit_target s.held.target

  abbrev pub is_fit_held : Option Held → Bool
  is_fit_held held = are_among names (programs_of_held held)

  fit_open : (n : ℕ) (held : Option Held) → is_fit_held held ≡ true → list_all is_fit_open (open_slot n held) ≡ true
  fit_open n None fit = refl
  fit_open n (Some h) fit = both_true (is_fit_target h.target) true fit refl

  pub fit_slots : (n : ℕ) (i : Interval) (slots : List Slot) → list_all (is_fit_slot names) slots ≡ true → list_all is_fit_open (slots_from n i slots) ≡ true
  fit_slots n i [] fit = refl
  fit_slots n i (s ∷ slots) fit =
      go (holds_number i n) (fit_slots (n + 1) i slots (and_right (is_fit_slot names s) (list_all (is_fit_slot names) slots) fit))
    where
      go : (b : Bool) → list_all is_fit_open (slots_from (n + 1) i slots) ≡ true
          → list_all is_fit_open ((if b then open_slot n (held_in s) else []) ++ slots_from (n + 1) i slots) ≡ true
      go true rest =
          list_all-append is_fit_open (open_slot n (held_in s)) (slots_from (n + 1) i slots)
          ∙ both_true (list_all is_fit_open (open_slot n (held_in s))) (list_all is_fit_open (slots_from (n + 1) i slots))
          (fit_open n (held_in s) (and_left (is_fit_slot names s) (list_all (is_fit_slot names) slots) fit)) rest
      go false rest = rest

  -- WHAT A CHANNEL SENDS
  abbrev pub is_fit_line : Option (Option Held) → Bool
  is_fit_line None = true
  is_fit_line (Some sends) = is_fit_held sends

  pub fit_line : (channels : List ChannelBound) (class : Class) (side : ℕ) → are_among names (flat_map programs_of_channel channels) ≡ true
      → is_fit_line (line_in channels class side) ≡ true
  fit_line [] class side among = refl
  fit_line (c ∷ channels) class side among =
      let both = among_split names (programs_of_channel c) (flat_map programs_of_channel channels) among in
      go (same_class c.class class && (c.side == side)) (among_split names (programs_of_class c.class) (programs_of_held c.sends) both.0).1
      (fit_line channels class side both.1)
    where
      go : (b : Bool) → is_fit_held c.sends ≡ true → is_fit_line (line_in channels class side) ≡ true
          → is_fit_line (if b then Some c.sends else line_in channels class side) ≡ true
      go true own rest = own
      go false own rest = rest

  -- THE BOUND of a point that is given one
  abbrev pub is_fit_bound : Option Bound → Bool
  is_fit_bound None = true
  is_fit_bound (Some b) = is_fit names b

  pub fit_given : (points : List PointBound) (program : List ℕ) (point : ℕ) → list_all (is_fit_point names) points ≡ true
      → is_fit_bound (bound_in points program point) ≡ true
  unfolding bound_in
  fit_given [] program point fit = refl
  fit_given (b ∷ points) program point fit =
      go (bytes_eq b.program program && (b.point == point))
      (fit_given points program point (and_right (is_fit_point names b) (list_all (is_fit_point names) points) fit))
    where
      go : (is : Bool) → is_fit_bound (bound_in points program point) ≡ true
          → is_fit_bound (if is then Some b.bound else bound_in points program point) ≡ true
      go true rest = and_right (is_among names b.program) (is_fit names b.bound) (and_left (is_fit_point names b) (list_all (is_fit_point names) points) fit)
      go false rest = rest
