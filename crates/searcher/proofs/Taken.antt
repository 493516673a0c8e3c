-- Blocks that are taken behind others: each that stands behind them, and whose program's name has room.
use Rattle.std.proofs.Common.{◌≡◌, ◌≤◌, ◌<◌, rules, ◌+◌, ℕ, zero, suc, Bool, true, false, List, [], ◌∷◌, ◌++◌, length, refl, ap, sym, ◌∙◌, append_assoc, append-nil, arith}
use Rattle.std.specs.Prelude.{◌&&◌, ◌||◌, nat_le, Some, Ok, Err, if◌then◌else◌}
use Rattle.std.specs.List.{flat_map, list_any}
use Rattle.std.specs.Ordering.{is_lt, nat_cmp, ordering_then}
use Rattle.std.specs.declared.cmp.Ordering.TheVariants.{Less, Equal}
use Rattle.std.specs.Str.{bytes_eq}
use Rattle.std.proofs.lemmas.Grind.{flat_map-append}
use Rattle.std.proofs.lemmas.List.{length_push}
use Rattle.std.proofs.lemmas.List.Folds.{list_any-append}
use Rattle.std.proofs.Math.Seq.{set-append_seam}
use Rattle.std.proofs.lemmas.Slice.Eq.{bytes_eq-Decides}
use Rattle.std.specs.Cmp.{nat_cmp_is}
use Rattle.std.specs.Cmp.Lexicographic.{slice_cmp}
use Rattle.certificate.specs.Bounds.{ModeBound, Slot, Closed, Open, Maybe, Bound, PointBound, Version, Certificate, full_interval, with_slot}
use Rattle.certificate.specs.Growth.{above_blocks, all_from, copies, distinct, distinct_behind, has_room, programs_of_block, programs_of_slot, stands, taken, with_line, No_room, Out_of_order}
use Rattle.certificate.specs.Order.{same_class}
use Rattle.certificate.specs.Lines.{Line, Begins_block, Bounds_slot, block_lines, is_closed, register_lines, slot_lines}
use Rattle.certificate.proofs.Makes.{all_from_seam, last_changed}
use Rattle.certificate.proofs.Distinct.{behind-append}
use Rattle.certificate.proofs.Last.{above_blocks-last, may_bound_slot-last}
use Rattle.certificate.specs.Growths.{grown, grown_behind, grown_by, then_grown}
use Rattle.searcher.specs.Flat.{points_from}
use Rattle.instruction_set.specs.Programs.{Instruction}

-- a certificate without channels
abbrev pub of_points : Version → List PointBound → Certificate
of_points v points = record { version = v; points = points; channels = []; authorities = [] }

abbrev pub names : List PointBound → List (List ℕ)
names points = flat_map programs_of_block points

-- slots that name no program
unfoldable pub AllPlain : List Slot → Type 0
AllPlain [] = Unit {0}
AllPlain (s ∷ slots) = (programs_of_slot s ≡ []) × AllPlain slots

plain_programs : (slots : List Slot) → AllPlain slots → flat_map programs_of_slot slots ≡ []
unfolding AllPlain
plain_programs [] plain = refl
plain_programs (s ∷ slots) plain = let rest = plain_programs slots plain.1 in λ k. plain.0 k ++ rest k

plain_behind : (slots : List Slot) (s : Slot) → AllPlain slots → programs_of_slot s ≡ [] → AllPlain (slots ++ s ∷ [])
unfolding AllPlain
plain_behind [] s plain is = (is, tt)
plain_behind (t ∷ slots) s plain is = (plain.0, plain_behind slots s plain.1 is)

pub plain_closed : (slots : List Slot) (n : ℕ) → AllPlain slots → AllPlain (slots ++ copies n Closed)
unfolding AllPlain
plain_closed [] zero plain = tt
plain_closed [] (suc n) plain = (refl, plain_closed [] n tt)
plain_closed (s ∷ slots) n plain = (plain.0, plain_closed slots n plain.1)

-- the block of a bound with full registers
abbrev pub block_with : List ℕ → ℕ → ModeBound → List Slot → PointBound
block_with program point mode slots = record {
  program = program;
  point = point;
  bound = record { mode = mode; registers = copies 8 full_interval; slots = slots };
}

block_names : (program : List ℕ) (point : ℕ) (mode : ModeBound) (slots : List Slot) → AllPlain slots
    → programs_of_block (block_with program point mode slots) ≡ program ∷ []
block_names program point mode slots plain = ap (λ rest. program ∷ rest) (plain_programs slots plain)

names_behind : (points : List PointBound) (program : List ℕ) (point : ℕ) (mode : ModeBound) (slots : List Slot) → AllPlain slots
    → names (points ++ block_with program point mode slots ∷ []) ≡ names points ++ program ∷ []
names_behind points program point mode slots plain =
    flat_map-append programs_of_block points (block_with program point mode slots ∷ [])
    ∙ ap (λ rest. names points ++ (rest ++ [])) (block_names program point mode slots plain)

-- ROOM
abbrev few_names : List (List ℕ) → Bool
few_names list = nat_le (length (distinct bytes_eq list)) 8

few_classes : nat_le (length (distinct same_class [])) 32 ≡ true
unfolding distinct_behind
few_classes = refl

room_from : (program : List ℕ) (list : List (List ℕ)) → few_names list ≡ true → (few_names list && nat_le (length (distinct same_class [])) 32) ≡ true
room_from program list few = (λ k. few k && few_classes k)

begin_room : (v : Version) (points : List PointBound) (program : List ℕ) (point : ℕ) (mode : ModeBound) → few_names (names points ++ program ∷ []) ≡ true
    → has_room (of_points v points) (Begins_block program point mode) ≡ true
begin_room v points program point mode few =
    ap (λ list. few_names (list ++ program ∷ []) && nat_le (length (distinct same_class [])) 32) (append-nil (names points ++ []) ∙ append-nil (names points))
    ∙ room_from program (names points ++ program ∷ []) few

slot_room : (v : Version) (points : List PointBound) (program : List ℕ) (point : ℕ) (mode : ModeBound) (slots : List Slot) (n : ℕ) (s : Slot) → AllPlain slots
    → programs_of_slot s ≡ [] → few_names (names points ++ program ∷ []) ≡ true
    → has_room (of_points v (points ++ block_with program point mode slots ∷ [])) (Bounds_slot n s) ≡ true
slot_room v points program point mode slots n s plain is few =
    let all = names (points ++ block_with program point mode slots ∷ []) in
    let same : ((all ++ []) ++ []) ++ programs_of_slot s ≡ names points ++ program ∷ [] =
    ap (λ rest. ((all ++ []) ++ []) ++ rest) is ∙ append-nil ((all ++ []) ++ []) ∙ append-nil (all ++ []) ∙ append-nil all ∙ names_behind points program point mode slots plain in
    ap (λ list. few_names list && nat_le (length (distinct same_class [])) 32) same
    ∙ room_from program (names points ++ program ∷ []) few

is_taken : (c : Certificate) (line : Line) → has_room c line ≡ true → stands c line ≡ true → taken c line ≡ Ok (with_line c line)
unfolding taken
is_taken c line room stand =
    ap (λ b. if b then (if stands c line then Ok (with_line c line) else Err Out_of_order) else Err No_room) room
    ∙ ap (λ b. if b then Ok (with_line c line) else Err Out_of_order) stand

-- SLOTS
closed_copies : (n : ℕ) → all_from is_closed 0 (copies n Closed) ≡ true
unfolding all_from
closed_copies zero = refl
closed_copies (suc n) = closed_copies n

module _ (v : Version) (points : List PointBound) (program : List ℕ) (point : ℕ) (mode : ModeBound) (few : few_names (names points ++ program ∷ []) ≡ true) where
  abbrev state : List Slot → Certificate
  state slots = of_points v (points ++ block_with program point mode slots ∷ [])

  slot_taken : (done : List Slot) (n : ℕ) (s : Slot) → AllPlain done → programs_of_slot s ≡ []
      → taken (state (done ++ copies (suc n) Closed)) (Bounds_slot (length done) s) ≡ Ok (state ((done ++ s ∷ []) ++ copies n Closed))
  slot_taken done n s plain is =
      let slots = done ++ copies (suc n) Closed in
      let room = slot_room v points program point mode slots (length done) s (plain_closed done (suc n) plain) is few in
      let stand = may_bound_slot-last (length done) points (block_with program point mode slots) ∙ all_from_seam is_closed done (copies (suc n) Closed) ∙ closed_copies (suc n) in
      is_taken (state slots) (Bounds_slot (length done) s) room stand
      ∙ ap (λ list. Ok (of_points v list)) (last_changed (λ b. with_slot b (length done) s) points (block_with program point mode slots))
      ∙ ap (λ list. Ok (state list)) (set-append_seam done Closed (copies n Closed) s ∙ sym (append_assoc done (s ∷ []) (copies n Closed)))

  -- the slots of a block from one on, where the others are closed yet
  slots_grown : (done todo : List Slot) → AllPlain done → AllPlain todo
      → grown (slot_lines (length done) todo) (state (done ++ copies (length todo) Closed)) ≡ Some (state (done ++ todo))
  unfolding grown slot_lines AllPlain
  slots_grown done [] plain more = refl
  slots_grown done (Closed ∷ todo) plain more =
      let next = slots_grown (done ++ Closed ∷ []) todo (plain_behind done Closed plain refl) more.1 in
      (λ k. grown (slot_lines (sym (length_push done Closed) k) todo) (state (sym (append_assoc done (Closed ∷ []) (copies (length todo) Closed)) k)))
      ∙ next ∙ ap (λ list. Some (state list)) (append_assoc done (Closed ∷ []) todo)
  slots_grown done (Open h ∷ todo) plain more =
      let next = slots_grown (done ++ Open h ∷ []) todo (plain_behind done (Open h) plain more.0) more.1 in
      ap (grown_behind (grown (slot_lines (length done + 1) todo))) (slot_taken done (length todo) (Open h) plain more.0)
      ∙ (λ k. grown (slot_lines (sym (length_push done (Open h)) k) todo) (state ((done ++ Open h ∷ []) ++ copies (length todo) Closed)))
      ∙ next ∙ ap (λ list. Some (state list)) (append_assoc done (Open h ∷ []) todo)
  slots_grown done (Maybe h ∷ todo) plain more =
      let next = slots_grown (done ++ Maybe h ∷ []) todo (plain_behind done (Maybe h) plain more.0) more.1 in
      ap (grown_behind (grown (slot_lines (length done + 1) todo))) (slot_taken done (length todo) (Maybe h) plain more.0)
      ∙ (λ k. grown (slot_lines (sym (length_push done (Maybe h)) k) todo) (state ((done ++ Maybe h ∷ []) ++ copies (length todo) Closed)))
      ∙ next ∙ ap (λ list. Some (state list)) (append_assoc done (Maybe h ∷ []) todo)

  pub block_grown : (slots : List Slot) → length slots ≡ 16 → AllPlain slots → above_blocks points program point ≡ true
      → grown (block_lines (block_with program point mode slots)) (of_points v points) ≡ Some (state slots)
  unfolding grown register_lines AllPlain
  block_grown slots long plain above =
      ap (grown_behind (grown (slot_lines 0 slots))) (is_taken (of_points v points) (Begins_block program point mode) (begin_room v points program point mode few) above)
      ∙ ap (λ n. grown (slot_lines 0 slots) (state (copies n Closed))) (sym long)
      ∙ slots_grown [] slots tt plain

-- POINTS OF ONE PROGRAM
bytes_same : (xs : List ℕ) → bytes_eq xs xs ≡ true
bytes_same xs = (bytes_eq-Decides xs xs).1 refl

-- one name, so many times
known_again : (listed : List (List ℕ)) (n : ℕ) (x : List ℕ) → list_any (λ y. bytes_eq y x) listed ≡ true → distinct_behind bytes_eq listed (copies n x) ≡ listed
unfolding distinct_behind
known_again listed zero x is = refl
known_again listed (suc n) x is =
    ap (λ b. distinct_behind bytes_eq (if b then listed else listed ++ x ∷ []) (copies n x)) is ∙ known_again listed n x is

or_true : (b : Bool) → (b || true) ≡ true
or_true true = refl
or_true false = refl

known_last : (listed : List (List ℕ)) (x : List ℕ) → list_any (λ y. bytes_eq y x) (listed ++ x ∷ []) ≡ true
known_last listed x =
    list_any-append (λ y. bytes_eq y x) listed (x ∷ [])
    ∙ ap (λ b. list_any (λ y. bytes_eq y x) listed || (b || false)) (bytes_same x)
    ∙ or_true (list_any (λ y. bytes_eq y x) listed)

pub one_more : (listed : List (List ℕ)) (n : ℕ) (x : List ℕ) → length (distinct_behind bytes_eq listed (copies n x)) ≤ length listed + 1
unfolding distinct_behind
one_more listed zero x = omega arith
one_more listed (suc n) x = go (list_any (λ y. bytes_eq y x) listed) refl
  where
    go : (b : Bool) → list_any (λ y. bytes_eq y x) listed ≡ b → length (distinct_behind bytes_eq (if b then listed else listed ++ x ∷ []) (copies n x)) ≤ length listed + 1
    go true is = let same = ap length (known_again listed n x is) in omega (arith, same)
    go false is =
        let same = ap length (known_again (listed ++ x ∷ []) n x (known_last listed x)) in
        let long = length_push listed x in
        omega (arith, same, long)

-- a point before the next one of its program
same_name : (name : List ℕ) → slice_cmp nat_cmp name name ≡ Equal
same_name [] = refl
same_name (x ∷ xs) = ap (λ o. ordering_then o (slice_cmp nat_cmp xs xs)) (sym (nat_cmp_is x x Equal refl)) ∙ same_name xs

next_above : (points : List PointBound) (b : PointBound) → above_blocks (points ++ b ∷ []) b.program (b.point + 1) ≡ true
next_above points b =
    let less : b.point < b.point + 1 = omega arith in
    above_blocks-last b.program (b.point + 1) points b
    ∙ ap (λ o. is_lt (ordering_then o (nat_cmp b.point (b.point + 1)))) (same_name b.program)
    ∙ ap is_lt (sym (nat_cmp_is b.point (b.point + 1) Less less))

abbrev pub flat_of : ModeBound → List Slot → Bound
flat_of mode slots = record { mode = mode; registers = copies 8 full_interval; slots = slots }

module _ (name : List ℕ) (mode : ModeBound) (slots : List Slot) (long : length slots ≡ 16) (plain : AllPlain slots) where
  abbrev run : ℕ → List Instruction → List PointBound
  run point code = points_from name (flat_of mode slots) point code

  room_behind : (points : List PointBound) (point : ℕ) → ((k : ℕ) → few_names (names points ++ copies k name) ≡ true)
      → (k : ℕ) → few_names (names (points ++ block_with name point mode slots ∷ []) ++ copies k name) ≡ true
  room_behind points point room k =
      ap (λ list. few_names (list ++ copies k name)) (names_behind points name point mode slots plain)
      ∙ ap few_names (append_assoc (names points) (name ∷ []) (copies k name)) ∙ room (suc k)

  -- the points of a program from one on
  pub points_grown : (v : Version) (points : List PointBound) (point : ℕ) (code : List Instruction) → ((k : ℕ) → few_names (names points ++ copies k name) ≡ true)
      → above_blocks points name point ≡ true → grown_by (run point code) (of_points v points) ≡ Some (of_points v (points ++ run point code))
  unfolding grown_by points_from
  points_grown v points point [] room above = ap (λ list. Some (of_points v list)) (sym (append-nil points))
  points_grown v points point (i ∷ code) room above =
      let b = block_with name point mode slots in
      let next = points_grown v (points ++ b ∷ []) (point + 1) code (room_behind points point room) (next_above points b) in
      ap (then_grown (grown_by (run (point + 1) code))) (block_grown v points name point mode (room 1) slots long plain above)
      ∙ next ∙ ap (λ list. Some (of_points v list)) (append_assoc points (b ∷ []) (run (point + 1) code))

  -- their names
  pub run_names : (point : ℕ) (code : List Instruction) → names (run point code) ≡ copies (length code) name
  unfolding points_from
  run_names point [] = refl
  run_names point (i ∷ code) = (λ k. block_names name point mode slots plain k ++ run_names (point + 1) code k)

abbrev pub listed : List PointBound → List (List ℕ)
listed points = distinct bytes_eq (names points)

few_if : (n : ℕ) → n ≤ 8 → nat_le n 8 ≡ true
few_if n few = search (rules, few)

pub room_for : (points : List PointBound) (name : List ℕ) → length (listed points) + 1 ≤ 8 → (k : ℕ) → few_names (names points ++ copies k name) ≡ true
room_for points name few k =
    let more = one_more (listed points) k name in
    ap (λ list. nat_le (length list) 8) (behind-append bytes_eq [] (names points) (copies k name))
    ∙ few_if (length (distinct_behind bytes_eq (listed points) (copies k name))) (omega (arith, more, few))
