-- Lines that make a certificate of nothing: the lines of blocks that fit it and rise, and then those behind blocks.
use Rattle.std.proofs.Common.{◌≡◌, ◌≤◌, ◌+◌, ◌++◌, ◌∷◌, [], Bool, true, false, ℕ, zero, suc, List, length, map, refl, ap, sym, ◌∙◌, append_assoc, append-nil, arith}
use Rattle.std.specs.Prelude.{◌==◌, nat_le, Some, Result, Ok, Err, if◌then◌else◌}
use Rattle.std.specs.List.{flat_map, list_all}
use Rattle.std.specs.Str.{bytes_eq}
use Rattle.std.proofs.lemmas.Bool.{eqb-true}
use Rattle.std.proofs.lemmas.Grind.{flat_map-append}
use Rattle.std.proofs.lemmas.List.{length_push, map-append}
use Rattle.std.proofs.lemmas.List.Folds.{list_all-append}
use Rattle.std.proofs.Math.Seq.{set-append_seam}
use Rattle.rights.specs.Limits.{most_descriptors, most_programs, register_count}
use Rattle.certificate.specs.Bounds.{ModeBound, Interval, Slot, Closed, Open, Maybe, Bound, PointBound, ChannelBound, Ceiling, End, Authority, Version, Certificate, full_interval, with_interval}
use Rattle.certificate.specs.Bounds.{with_slot}
use Rattle.certificate.specs.Order.{same_class}
use Rattle.certificate.specs.Lines.{Line, Begins_block, Bounds_register, Bounds_slot, Bounds_channel, Begins_authority, Bounds_grant, Holds_end, authority_lines, block_lines, is_closed, is_full}
use Rattle.certificate.specs.Lines.{register_lines, rest_lines, slot_lines}
use Rattle.certificate.specs.Growth.{Refused, above_blocks, all_from, classes_in_line, classes_of, copies, distinct, distinct_behind, most_classes, empty, on_last, programs_in_line, programs_named}
use Rattle.certificate.specs.Growth.{programs_of_authority, programs_of_block, programs_of_channel, programs_of_slot, stands, taken, with_line}
use Rattle.certificate.specs.Growths.{IsGrown, grown, grown_behind, then_grown}
use Rattle.certificate.specs.Rising.{places_of, precedes, rises}
use Rattle.certificate.proofs.Fewer.{among_both, among_split, are_among, is_among}
use Rattle.certificate.proofs.Fits.{among_block, among_blocks, is_fit, is_fit_point, is_fit_slot, room_for, slots_among}
use Rattle.certificate.proofs.Growing.{and_left, and_right, both_true, le_true, taken-back, taken_ok}
use Rattle.certificate.proofs.Behind.{is_behind_blocks, rest_named, rest_names}
use Rattle.certificate.proofs.Growths.{grown_append}
use Rattle.certificate.proofs.Last.{may_bound_register-last, may_bound_slot-last}
use Rattle.certificate.proofs.Rising.{rises_front}

pub all_from_seam : {A : Type 0} (test : A → Bool) (xs ys : List A) → all_from test (length xs) (xs ++ ys) ≡ all_from test 0 ys
unfolding all_from
all_from_seam test [] ys = refl
all_from_seam test (x ∷ xs) ys = all_from_seam test xs ys

all_copies : {A : Type 0} (test : A → Bool) (n : ℕ) (x : A) → test x ≡ true → all_from test 0 (copies n x) ≡ true
unfolding all_from
all_copies test zero x passes = refl
all_copies test (suc n) x passes = both_true (test x) (all_from test 0 (copies n x)) passes (all_copies test n x passes)

pub last_changed : (f : Bound → Bound) (points : List PointBound) (b : PointBound)
    → on_last f (points ++ b ∷ []) ≡ points ++ (record b { bound = f b.bound }) ∷ []
unfolding on_last
last_changed f [] b = refl
last_changed f (a ∷ []) b = refl
last_changed f (a ∷ c ∷ points) b = ap (λ rest. a ∷ rest) (last_changed f (c ∷ points) b)

-- what a block has that no line bounds
full_is : (i : Interval) → is_full i ≡ true → i ≡ full_interval
full_is i is =
    let low = eqb-true i.low full_interval.low (and_left (i.low == full_interval.low) (i.high == full_interval.high) is) in
    let high = eqb-true i.high full_interval.high (and_right (i.low == full_interval.low) (i.high == full_interval.high) is) in
    λ k. record { low = low k; high = high k }

closed_is : (s : Slot) → is_closed s ≡ true → s ≡ Closed
closed_is Closed is = refl
closed_is (Open h) is = absurd cc
closed_is (Maybe h) is = absurd cc

module _ (version : Version) (names : List (List ℕ)) (few : length (distinct bytes_eq names) ≤ most_programs) where
  abbrev of_points : List PointBound → Certificate
  of_points points = record { version = version; points = points; channels = []; authorities = [] }

  -- THE LINES OF A BLOCK, behind others
  module _ (before : List PointBound) (among : are_among names (flat_map programs_of_block before) ≡ true)
      (program : List ℕ) (point : ℕ) (mode : ModeBound) (own : is_among names program ≡ true) where
    abbrev block : List Interval → List Slot → PointBound
    block registers slots = record { program = program; point = point; bound = record { mode = mode; registers = registers; slots = slots } }

    abbrev state : List Interval → List Slot → Certificate
    state registers slots = of_points (before ++ block registers slots ∷ [])

    abbrev closed : List Slot
    closed = copies most_descriptors Closed

    state_among : (registers : List Interval) (slots : List Slot) → list_all (is_fit_slot names) slots ≡ true
        → are_among names (programs_named (state registers slots)) ≡ true
    state_among registers slots fit =
        let blocks = flat_map programs_of_block (before ++ block registers slots ∷ []) in
        ap (are_among names) (append-nil (blocks ++ []) ∙ append-nil blocks ∙ flat_map-append programs_of_block before (block registers slots ∷ []))
        ∙ among_both names (flat_map programs_of_block before) (programs_of_block (block registers slots) ++ []) among
        (ap (are_among names) (append-nil (programs_of_block (block registers slots)))
        ∙ both_true (is_among names program) (are_among names (flat_map programs_of_slot slots)) own (slots_among names slots fit))

    register_taken : (done : List Interval) (n : ℕ) (i : Interval)
        → taken (state (done ++ copies (suc n) full_interval) closed) (Bounds_register (length done) i)
        ≡ Ok (state (done ++ i ∷ copies n full_interval) closed)
    unfolding distinct_behind
    register_taken done n i =
        let registers = done ++ copies (suc n) full_interval in
        let room = room_for names few (state registers closed) (Bounds_register (length done) i) (state_among registers closed refl) refl (omega arith) in
        let full = all_from_seam is_full done (copies (suc n) full_interval) ∙ all_copies is_full (suc n) full_interval refl in
        let stand = may_bound_register-last (length done) before (block registers closed)
        ∙ both_true (all_from is_full (length done) registers) (all_from is_closed 0 closed) full (all_copies is_closed most_descriptors Closed refl) in
        taken_ok (state registers closed) (Bounds_register (length done) i) room stand
        ∙ ap (λ list. Ok (of_points list)) (last_changed (λ b. with_interval b (length done) i) before (block registers closed))
        ∙ ap (λ list. Ok (state list closed)) (set-append_seam done full_interval (copies n full_interval) i)

    slot_taken : (registers : List Interval) (done : List Slot) (n : ℕ) (s : Slot) → list_all (is_fit_slot names) done ≡ true → is_fit_slot names s ≡ true
        → taken (state registers (done ++ copies (suc n) Closed)) (Bounds_slot (length done) s) ≡ Ok (state registers (done ++ s ∷ copies n Closed))
    unfolding distinct_behind
    slot_taken registers done n s fit is =
        let slots = done ++ copies (suc n) Closed in
        let all = list_all-append (is_fit_slot names) done (copies (suc n) Closed)
        ∙ both_true (list_all (is_fit_slot names) done) (list_all (is_fit_slot names) (copies (suc n) Closed)) fit (closed_fit (suc n)) in
        let room = room_for names few (state registers slots) (Bounds_slot (length done) s) (state_among registers slots all) is (omega arith) in
        let stand = may_bound_slot-last (length done) before (block registers slots) ∙ all_from_seam is_closed done (copies (suc n) Closed)
        ∙ all_copies is_closed (suc n) Closed refl in
        taken_ok (state registers slots) (Bounds_slot (length done) s) room stand
        ∙ ap (λ list. Ok (of_points list)) (last_changed (λ b. with_slot b (length done) s) before (block registers slots))
        ∙ ap (λ list. Ok (state registers list)) (set-append_seam done Closed (copies n Closed) s)
      where
        closed_fit : (m : ℕ) → list_all (is_fit_slot names) (copies m Closed) ≡ true
        closed_fit zero = refl
        closed_fit (suc m) = closed_fit m

    -- the registers of a block from one on, where the others are full yet
    registers_grown : (done todo : List Interval)
        → grown (register_lines (length done) todo) (state (done ++ copies (length todo) full_interval) closed) ≡ Some (state (done ++ todo) closed)
    unfolding grown register_lines
    registers_grown done [] = refl
    registers_grown done (i ∷ todo) =
        go (is_full i) refl (
        (λ k. grown (register_lines (sym (length_push done i) k) todo) (state (sym (append_assoc done (i ∷ []) (copies (length todo) full_interval)) k) closed))
        ∙ registers_grown (done ++ i ∷ []) todo ∙ ap (λ list. Some (state list closed)) (append_assoc done (i ∷ []) todo)
        )
      where
        go : (b : Bool) → is_full i ≡ b
            → grown (register_lines (length done + 1) todo) (state (done ++ i ∷ copies (length todo) full_interval) closed)
            ≡ Some (state (done ++ i ∷ todo) closed)
            → grown (if b then register_lines (length done + 1) todo else Bounds_register (length done) i ∷ register_lines (length done + 1) todo)
            (state (done ++ full_interval ∷ copies (length todo) full_interval) closed) ≡ Some (state (done ++ i ∷ todo) closed)
        go true is rest =
            ap (λ j. grown (register_lines (length done + 1) todo) (state (done ++ j ∷ copies (length todo) full_interval) closed)) (sym (full_is i is))
            ∙ rest
        go false is rest = ap (grown_behind (grown (register_lines (length done + 1) todo))) (register_taken done (length todo) i) ∙ rest

    -- the slots of a block from one on, where the others are closed yet
    slots_grown : (registers : List Interval) (done todo : List Slot) → list_all (is_fit_slot names) done ≡ true → list_all (is_fit_slot names) todo ≡ true
        → grown (slot_lines (length done) todo) (state registers (done ++ copies (length todo) Closed)) ≡ Some (state registers (done ++ todo))
    unfolding grown slot_lines
    slots_grown registers done [] fit more = refl
    slots_grown registers done (s ∷ todo) fit more =
        let own = and_left (is_fit_slot names s) (list_all (is_fit_slot names) todo) more in
        let others = and_right (is_fit_slot names s) (list_all (is_fit_slot names) todo) more in
        let pushed = list_all-append (is_fit_slot names) done (s ∷ [])
        ∙ both_true (list_all (is_fit_slot names) done) (list_all (is_fit_slot names) (s ∷ [])) fit (both_true (is_fit_slot names s) true own refl) in
        go own (is_closed s) refl (
        (λ k. grown (slot_lines (sym (length_push done s) k) todo) (state registers (sym (append_assoc done (s ∷ []) (copies (length todo) Closed)) k)))
        ∙ slots_grown registers (done ++ s ∷ []) todo pushed others ∙ ap (λ list. Some (state registers list)) (append_assoc done (s ∷ []) todo)
        )
      where
        go : is_fit_slot names s ≡ true → (b : Bool) → is_closed s ≡ b
            → grown (slot_lines (length done + 1) todo) (state registers (done ++ s ∷ copies (length todo) Closed))
            ≡ Some (state registers (done ++ s ∷ todo))
            → grown (if b then slot_lines (length done + 1) todo else Bounds_slot (length done) s ∷ slot_lines (length done + 1) todo)
            (state registers (done ++ Closed ∷ copies (length todo) Closed)) ≡ Some (state registers (done ++ s ∷ todo))
        go own true is rest =
            ap (λ t. grown (slot_lines (length done + 1) todo) (state registers (done ++ t ∷ copies (length todo) Closed))) (sym (closed_is s is)) ∙ rest
        go own false is rest = ap (grown_behind (grown (slot_lines (length done + 1) todo))) (slot_taken registers done (length todo) s fit own) ∙ rest

    rows_grown : (registers : List Interval) (slots : List Slot) → length registers ≡ register_count → length slots ≡ most_descriptors
        → list_all (is_fit_slot names) slots ≡ true
        → grown (register_lines 0 registers ++ slot_lines 0 slots) (state (copies register_count full_interval) closed) ≡ Some (state registers slots)
    rows_grown registers slots eight sixteen fit =
        grown_append (register_lines 0 registers) (slot_lines 0 slots) (state (copies register_count full_interval) closed)
        ∙ ap (then_grown (grown (slot_lines 0 slots)))
        (ap (λ n. grown (register_lines 0 registers) (state (copies n full_interval) closed)) (sym eight) ∙ registers_grown [] registers)
        ∙ ap (λ n. grown (slot_lines 0 slots) (state registers (copies n Closed))) (sym sixteen) ∙ slots_grown registers [] slots refl fit

  -- A BLOCK that fits, and stands above those before it
  block_grown : (before : List PointBound) (b : PointBound) → are_among names (flat_map programs_of_block before) ≡ true → is_fit_point names b ≡ true
      → above_blocks before b.program b.point ≡ true → grown (block_lines b) (of_points before) ≡ Some (of_points (before ++ b ∷ []))
  unfolding grown distinct_behind
  block_grown before b among fit above =
      let own = and_left (is_among names b.program) (is_fit names b.bound) fit in
      let bound = and_right (is_among names b.program) (is_fit names b.bound) fit in
      let rest = and_right (length b.bound.registers == register_count) _ bound in
      let eight = eqb-true (length b.bound.registers) register_count (and_left (length b.bound.registers == register_count) _ bound) in
      let sixteen = eqb-true (length b.bound.slots) most_descriptors (and_left (length b.bound.slots == most_descriptors) _ rest) in
      let slots = and_right (length b.bound.slots == most_descriptors) (list_all (is_fit_slot names) b.bound.slots) rest in
      let blocks = flat_map programs_of_block before in
      let all = ap (are_among names) (append-nil (blocks ++ []) ∙ append-nil blocks) ∙ among in
      let named = both_true (is_among names b.program) true own refl in
      let room = room_for names few (of_points before) (Begins_block b.program b.point b.bound.mode) all named (omega arith) in
      ap (grown_behind (grown (register_lines 0 b.bound.registers ++ slot_lines 0 b.bound.slots)))
      (taken_ok (of_points before) (Begins_block b.program b.point b.bound.mode) room above)
      ∙ rows_grown before among b.program b.point b.bound.mode own b.bound.registers b.bound.slots eight sixteen slots

  above_all : (points : List PointBound) (program : List ℕ) (point : ℕ) → list_all (λ a. precedes a (program, point)) (places_of points) ≡ true
      → above_blocks points program point ≡ true
  unfolding above_blocks
  above_all [] program point all = refl
  above_all (b ∷ []) program point all = and_left (precedes (b.program, b.point) (program, point)) true all
  above_all (b ∷ d ∷ points) program point all =
      above_all (d ∷ points) program point
      (and_right (precedes (b.program, b.point) (program, point)) (list_all (λ a. precedes a (program, point)) (places_of (d ∷ points))) all)

  points_grown : (before after : List PointBound) → are_among names (flat_map programs_of_block before) ≡ true → list_all (is_fit_point names) after ≡ true
      → rises (places_of (before ++ after)) ≡ true → grown (flat_map block_lines after) (of_points before) ≡ Some (of_points (before ++ after))
  unfolding grown
  points_grown before [] among fit up = ap (λ points. Some (of_points points)) (sym (append-nil before))
  points_grown before (b ∷ after) among fit up =
      let own = and_left (is_fit_point names b) (list_all (is_fit_point names) after) fit in
      let others = and_right (is_fit_point names b) (list_all (is_fit_point names) after) fit in
      let seam = ap rises (sym (map-append (λ (a : PointBound). (a.program, a.point)) before (b ∷ after))) ∙ up in
      let above = above_all before b.program b.point (rises_front (places_of before) (places_of after) (b.program, b.point) seam).1 in
      let pushed = ap (are_among names) (flat_map-append programs_of_block before (b ∷ []))
      ∙ among_both names (flat_map programs_of_block before) (programs_of_block b ++ []) among
      (ap (are_among names) (append-nil (programs_of_block b)) ∙ among_block names b own) in
      grown_append (block_lines b) (flat_map block_lines after) (of_points before)
      ∙ ap (then_grown (grown (flat_map block_lines after))) (block_grown before b among own above)
      ∙ points_grown (before ++ b ∷ []) after pushed others (ap (λ points. rises (places_of points)) (append_assoc before (b ∷ []) after) ∙ up)
      ∙ ap (λ points. Some (of_points points)) (append_assoc before (b ∷ []) after)

-- THE LINES BEHIND BLOCKS are taken behind other blocks too, and in another version.
abbrev pub beside : Version → List PointBound → Certificate → Certificate
beside version points c = record c { version = version; points = points }

module _ (version : Version) (points : List PointBound) where
  stands_beside : (c : Certificate) (line : Line) → is_behind_blocks line ≡ true → stands (beside version points c) line ≡ stands c line
  stands_beside c (Begins_block program point mode) behind = absurd cc
  stands_beside c (Bounds_register register interval) behind = absurd cc
  stands_beside c (Bounds_slot number slot) behind = absurd cc
  stands_beside c (Bounds_channel channel) behind = refl
  stands_beside c (Begins_authority program) behind = refl
  stands_beside c (Bounds_grant ceiling) behind = refl
  stands_beside c (Holds_end held) behind = refl

  made_beside : (c : Certificate) (line : Line) → is_behind_blocks line ≡ true
      → with_line (beside version points c) line ≡ beside version points (with_line c line)
  made_beside c (Begins_block program point mode) behind = absurd cc
  made_beside c (Bounds_register register interval) behind = absurd cc
  made_beside c (Bounds_slot number slot) behind = absurd cc
  made_beside c (Bounds_channel channel) behind = refl
  made_beside c (Begins_authority program) behind = refl
  made_beside c (Bounds_grant ceiling) behind = refl
  made_beside c (Holds_end held) behind = refl

  module _ (names : List (List ℕ)) (few : length (distinct bytes_eq names) ≤ most_programs) where
    pub taken_beside : (c d : Certificate) (line : Line) → is_behind_blocks line ≡ true → taken c line ≡ Ok d
        → are_among names (programs_named (beside version points c)) ≡ true → are_among names (programs_in_line line) ≡ true
        → taken (beside version points c) line ≡ Ok (beside version points d)
    taken_beside c d line behind took all own =
        let is = taken-back c line d took in
        let classes = le_true _ _ (and_right (nat_le (length (distinct bytes_eq (programs_named c ++ programs_in_line line))) most_programs)
        (nat_le (length (distinct same_class (classes_of c ++ classes_in_line line))) most_classes) is.room) in
        taken_ok (beside version points c) line (room_for names few (beside version points c) line all own classes) (stands_beside c line behind ∙ is.place)
        ∙ ap Ok (made_beside c line behind ∙ ap (beside version points) is.made)

    pub rest_grown : (lines : List Line) (c d : Certificate) → list_all is_behind_blocks lines ≡ true → grown lines c ≡ Some d
        → are_among names (programs_named (beside version points c)) ≡ true → are_among names (flat_map programs_in_line lines) ≡ true
        → grown lines (beside version points c) ≡ Some (beside version points d)
    unfolding grown
    rest_grown [] c d behind grew all own = let same : c ≡ d = cc in ap (λ e. Some (beside version points e)) same
    rest_grown (line ∷ lines) c d behind grew all own =
        go (taken c line) refl grew
        (λ e. rest_grown lines e d (and_right (is_behind_blocks line) (list_all is_behind_blocks lines) behind))
      where
        first : is_behind_blocks line ≡ true
        first = and_left (is_behind_blocks line) (list_all is_behind_blocks lines) behind

        names_apart : (are_among names (programs_in_line line) ≡ true) × (are_among names (flat_map programs_in_line lines) ≡ true)
        names_apart = among_split names (programs_in_line line) (flat_map programs_in_line lines) own

        go : (r : Result Certificate Refused) → taken c line ≡ r → grown_behind (grown lines) r ≡ Some d
            → ((e : Certificate) → grown lines e ≡ Some d → are_among names (programs_named (beside version points e)) ≡ true
            → are_among names (flat_map programs_in_line lines) ≡ true → grown lines (beside version points e) ≡ Some (beside version points d))
            → grown_behind (grown lines) (taken (beside version points c) line) ≡ Some (beside version points d)
        go (Err refused) took more rest = absurd cc
        go (Ok e) took more rest =
            let is = taken-back c line e took in
            let stood = stands_beside c line first ∙ is.place in
            let named = ap (λ (f : Certificate). programs_named f) (sym (made_beside c line first ∙ ap (beside version points) is.made))
            ∙ rest_named (beside version points c) line first stood in
            ap (grown_behind (grown lines)) (taken_beside c e line first took all names_apart.0)
            ∙ rest e more
            (ap (are_among names) named ∙ among_both names (programs_named (beside version points c)) (programs_in_line line) all names_apart.0) names_apart.1

-- they stand behind blocks
channels_behind : (channels : List ChannelBound) → list_all is_behind_blocks (map Bounds_channel channels) ≡ true
channels_behind [] = refl
channels_behind (channel ∷ channels) = channels_behind channels

ceilings_behind : (ceilings : List Ceiling) → list_all is_behind_blocks (map Bounds_grant ceilings) ≡ true
ceilings_behind [] = refl
ceilings_behind (ceiling ∷ ceilings) = ceilings_behind ceilings

ends_behind : (holds : List End) → list_all is_behind_blocks (map Holds_end holds) ≡ true
ends_behind [] = refl
ends_behind (held ∷ holds) = ends_behind holds

authorities_behind : (authorities : List Authority) → list_all is_behind_blocks (flat_map authority_lines authorities) ≡ true
authorities_behind [] = refl
authorities_behind (a ∷ authorities) =
    list_all-append is_behind_blocks (authority_lines a) (flat_map authority_lines authorities)
    ∙ both_true (list_all is_behind_blocks (authority_lines a)) (list_all is_behind_blocks (flat_map authority_lines authorities))
    (list_all-append is_behind_blocks (map Bounds_grant a.ceilings) (map Holds_end a.holds)
    ∙ both_true (list_all is_behind_blocks (map Bounds_grant a.ceilings)) (list_all is_behind_blocks (map Holds_end a.holds)) (ceilings_behind a.ceilings) (ends_behind a.holds))
    (authorities_behind authorities)

rest_behind : (c : Certificate) → list_all is_behind_blocks (rest_lines c) ≡ true
rest_behind c =
    list_all-append is_behind_blocks (map Bounds_channel c.channels) (flat_map authority_lines c.authorities)
    ∙ both_true (list_all is_behind_blocks (map Bounds_channel c.channels)) (list_all is_behind_blocks (flat_map authority_lines c.authorities))
    (channels_behind c.channels) (authorities_behind c.authorities)

-- A CERTIFICATE that its own lines make, where its blocks fit it and rise, and those behind them are taken
pub record Fits (names : List (List ℕ)) (c : Certificate) : Type 0 where
  pub few : length (distinct bytes_eq names) ≤ most_programs
  pub fit : list_all (is_fit_point names) c.points ≡ true
  pub up : rises (places_of c.points) ≡ true
  pub among : are_among names (flat_map programs_of_channel c.channels) ≡ true
  pub holders : are_among names (flat_map programs_of_authority c.authorities) ≡ true
  pub rest : (version : Version) → grown (rest_lines c) (empty version) ≡ Some (beside version [] c)

pub makes_itself : (names : List (List ℕ)) (c : Certificate) → Fits names c → IsGrown c
makes_itself names c fits =
    let blocks = among_blocks names c.points fits.fit in
    let all = ap (are_among names) (append-nil (flat_map programs_of_block c.points ++ []) ∙ append-nil (flat_map programs_of_block c.points)) ∙ blocks in
    let own = ap (are_among names) (rest_names c)
    ∙ among_both names (flat_map programs_of_channel c.channels) (flat_map programs_of_authority c.authorities) fits.among fits.holders in
    grown_append (flat_map block_lines c.points) (rest_lines c) (empty c.version)
    ∙ ap (then_grown (grown (rest_lines c))) (points_grown c.version names fits.few [] c.points refl fits.fit fits.up)
    ∙ rest_grown c.version c.points names fits.few (rest_lines c) (empty c.version) (beside c.version [] c) (rest_behind c) (fits.rest c.version) all own
