-- The programs that are named in what a line makes of a certificate.
use Rattle.std.proofs.Common.{◌≡◌, ◌<◌, ◌&&◌, ◌++◌, ◌∷◌, [], ℕ, zero, suc, true, List, length, set, refl, ap, sym, ◌∙◌, subst, append_assoc, arith}
use Rattle.std.specs.Prelude.{nat_lt}
use Rattle.std.specs.List.{flat_map}
use Rattle.std.specs.Str.{bytes_eq}
use Rattle.std.proofs.lemmas.List.{append-nil, length-set}
use Rattle.std.proofs.lemmas.Grind.{flat_map-append}
use Rattle.std.proofs.lemmas.Bool.Decides.{nat_tests}
use Rattle.rights.specs.Limits.{most_descriptors}
use Rattle.certificate.specs.Bounds.{Bound, Certificate, PointBound, Slot, Closed, Open, Maybe, held_in, with_interval, with_slot}
use Rattle.certificate.specs.Order.{same_class}
use Rattle.certificate.specs.Lines.{Line, Begins_block, Bounds_register, Bounds_slot, Bounds_channel, Begins_authority, Bounds_grant, Holds_end, are_numbered, is_closed, is_line, is_of_version}
use Rattle.certificate.specs.Lines.{has_names, is_numbered, is_proper}
use Rattle.certificate.specs.Growth.{IsCertificate, begins, grows, all_from, classes_of, distinct, may_bound_slot, on_last, programs_in_line, programs_named}
use Rattle.certificate.specs.Growth.{programs_of_authority, programs_of_block, programs_of_channel, programs_of_slot, stands, with_line}
use Rattle.certificate.proofs.Growing.{HasRoom, and_left, and_right, taken-back, taken_ok}
use Rattle.certificate.proofs.LastOnes.{behind_nothing}
use Rattle.certificate.proofs.Behind.{block_stands, classes_made, no_authorities, no_channels, rest_named}

-- Blocks have rows of sixteen slots.
abbrev IsRow : PointBound → Type 0
IsRow b = length b.bound.slots ≡ most_descriptors

abbrev AreRows : List PointBound → Type 0
AreRows [] = Unit {0}
AreRows (b ∷ points) = IsRow b × AreRows points

rows-push : (points : List PointBound) (b : PointBound) → AreRows points → IsRow b → AreRows (points ++ b ∷ [])
rows-push [] b rows row = (row, tt)
rows-push (a ∷ points) b rows row = (rows.0, rows-push points b rows.1 row)

rows-on_last : (f : Bound → Bound) → ((b : Bound) → length (f b).slots ≡ length b.slots) → (points : List PointBound) → AreRows points → AreRows (on_last f points)
unfolding on_last
rows-on_last f keeps [] rows = tt
rows-on_last f keeps (b ∷ []) rows = (keeps b.bound ∙ rows.0, tt)
rows-on_last f keeps (b ∷ c ∷ points) rows = (rows.0, rows-on_last f keeps (c ∷ points) rows.1)

rows-made : (c : Certificate) (line : Line) → AreRows c.points → AreRows (with_line c line).points
rows-made c (Begins_block program point mode) rows = rows-push c.points _ rows refl
rows-made c (Bounds_register register interval) rows = rows-on_last (λ b. with_interval b register interval) (λ b. refl) c.points rows
rows-made c (Bounds_slot number slot) rows = rows-on_last (λ b. with_slot b number slot) (λ b. length-set b.slots number slot) c.points rows
rows-made c (Bounds_channel channel) rows = rows
rows-made c (Begins_authority program) rows = rows
rows-made c (Bounds_grant ceiling) rows = rows
rows-made c (Holds_end held) rows = rows

rows : (c : Certificate) → IsCertificate c → AreRows c.points
rows _ (begins version) = tt
rows _ (grows {c} {d} valid line proper own took) =
    let is = taken-back c line d took in subst (λ (e : Certificate). AreRows e.points) is.made (rows-made c line (rows c valid))

-- A closed slot names nothing.
closed_names : (s : Slot) → is_closed s ≡ true → programs_of_slot s ≡ []
closed_names Closed closed = refl
closed_names (Open h) closed = absurd cc
closed_names (Maybe h) closed = absurd cc

all_closed : (slots : List Slot) → all_from is_closed 0 slots ≡ true → flat_map programs_of_slot slots ≡ []
unfolding all_from
all_closed [] closed = refl
all_closed (s ∷ slots) closed =
    let first = closed_names s (and_left (is_closed s) (all_from is_closed 0 slots) closed) in
    let rest = all_closed slots (and_right (is_closed s) (all_from is_closed 0 slots) closed) in
    ap (λ names. names ++ flat_map programs_of_slot slots) first ∙ rest

slots_set : (slots : List Slot) (n : ℕ) (s : Slot) → n < length slots → all_from is_closed n slots ≡ true
    → flat_map programs_of_slot (set slots n s) ≡ flat_map programs_of_slot slots ++ programs_of_slot s
unfolding all_from
slots_set [] n s within closed = absurd (omega arith)
slots_set (x ∷ slots) zero s within closed =
    let first = closed_names x (and_left (is_closed x) (all_from is_closed 0 slots) closed) in
    let rest = all_closed slots (and_right (is_closed x) (all_from is_closed 0 slots) closed) in
    let before : flat_map programs_of_slot (x ∷ slots) ≡ [] = ap (λ names. names ++ flat_map programs_of_slot slots) first ∙ rest in
    ap (λ names. programs_of_slot s ++ names) rest ∙ append-nil (programs_of_slot s) ∙ ap (λ names. names ++ programs_of_slot s) (sym before)
slots_set (x ∷ slots) (suc n) s within closed =
    let there : n < length slots = omega arith in
    ap (λ names. programs_of_slot x ++ names) (slots_set slots n s there closed)
    ∙ sym (append_assoc (programs_of_slot x) (flat_map programs_of_slot slots) (programs_of_slot s))

-- the blocks, with the last one changed
registers_on_last : (f : Bound → Bound) → ((b : Bound) → (f b).slots ≡ b.slots) → (points : List PointBound)
    → flat_map programs_of_block (on_last f points) ≡ flat_map programs_of_block points
unfolding on_last
registers_on_last f keeps [] = refl
registers_on_last f keeps (b ∷ []) = ap (λ slots. (b.program ∷ flat_map programs_of_slot slots) ++ []) (keeps b.bound)
registers_on_last f keeps (b ∷ c ∷ points) = ap (λ names. programs_of_block b ++ names) (registers_on_last f keeps (c ∷ points))

slots_on_last : (n : ℕ) (s : Slot) (points : List PointBound) → n < most_descriptors → AreRows points → may_bound_slot points n ≡ true
    → flat_map programs_of_block (on_last (λ b. with_slot b n s) points) ≡ flat_map programs_of_block points ++ programs_of_slot s
unfolding on_last may_bound_slot
slots_on_last n s [] within rows may = absurd cc
slots_on_last n s (b ∷ []) within rows may =
    let there : n < length b.bound.slots = subst (λ k. n < k) (sym rows.0) within in
    let names = slots_set b.bound.slots n s there may in
    ap (λ list. (b.program ∷ list) ++ []) names
    ∙ append-nil (b.program ∷ (flat_map programs_of_slot b.bound.slots ++ programs_of_slot s))
    ∙ ap (λ list. list ++ programs_of_slot s) (sym (append-nil (programs_of_block b)))
slots_on_last n s (b ∷ c ∷ points) within rows may =
    ap (λ names. programs_of_block b ++ names) (slots_on_last n s (c ∷ points) within rows.1 may)
    ∙ sym (append_assoc (programs_of_block b) (flat_map programs_of_block (c ∷ points)) (programs_of_slot s))

-- a block's names, where nothing stands behind blocks
in_blocks : (blocks more channels authorities : List (List ℕ)) → channels ≡ [] → authorities ≡ []
    → ((blocks ++ more) ++ channels) ++ authorities ≡ ((blocks ++ channels) ++ authorities) ++ more
in_blocks blocks more channels authorities no_channels no_authorities =
    ap (λ names. names ++ authorities) (behind_nothing blocks more channels no_channels)
    ∙ behind_nothing (blocks ++ channels) more authorities no_authorities

number_within : (n : ℕ) → nat_lt n most_descriptors ≡ true → n < most_descriptors
number_within n is = grind (arith, nat_tests, is)

slot_number : (n : ℕ) (s : Slot) → is_line (Bounds_slot n s) ≡ true → n < most_descriptors
slot_number n s proper =
    let numbered = and_right (has_names (Bounds_slot n s) && is_proper (Bounds_slot n s)) (is_numbered (Bounds_slot n s)) proper in
    number_within n (and_left (nat_lt n most_descriptors) (are_numbered (held_in s)) numbered)

pub programs_made : (c : Certificate) (line : Line) → IsCertificate c → is_line line ≡ true → stands c line ≡ true
    → programs_named (with_line c line) ≡ programs_named c ++ programs_in_line line
programs_made c (Begins_block program point mode) valid proper place =
    ap (λ names. names ++ flat_map programs_of_channel c.channels ++ flat_map programs_of_authority c.authorities) (flat_map-append programs_of_block c.points _)
    ∙ in_blocks (flat_map programs_of_block c.points) (program ∷ []) (flat_map programs_of_channel c.channels) (flat_map programs_of_authority c.authorities)
    (ap (flat_map programs_of_channel) (no_channels c _ place)) (ap (flat_map programs_of_authority) (no_authorities c _ place))
programs_made c (Bounds_register register interval) valid proper place =
    ap (λ names. names ++ flat_map programs_of_channel c.channels ++ flat_map programs_of_authority c.authorities)
    (registers_on_last (λ b. with_interval b register interval) (λ b. refl) c.points)
    ∙ sym (append-nil (programs_named c))
programs_made c (Bounds_slot number slot) valid proper place =
    ap (λ names. names ++ flat_map programs_of_channel c.channels ++ flat_map programs_of_authority c.authorities)
    (slots_on_last number slot c.points (slot_number number slot proper) (rows c valid) (block_stands c _ place))
    ∙ in_blocks (flat_map programs_of_block c.points) (programs_of_slot slot) (flat_map programs_of_channel c.channels) (flat_map programs_of_authority c.authorities)
    (ap (flat_map programs_of_channel) (no_channels c _ place)) (ap (flat_map programs_of_authority) (no_authorities c _ place))
programs_made c (Bounds_channel channel) valid proper place = rest_named c (Bounds_channel channel) refl place
programs_made c (Begins_authority program) valid proper place = rest_named c (Begins_authority program) refl place
programs_made c (Bounds_grant ceiling) valid proper place = rest_named c (Bounds_grant ceiling) refl place
programs_made c (Holds_end held) valid proper place = rest_named c (Holds_end held) refl place

-- a line that has room and its place makes a certificate, of which the same is listed
pub grown : (c d : Certificate) (line : Line) (names : List (List ℕ)) (classes : ℕ) → IsCertificate c → is_line line ≡ true → is_of_version c.version line ≡ true
    → HasRoom c line names classes → stands c line ≡ true → d ≡ with_line c line
    → IsCertificate d × (names ≡ distinct bytes_eq (programs_named d)) × (classes ≡ length (distinct same_class (classes_of d)))
grown c d line names classes valid proper own has place is =
    subst (λ e. IsCertificate e × (names ≡ distinct bytes_eq (programs_named e)) × (classes ≡ length (distinct same_class (classes_of e)))) (sym is) (
      grows valid line proper own (taken_ok c line has.room place),
      has.named ∙ ap (distinct bytes_eq) (sym (programs_made c line valid proper place)),
      has.counted ∙ ap (λ all. length (distinct same_class all)) (sym (classes_made c line place)),
    )
