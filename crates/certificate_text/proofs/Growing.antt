-- A certificate that takes a line has that line as its last one.
use Rattle.std.proofs.Common.{◌≡◌, ℕ, zero, suc, ◌+◌, ◌<◌, Bool, true, false, not, cond, List, [], ◌∷◌, ◌++◌, length, map}
use Rattle.std.proofs.Common.{refl, ap, sym, ◌∙◌, subst, append_assoc, append-nil, arith}
use Rattle.std.specs.Prelude.{slice_set, nat_lt, Ok, Err}
use Rattle.std.specs.List.{flat_map}
use Rattle.std.proofs.lemmas.Bool.{and_parts, ltb-true}
use Rattle.std.proofs.lemmas.Grind.{flat_map-append}
use Rattle.std.proofs.lemmas.List.{length-set}
use Rattle.rights.proofs.Tests.{not_true}
use Rattle.certificate.specs.Bounds.{Interval, Slot, Bound, PointBound, ModeBound, Certificate, with_interval, with_slot, Closed, Open, Maybe}
use Rattle.certificate.specs.Growth.{IsCertificate, begins, grows, all_from, has_room, may_bound_register, may_bound_slot, on_last, open_bound, No_room, Out_of_order, stands}
use Rattle.certificate.specs.Growth.{taken, with_line}
use Rattle.certificate.proofs.LastOnes.{behind_nothing}
use Rattle.certificate.proofs.Behind.{block_stands, is_behind_blocks, no_authorities, no_channels, rest_grows}
use Rattle.certificate.specs.Lines.{Line, Begins_block, Bounds_register, Bounds_slot, Bounds_channel, Begins_authority, Bounds_grant, Holds_end, authority_lines, block_lines, is_bound_slot}
use Rattle.certificate.specs.Lines.{is_closed, is_full, is_line, lines_of, register_lines, rest_lines}
use Rattle.certificate.specs.Lines.{slot_lines}

-- each block has eight registers and sixteen slots
AreWhole : List PointBound → Type 0
AreWhole [] = Unit {0}
AreWhole (b ∷ points) = (length b.bound.registers ≡ 8) × (length b.bound.slots ≡ 16) × AreWhole points

whole-behind : (points : List PointBound) (b : PointBound) → AreWhole points → length b.bound.registers ≡ 8 → length b.bound.slots ≡ 16 → AreWhole (points ++ b ∷ [])
unfolding AreWhole
whole-behind [] b whole registers slots = (registers, slots, tt)
whole-behind (a ∷ points) b whole registers slots = (whole.0, whole.1, whole-behind points b whole.2 registers slots)

-- a change of the last block that keeps how many registers and slots it has
whole-last : (f : Bound → Bound) (points : List PointBound) → ((b : Bound) → length (f b).registers ≡ length b.registers) → ((b : Bound) → length (f b).slots ≡ length b.slots)
    → AreWhole points → AreWhole (on_last f points)
unfolding AreWhole on_last
whole-last f [] registers slots whole = tt
whole-last f (b ∷ []) registers slots whole = (registers b.bound ∙ whole.0, slots b.bound ∙ whole.1, tt)
whole-last f (b ∷ c ∷ points) registers slots whole = (whole.0, whole.1, whole-last f (c ∷ points) registers slots whole.2)

-- what is so when a line is taken
pub taken-is : (c d : Certificate) (line : Line) → taken c line ≡ Ok d → (stands c line ≡ true) × (with_line c line ≡ d)
unfolding taken
taken-is c d line is = go (has_room c line) (stands c line) refl is
  where
    go : (room place : Bool) → stands c line ≡ place
        → cond room (cond place (Ok (with_line c line)) (Err Out_of_order)) (Err No_room) ≡ Ok d → (stands c line ≡ true) × (with_line c line ≡ d)
    go false place stand is = absurd cc
    go true false stand is = absurd cc
    go true true stand is = (stand, cc)

whole-with : (c : Certificate) (line : Line) → AreWhole c.points → AreWhole (with_line c line).points
whole-with c (Begins_block program point mode) whole = whole-behind c.points (record { program = program; point = point; bound = open_bound mode }) whole refl refl
whole-with c (Bounds_register register interval) whole =
    whole-last (λ b. with_interval b register interval) c.points (λ b. length-set b.registers register interval) (λ b. refl) whole
whole-with c (Bounds_slot number slot) whole =
    whole-last (λ b. with_slot b number slot) c.points (λ b. refl) (λ b. length-set b.slots number slot) whole
whole-with c (Bounds_channel channel) whole = whole
whole-with c (Begins_authority program) whole = whole
whole-with c (Bounds_grant ceiling) whole = whole
whole-with c (Holds_end held) whole = whole

-- All blocks of a certificate are whole.
whole : (c : Certificate) → IsCertificate c → AreWhole c.points
unfolding AreWhole
whole _ (begins version) = tt
whole d (grows {c = c} is line proper own take) =
    let made = (taken-is c d line take).1 in
    subst (λ e. AreWhole e.points) made (whole-with c line (whole c is))

-- REGISTERS

full-registers : (base : ℕ) (registers : List Interval) → all_from is_full 0 registers ≡ true → register_lines base registers ≡ []
unfolding all_from register_lines
full-registers base [] full = refl
full-registers base (i ∷ registers) full =
    let each = and_parts (is_full i) (all_from is_full 0 registers) full in
    ap (λ b. cond b (register_lines (base + 1) registers) (Bounds_register base i ∷ register_lines (base + 1) registers)) each.0
    ∙ full-registers (base + 1) registers each.1

-- a register that isn't full, where all from it on are full
registers-more : (base n : ℕ) (registers : List Interval) (i : Interval) → n < length registers → all_from is_full n registers ≡ true → is_full i ≡ false
    → register_lines base (slice_set registers n i) ≡ register_lines base registers ++ Bounds_register (base + n) i ∷ []
unfolding all_from register_lines
registers-more base n [] i within full other = absurd (omega (arith, within))
registers-more base zero (j ∷ registers) i within full other =
    let each = and_parts (is_full j) (all_from is_full 0 registers) full in
    let left = register_lines (base + 1) registers in
    let none : left ≡ [] = full-registers (base + 1) registers each.1 in
    let at : base ≡ base + 0 = omega arith in
    ap (λ b. cond b left (Bounds_register base i ∷ left)) other
    ∙ (λ k. Bounds_register (at k) i ∷ none k)
    ∙ sym (ap (λ b. cond b left (Bounds_register base j ∷ left) ++ Bounds_register (base + 0) i ∷ []) each.0 ∙ ap (λ rest. rest ++ Bounds_register (base + 0) i ∷ []) none)
registers-more base (suc n) (j ∷ registers) i within full other =
    go (is_full j)
    (registers-more (base + 1) n registers i (omega (arith, within)) full other ∙ ap (λ at. register_lines (base + 1) registers ++ Bounds_register at i ∷ []) behind)
  where
    behind : base + 1 + n ≡ base + suc n
    behind = omega arith

    go : (b : Bool) → register_lines (base + 1) (slice_set registers n i) ≡ register_lines (base + 1) registers ++ Bounds_register (base + suc n) i ∷ []
        → cond b (register_lines (base + 1) (slice_set registers n i)) (Bounds_register base j ∷ register_lines (base + 1) (slice_set registers n i))
        ≡ cond b (register_lines (base + 1) registers) (Bounds_register base j ∷ register_lines (base + 1) registers) ++ Bounds_register (base + suc n) i ∷ []
    go true more = more
    go false more = ap (λ rest. Bounds_register base j ∷ rest) more

-- SLOTS

closed-slots : (base : ℕ) (slots : List Slot) → all_from is_closed 0 slots ≡ true → slot_lines base slots ≡ []
unfolding all_from slot_lines
closed-slots base [] closed = refl
closed-slots base (s ∷ slots) closed =
    let each = and_parts (is_closed s) (all_from is_closed 0 slots) closed in
    ap (λ b. cond b (slot_lines (base + 1) slots) (Bounds_slot base s ∷ slot_lines (base + 1) slots)) each.0
    ∙ closed-slots (base + 1) slots each.1

-- a slot that isn't closed, where all from it on are closed
slots-more : (base n : ℕ) (slots : List Slot) (s : Slot) → n < length slots → all_from is_closed n slots ≡ true → is_closed s ≡ false
    → slot_lines base (slice_set slots n s) ≡ slot_lines base slots ++ Bounds_slot (base + n) s ∷ []
unfolding all_from slot_lines
slots-more base n [] s within closed other = absurd (omega (arith, within))
slots-more base zero (t ∷ slots) s within closed other =
    let each = and_parts (is_closed t) (all_from is_closed 0 slots) closed in
    let left = slot_lines (base + 1) slots in
    let none : left ≡ [] = closed-slots (base + 1) slots each.1 in
    let at : base ≡ base + 0 = omega arith in
    ap (λ b. cond b left (Bounds_slot base s ∷ left)) other
    ∙ (λ k. Bounds_slot (at k) s ∷ none k)
    ∙ sym (ap (λ b. cond b left (Bounds_slot base t ∷ left) ++ Bounds_slot (base + 0) s ∷ []) each.0 ∙ ap (λ rest. rest ++ Bounds_slot (base + 0) s ∷ []) none)
slots-more base (suc n) (t ∷ slots) s within closed other =
    go (is_closed t)
    (slots-more (base + 1) n slots s (omega (arith, within)) closed other ∙ ap (λ at. slot_lines (base + 1) slots ++ Bounds_slot at s ∷ []) behind)
  where
    behind : base + 1 + n ≡ base + suc n
    behind = omega arith

    go : (b : Bool) → slot_lines (base + 1) (slice_set slots n s) ≡ slot_lines (base + 1) slots ++ Bounds_slot (base + suc n) s ∷ []
        → cond b (slot_lines (base + 1) (slice_set slots n s)) (Bounds_slot base t ∷ slot_lines (base + 1) (slice_set slots n s))
        ≡ cond b (slot_lines (base + 1) slots) (Bounds_slot base t ∷ slot_lines (base + 1) slots) ++ Bounds_slot (base + suc n) s ∷ []
    go true more = more
    go false more = ap (λ rest. Bounds_slot base t ∷ rest) more

-- BLOCKS

-- a block with a register more that isn't full
block-register : (b : PointBound) (n : ℕ) (i : Interval) → length b.bound.registers ≡ 8 → n < 8 → all_from is_full n b.bound.registers ≡ true →
    all_from is_closed 0 b.bound.slots ≡ true
    → is_full i ≡ false → block_lines (record b { bound = with_interval b.bound n i }) ≡ block_lines b ++ Bounds_register n i ∷ []
block-register b n i long within full closed other = ap (λ rest. Begins_block b.program b.point b.bound.mode ∷ rest) (
    (λ k. more k ++ none k) ∙ append-nil (before ++ Bounds_register n i ∷ [])
    ∙ ap (λ lines. lines ++ Bounds_register n i ∷ []) (sym (append-nil before) ∙ ap (λ slots. before ++ slots) (sym none))
    )
  where
    before : List Line
    before = register_lines 0 b.bound.registers

    none : slot_lines 0 b.bound.slots ≡ []
    none = closed-slots 0 b.bound.slots closed

    first : 0 + n ≡ n
    first = omega arith

    more : register_lines 0 (slice_set b.bound.registers n i) ≡ register_lines 0 b.bound.registers ++ Bounds_register n i ∷ []
    more = registers-more 0 n b.bound.registers i (omega (arith, long, within)) full other ∙ ap (λ at. register_lines 0 b.bound.registers ++ Bounds_register at i ∷ []) first

-- a block with a slot more that isn't closed
block-slot : (b : PointBound) (n : ℕ) (s : Slot) → length b.bound.slots ≡ 16 → n < 16 → all_from is_closed n b.bound.slots ≡ true
    → is_closed s ≡ false → block_lines (record b { bound = with_slot b.bound n s }) ≡ block_lines b ++ Bounds_slot n s ∷ []
block-slot b n s long within closed other = ap (λ rest. Begins_block b.program b.point b.bound.mode ∷ rest) (
    ap (λ slots. register_lines 0 b.bound.registers ++ slots) more
    ∙ sym (append_assoc (register_lines 0 b.bound.registers) (slot_lines 0 b.bound.slots) (Bounds_slot n s ∷ []))
    )
  where
    first : 0 + n ≡ n
    first = omega arith

    more : slot_lines 0 (slice_set b.bound.slots n s) ≡ slot_lines 0 b.bound.slots ++ Bounds_slot n s ∷ []
    more = slots-more 0 n b.bound.slots s (omega (arith, long, within)) closed other ∙ ap (λ at. slot_lines 0 b.bound.slots ++ Bounds_slot at s ∷ []) first

-- lines of the last block
one-more : (a b : List Line) (line : Line) → a ≡ b ++ line ∷ [] → a ++ [] ≡ (b ++ []) ++ line ∷ []
one-more a b line more = append-nil a ∙ more ∙ ap (λ lines. lines ++ line ∷ []) (sym (append-nil b))

blocks-register : (points : List PointBound) (n : ℕ) (i : Interval) → AreWhole points → n < 8 → may_bound_register points n ≡ true → is_full i ≡ false
    → flat_map block_lines (on_last (λ b. with_interval b n i) points) ≡ flat_map block_lines points ++ Bounds_register n i ∷ []
unfolding AreWhole may_bound_register on_last
blocks-register [] n i whole within may other = absurd cc
blocks-register (b ∷ []) n i whole within may other =
    let each = and_parts (all_from is_full n b.bound.registers) (all_from is_closed 0 b.bound.slots) may in
    one-more (block_lines (record b { bound = with_interval b.bound n i })) (block_lines b) (Bounds_register n i) (block-register b n i whole.0 within each.0 each.1 other)
blocks-register (b ∷ c ∷ points) n i whole within may other =
    ap (λ rest. block_lines b ++ rest) (blocks-register (c ∷ points) n i whole.2 within may other)
    ∙ sym (append_assoc (block_lines b) (flat_map block_lines (c ∷ points)) (Bounds_register n i ∷ []))

blocks-slot : (points : List PointBound) (n : ℕ) (s : Slot) → AreWhole points → n < 16 → may_bound_slot points n ≡ true → is_closed s ≡ false
    → flat_map block_lines (on_last (λ b. with_slot b n s) points) ≡ flat_map block_lines points ++ Bounds_slot n s ∷ []
unfolding AreWhole may_bound_slot on_last
blocks-slot [] n s whole within may other = absurd cc
blocks-slot (b ∷ []) n s whole within may other =
    one-more (block_lines (record b { bound = with_slot b.bound n s })) (block_lines b) (Bounds_slot n s) (block-slot b n s whole.1 within may other)
blocks-slot (b ∷ c ∷ points) n s whole within may other =
    ap (λ rest. block_lines b ++ rest) (blocks-slot (c ∷ points) n s whole.2 within may other)
    ∙ sym (append_assoc (block_lines b) (flat_map block_lines (c ∷ points)) (Bounds_slot n s ∷ []))

blocks-begin : (points : List PointBound) (program : List ℕ) (point : ℕ) (mode : ModeBound)
    → flat_map block_lines (points ++ (record { program = program; point = point; bound = open_bound mode }) ∷ []) ≡ flat_map block_lines points ++ Begins_block program point mode ∷ []
unfolding register_lines slot_lines
blocks-begin points program point mode = flat_map-append block_lines points ((record { program = program; point = point; bound = open_bound mode }) ∷ [])

-- CERTIFICATES

-- where nothing stands behind blocks, a line of the blocks is the last one
behind-blocks : (before after rest : List Line) (line : Line) → rest ≡ [] → after ≡ before ++ line ∷ [] → after ++ rest ≡ (before ++ rest) ++ line ∷ []
behind-blocks before after rest line nothing more = ap (λ lines. lines ++ rest) more ∙ behind_nothing before (line ∷ []) rest nothing

no-rest : (c : Certificate) → c.channels ≡ [] → c.authorities ≡ [] → rest_lines c ≡ []
no-rest c no_channels no_authorities = λ i. map Bounds_channel (no_channels i) ++ flat_map authority_lines (no_authorities i)

-- a slot that a line bounds isn't closed
open-slot : (s : Slot) → is_bound_slot s ≡ true → is_closed s ≡ false
open-slot Closed is = absurd cc
open-slot (Open h) is = refl
open-slot (Maybe h) is = refl

-- a line behind blocks
behind-lines : (c : Certificate) (line : Line) → is_behind_blocks line ≡ true → stands c line ≡ true → (with_line c line).points ≡ c.points
    → lines_of (with_line c line) ≡ lines_of c ++ line ∷ []
behind-lines c line behind stand same =
    (λ i. flat_map block_lines (same i) ++ rest_grows c line behind stand i) ∙ sym (append_assoc (flat_map block_lines c.points) (rest_lines c) (line ∷ []))

grown-lines : (c : Certificate) (line : Line) → AreWhole c.points → is_line line ≡ true → stands c line ≡ true → lines_of (with_line c line) ≡ lines_of c ++ line ∷ []
grown-lines c (Begins_block program point mode) whole is stand =
    behind-blocks (flat_map block_lines c.points) _ (rest_lines c) (Begins_block program point mode)
    (no-rest c (no_channels c _ stand) (no_authorities c _ stand)) (blocks-begin c.points program point mode)
grown-lines c (Bounds_register register interval) whole is stand =
    let parts = and_parts _ _ is in
    let numbers = and_parts (nat_lt register 8) _ parts.1 in
    let proper = and_parts _ (not (is_full interval)) parts.0 in
    behind-blocks (flat_map block_lines c.points) _ (rest_lines c) (Bounds_register register interval)
    (no-rest c (no_channels c _ stand) (no_authorities c _ stand)) (
    blocks-register c.points register interval whole (ltb-true register 8 numbers.0) (block_stands c _ stand) (not_true (is_full interval) proper.1)
    )
grown-lines c (Bounds_slot number slot) whole is stand =
    let parts = and_parts _ _ is in
    let names = and_parts _ (is_bound_slot slot) parts.0 in
    let numbers = and_parts (nat_lt number 16) _ parts.1 in
    behind-blocks (flat_map block_lines c.points) _ (rest_lines c) (Bounds_slot number slot)
    (no-rest c (no_channels c _ stand) (no_authorities c _ stand)) (
    blocks-slot c.points number slot whole (ltb-true number 16 numbers.0) (block_stands c _ stand) (open-slot slot names.1)
    )
grown-lines c (Bounds_channel channel) whole is stand = behind-lines c (Bounds_channel channel) refl stand refl
grown-lines c (Begins_authority program) whole is stand = behind-lines c (Begins_authority program) refl stand refl
grown-lines c (Bounds_grant ceiling) whole is stand = behind-lines c (Bounds_grant ceiling) refl stand refl
grown-lines c (Holds_end held) whole is stand = behind-lines c (Holds_end held) refl stand refl

-- The lines of a certificate that takes one more are its lines and then that one.
pub lines-grow : (c d : Certificate) (line : Line) → IsCertificate c → is_line line ≡ true → taken c line ≡ Ok d → lines_of d ≡ lines_of c ++ line ∷ []
lines-grow c d line is proper take =
    let made = taken-is c d line take in
    sym (ap lines_of made.1) ∙ grown-lines c line (whole c is) proper made.0
