-- What stands behind blocks: channels, and behind them authorities.
use Rattle.std.proofs.Common.{◌≡◌, ◌≤◌, ◌&&◌, ◌++◌, ◌∷◌, [], Bool, true, false, List, length, map, refl, ap, sym, ◌∙◌, subst, append_assoc, append-nil, arith}
use Rattle.std.specs.List.{flat_map}
use Rattle.std.specs.Prelude.{nat_le}
use Rattle.std.specs.Str.{bytes_eq}
use Rattle.std.proofs.lemmas.Grind.{flat_map-append}
use Rattle.std.proofs.lemmas.List.{map-append}
use Rattle.rights.specs.Limits.{most_programs}
use Rattle.certificate.specs.Order.{same_class}
use Rattle.certificate.specs.Bounds.{Authority, Ceiling, End, Certificate, ChannelBound, has_authorities}
use Rattle.certificate.specs.Lines.{Line, Begins_block, Bounds_register, Bounds_slot, Bounds_channel, Begins_authority, Bounds_grant, Holds_end, authority_lines, is_of_version, rest_lines}
use Rattle.certificate.specs.Told.{is_told_ceiling}
use Rattle.certificate.specs.Growth.{IsCertificate, begins, grows, above_ceilings, above_channels, above_ends, classes_held, classes_in_line, classes_of}
use Rattle.certificate.specs.Growth.{distinct, distinct_behind, has_none, most_classes, open_authority, programs_in_line, programs_named}
use Rattle.certificate.specs.Growth.{programs_of_authority, programs_of_block}
use Rattle.certificate.specs.Growth.{programs_of_channel, programs_of_end, stands, with_ceiling, with_held_end, with_line}
use Rattle.certificate.proofs.LastOnes.{behind_nothing, none, told_kept, told_more}
use Rattle.certificate.proofs.Growing.{and_left, and_right, le_true, taken-back, taken_keeps}

abbrev pub is_behind_blocks : Line → Bool
is_behind_blocks (Begins_block program point mode) = false
is_behind_blocks (Bounds_register register interval) = false
is_behind_blocks (Bounds_slot number slot) = false
is_behind_blocks (Bounds_channel channel) = true
is_behind_blocks (Begins_authority program) = true
is_behind_blocks (Bounds_grant ceiling) = true
is_behind_blocks (Holds_end held) = true

-- what an authority's ceilings and ends ask of it
abbrev pub takes_ceiling : Ceiling → Authority → Bool
takes_ceiling ceiling a = has_none a.holds && above_ceilings a.ceilings ceiling.grant

abbrev pub takes_end : End → Authority → Bool
takes_end held a = above_ends a.holds held

-- where a line of a block stands there is nothing behind blocks
pub no_channels : (c : Certificate) (b : Bool) → (has_none c.channels && (has_none c.authorities && b)) ≡ true → c.channels ≡ []
no_channels c b place = none c.channels (and_left (has_none c.channels) (has_none c.authorities && b) place)

pub no_authorities : (c : Certificate) (b : Bool) → (has_none c.channels && (has_none c.authorities && b)) ≡ true → c.authorities ≡ []
no_authorities c b place =
    none c.authorities (and_left (has_none c.authorities) b (and_right (has_none c.channels) (has_none c.authorities && b) place))

pub block_stands : (c : Certificate) (b : Bool) → (has_none c.channels && (has_none c.authorities && b)) ≡ true → b ≡ true
block_stands c b place = and_right (has_none c.authorities) b (and_right (has_none c.channels) (has_none c.authorities && b) place)

pub no_authorities_yet : (c : Certificate) (channel : ChannelBound) → stands c (Bounds_channel channel) ≡ true → c.authorities ≡ []
no_authorities_yet c channel place = none c.authorities (and_left (has_none c.authorities) (above_channels c.channels channel) place)

-- LINES: one more is the last of those behind blocks
one_ceiling_more : (ceiling : Ceiling) (a : Authority) → takes_ceiling ceiling a ≡ true
    → authority_lines (with_ceiling ceiling a) ≡ authority_lines a ++ Bounds_grant ceiling ∷ []
one_ceiling_more ceiling a may =
    let no_ends = ap (map Holds_end) (none a.holds (and_left (has_none a.holds) (above_ceilings a.ceilings ceiling.grant) may)) in
    ap (λ lines. Begins_authority a.program ∷ lines)
    (ap (λ lines. lines ++ map Holds_end a.holds) (map-append Bounds_grant a.ceilings (ceiling ∷ []))
    ∙ behind_nothing (map Bounds_grant a.ceilings) (Bounds_grant ceiling ∷ []) (map Holds_end a.holds) no_ends)

one_end_more : (held : End) (a : Authority) → takes_end held a ≡ true → authority_lines (with_held_end held a) ≡ authority_lines a ++ Holds_end held ∷ []
one_end_more held a may =
    ap (λ lines. Begins_authority a.program ∷ lines)
    (ap (λ lines. map Bounds_grant a.ceilings ++ lines) (map-append Holds_end a.holds (held ∷ []))
    ∙ sym (append_assoc (map Bounds_grant a.ceilings) (map Holds_end a.holds) (Holds_end held ∷ [])))

-- of the lists of two kinds, one more of the second
second_more : {A : Type 0} (first second after more : List A) → after ≡ second ++ more → first ++ after ≡ (first ++ second) ++ more
second_more first second after more is = ap (λ list. first ++ list) is ∙ sym (append_assoc first second more)

pub rest_grows : (c : Certificate) (line : Line) → is_behind_blocks line ≡ true → stands c line ≡ true
    → rest_lines (with_line c line) ≡ rest_lines c ++ line ∷ []
rest_grows c (Begins_block program point mode) behind place = absurd cc
rest_grows c (Bounds_register register interval) behind place = absurd cc
rest_grows c (Bounds_slot number slot) behind place = absurd cc
rest_grows c (Bounds_channel channel) behind place =
    ap (λ lines. lines ++ flat_map authority_lines c.authorities) (map-append Bounds_channel c.channels (channel ∷ []))
    ∙ behind_nothing (map Bounds_channel c.channels) (Bounds_channel channel ∷ []) (flat_map authority_lines c.authorities)
    (ap (flat_map authority_lines) (no_authorities_yet c channel place))
rest_grows c (Begins_authority program) behind place =
    second_more (map Bounds_channel c.channels) (flat_map authority_lines c.authorities) _ (Begins_authority program ∷ [])
    (flat_map-append authority_lines c.authorities (open_authority program ∷ []))
rest_grows c (Bounds_grant ceiling) behind place =
    second_more (map Bounds_channel c.channels) (flat_map authority_lines c.authorities) _ (Bounds_grant ceiling ∷ [])
    (told_more (with_ceiling ceiling) authority_lines (Bounds_grant ceiling ∷ []) (takes_ceiling ceiling) (one_ceiling_more ceiling) c.authorities place)
rest_grows c (Holds_end held) behind place =
    second_more (map Bounds_channel c.channels) (flat_map authority_lines c.authorities) _ (Holds_end held ∷ [])
    (told_more (with_held_end held) authority_lines (Holds_end held ∷ []) (takes_end held) (one_end_more held) c.authorities place)

-- PROGRAMS that are named
one_name_more : (held : End) (a : Authority) → takes_end held a ≡ true
    → programs_of_authority (with_held_end held a) ≡ programs_of_authority a ++ programs_of_end held
one_name_more held a may =
    ap (λ names. a.program ∷ names)
    (flat_map-append programs_of_end a.holds (held ∷ []) ∙ ap (λ names. flat_map programs_of_end a.holds ++ names) (append-nil (programs_of_end held)))

pub rest_named : (c : Certificate) (line : Line) → is_behind_blocks line ≡ true → stands c line ≡ true
    → programs_named (with_line c line) ≡ programs_named c ++ programs_in_line line
rest_named c (Begins_block program point mode) behind place = absurd cc
rest_named c (Bounds_register register interval) behind place = absurd cc
rest_named c (Bounds_slot number slot) behind place = absurd cc
rest_named c (Bounds_channel channel) behind place =
    let blocks = flat_map programs_of_block c.points in
    ap (λ names. blocks ++ names ++ flat_map programs_of_authority c.authorities)
    (flat_map-append programs_of_channel c.channels (channel ∷ [])
    ∙ ap (λ names. flat_map programs_of_channel c.channels ++ names) (append-nil (programs_of_channel channel)))
    ∙ ap (λ names. names ++ flat_map programs_of_authority c.authorities)
    (sym (append_assoc blocks (flat_map programs_of_channel c.channels) (programs_of_channel channel)))
    ∙ behind_nothing (blocks ++ flat_map programs_of_channel c.channels) (programs_of_channel channel) (flat_map programs_of_authority c.authorities)
    (ap (flat_map programs_of_authority) (no_authorities_yet c channel place))
rest_named c (Begins_authority program) behind place =
    second_more (flat_map programs_of_block c.points ++ flat_map programs_of_channel c.channels) (flat_map programs_of_authority c.authorities) _ (program ∷ [])
    (flat_map-append programs_of_authority c.authorities (open_authority program ∷ []))
rest_named c (Bounds_grant ceiling) behind place =
    ap (λ names. flat_map programs_of_block c.points ++ flat_map programs_of_channel c.channels ++ names)
    (told_kept (with_ceiling ceiling) programs_of_authority (λ a. refl) c.authorities)
    ∙ sym (append-nil (programs_named c))
rest_named c (Holds_end held) behind place =
    second_more (flat_map programs_of_block c.points ++ flat_map programs_of_channel c.channels) (flat_map programs_of_authority c.authorities) _ (programs_of_end held)
    (told_more (with_held_end held) programs_of_authority (programs_of_end held) (takes_end held) (one_name_more held) c.authorities place)

-- the names on the lines are those that are named
channel_names : (channels : List ChannelBound) → flat_map programs_in_line (map Bounds_channel channels) ≡ flat_map programs_of_channel channels
channel_names [] = refl
channel_names (channel ∷ channels) = ap (λ names. programs_of_channel channel ++ names) (channel_names channels)

ceiling_names : (ceilings : List Ceiling) → flat_map programs_in_line (map Bounds_grant ceilings) ≡ []
ceiling_names [] = refl
ceiling_names (ceiling ∷ ceilings) = ceiling_names ceilings

end_names : (holds : List End) → flat_map programs_in_line (map Holds_end holds) ≡ flat_map programs_of_end holds
end_names [] = refl
end_names (held ∷ holds) = ap (λ names. programs_of_end held ++ names) (end_names holds)

authority_names : (a : Authority) → flat_map programs_in_line (authority_lines a) ≡ programs_of_authority a
authority_names a =
    ap (λ names. a.program ∷ names)
    (flat_map-append programs_in_line (map Bounds_grant a.ceilings) (map Holds_end a.holds)
    ∙ ap (λ names. names ++ flat_map programs_in_line (map Holds_end a.holds)) (ceiling_names a.ceilings) ∙ end_names a.holds)

all_authority_names : (authorities : List Authority)
    → flat_map programs_in_line (flat_map authority_lines authorities) ≡ flat_map programs_of_authority authorities
all_authority_names [] = refl
all_authority_names (a ∷ authorities) =
    flat_map-append programs_in_line (authority_lines a) (flat_map authority_lines authorities)
    ∙ ap (λ names. names ++ flat_map programs_in_line (flat_map authority_lines authorities)) (authority_names a)
    ∙ ap (λ names. programs_of_authority a ++ names) (all_authority_names authorities)

pub rest_names : (c : Certificate)
    → flat_map programs_in_line (rest_lines c) ≡ flat_map programs_of_channel c.channels ++ flat_map programs_of_authority c.authorities
rest_names c =
    flat_map-append programs_in_line (map Bounds_channel c.channels) (flat_map authority_lines c.authorities)
    ∙ ap (λ names. names ++ flat_map programs_in_line (flat_map authority_lines c.authorities)) (channel_names c.channels)
    ∙ ap (λ names. flat_map programs_of_channel c.channels ++ names) (all_authority_names c.authorities)

-- CLASSES that are counted
pub classes_made : (c : Certificate) (line : Line) → stands c line ≡ true → classes_of (with_line c line) ≡ classes_of c ++ classes_in_line line
classes_made c (Begins_block program point mode) place = sym (append-nil (classes_of c))
classes_made c (Bounds_register register interval) place = sym (append-nil (classes_of c))
classes_made c (Bounds_slot number slot) place = sym (append-nil (classes_of c))
classes_made c (Bounds_channel channel) place =
    ap (λ classes. classes ++ flat_map classes_held c.authorities) (map-append (λ (a : ChannelBound). a.class) c.channels (channel ∷ []))
    ∙ behind_nothing (map (λ (a : ChannelBound). a.class) c.channels) (channel.class ∷ []) (flat_map classes_held c.authorities)
    (ap (flat_map classes_held) (no_authorities_yet c channel place))
classes_made c (Begins_authority program) place =
    ap (λ classes. map (λ (a : ChannelBound). a.class) c.channels ++ classes)
    (flat_map-append classes_held c.authorities (open_authority program ∷ []) ∙ append-nil (flat_map classes_held c.authorities))
    ∙ sym (append-nil (classes_of c))
classes_made c (Bounds_grant ceiling) place =
    ap (λ classes. map (λ (a : ChannelBound). a.class) c.channels ++ classes) (told_kept (with_ceiling ceiling) classes_held (λ a. refl) c.authorities)
    ∙ sym (append-nil (classes_of c))
classes_made c (Holds_end held) place =
    second_more (map (λ (a : ChannelBound). a.class) c.channels) (flat_map classes_held c.authorities) _ (held.class ∷ [])
    (told_more (with_held_end held) classes_held (held.class ∷ []) (takes_end held)
    (λ a may. map-append (λ (e : End). e.class) a.holds (held ∷ [])) c.authorities place)

-- a certificate's channels and ends are of 32 classes at most
pub classes_few : (c : Certificate) → IsCertificate c → length (distinct same_class (classes_of c)) ≤ most_classes
unfolding distinct_behind
classes_few _ (begins version) = omega arith
classes_few _ (grows {c} {d} valid line proper own took) =
    let is = taken-back c line d took in
    let few = le_true _ _ (and_right (nat_le (length (distinct bytes_eq (programs_named c ++ programs_in_line line))) most_programs)
    (nat_le (length (distinct same_class (classes_of c ++ classes_in_line line))) most_classes) is.room) in
    subst (λ e. length (distinct same_class (classes_of e)) ≤ most_classes) is.made
    (subst (λ classes. length (distinct same_class classes) ≤ most_classes) (sym (classes_made c line is.place)) few)

-- AUTHORITIES stand in versions 3 and 4 alone.
has_none_made : (c : Certificate) (line : Line) → is_of_version c.version line ≡ true → has_authorities c.version ≡ false
    → c.authorities ≡ [] → (with_line c line).authorities ≡ []
has_none_made c (Begins_block program point mode) own without is = is
has_none_made c (Bounds_register register interval) own without is = is
has_none_made c (Bounds_slot number slot) own without is = is
has_none_made c (Bounds_channel channel) own without is = is
has_none_made c (Begins_authority program) own without is = absurd (let both : true ≡ false = sym own ∙ without in cc)
has_none_made c (Bounds_grant ceiling) own without is =
    absurd (let both : true ≡ false = sym (and_left (has_authorities c.version) (is_told_ceiling c.version ceiling.rights) own) ∙ without in cc)
has_none_made c (Holds_end held) own without is = absurd (let both : true ≡ false = sym own ∙ without in cc)

pub authorities_alone : (c : Certificate) → IsCertificate c → has_authorities c.version ≡ false → c.authorities ≡ []
authorities_alone _ (begins version) without = refl
authorities_alone _ (grows {c} {d} valid line proper own took) without =
    let is = taken-back c line d took in
    let before = ap has_authorities (sym (taken_keeps c d line took)) ∙ without in
    subst (λ (e : Certificate). e.authorities ≡ []) is.made (has_none_made c line own before (authorities_alone c valid before))
