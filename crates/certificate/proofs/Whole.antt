-- A certificate is what its own lines make of nothing.
use Rattle.std.proofs.Common.{◌≡◌, ◌≤◌, ◌++◌, ◌∷◌, [], Bool, true, false, ℕ, List, length, refl, ap, sym, ◌∙◌, subst, arith}
use Rattle.std.specs.Prelude.{◌==◌, ◌&&◌, nat_le, Some, Ok}
use Rattle.std.specs.List.{flat_map, list_all}
use Rattle.std.specs.Str.{bytes_eq}
use Rattle.std.proofs.lemmas.List.{length-set}
use Rattle.std.proofs.lemmas.List.Folds.{list_all-append}
use Rattle.rights.specs.Limits.{most_descriptors, most_programs, register_count}
use Rattle.certificate.specs.Bounds.{Bound, PointBound, Version, Certificate, with_interval, with_slot}
use Rattle.certificate.specs.Order.{same_class}
use Rattle.certificate.specs.Lines.{Line, Begins_block, Bounds_register, Bounds_slot, Bounds_channel, Begins_authority, Bounds_grant, Holds_end, rest_lines}
use Rattle.certificate.specs.Growth.{IsCertificate, begins, grows, classes_in_line, classes_of, distinct, distinct_behind, empty, most_classes, on_last, open_bound}
use Rattle.certificate.specs.Growth.{programs_in_line, programs_named, programs_of_authority, programs_of_block, programs_of_channel, programs_of_slot, taken, with_line}
use Rattle.certificate.specs.Growths.{IsGrown, grown, grown_behind, then_grown}
use Rattle.certificate.proofs.Fewer.{among_both, among_own, among_split, are_among, is_among}
use Rattle.certificate.proofs.Fits.{all_together, is_fit, is_fit_point, is_fit_slot}
use Rattle.certificate.proofs.Growing.{and_left, and_right, both_true, le_true, taken-back}
use Rattle.certificate.proofs.Growths.{grown_append}
use Rattle.certificate.proofs.Behind.{is_behind_blocks, rest_grows}
use Rattle.certificate.proofs.Made.{programs_made}
use Rattle.certificate.proofs.Makes.{Fits, beside, makes_itself, taken_beside}
use Rattle.certificate.proofs.Rising.{certificates_rise}

-- BLOCKS of eight registers and sixteen slots
abbrev is_whole : Bound → Bool
is_whole b = (length b.registers == register_count) && (length b.slots == most_descriptors)

abbrev are_whole : List PointBound → Bool
are_whole points = list_all (λ (b : PointBound). is_whole b.bound) points

whole_last : (f : Bound → Bound) → ((b : Bound) → is_whole (f b) ≡ is_whole b) → (points : List PointBound) → are_whole (on_last f points) ≡ are_whole points
unfolding on_last
whole_last f keeps [] = refl
whole_last f keeps (b ∷ []) = ap (λ is. is && true) (keeps b.bound)
whole_last f keeps (b ∷ d ∷ points) = ap (λ rest. is_whole b.bound && rest) (whole_last f keeps (d ∷ points))

whole_made : (c : Certificate) (line : Line) → are_whole c.points ≡ true → are_whole (with_line c line).points ≡ true
whole_made c (Begins_block program point mode) whole =
    let begun : PointBound = record { program = program; point = point; bound = open_bound mode } in
    list_all-append (λ (b : PointBound). is_whole b.bound) c.points (begun ∷ []) ∙ both_true (are_whole c.points) (are_whole (begun ∷ [])) whole refl
whole_made c (Bounds_register register interval) whole =
    whole_last (λ b. with_interval b register interval)
    (λ b. ap (λ n. (n == register_count) && (length b.slots == most_descriptors)) (length-set b.registers register interval)) c.points
    ∙ whole
whole_made c (Bounds_slot number slot) whole =
    whole_last (λ b. with_slot b number slot)
    (λ b. ap (λ n. (length b.registers == register_count) && (n == most_descriptors)) (length-set b.slots number slot)) c.points
    ∙ whole
whole_made c (Bounds_channel channel) whole = whole
whole_made c (Begins_authority program) whole = whole
whole_made c (Bounds_grant ceiling) whole = whole
whole_made c (Holds_end held) whole = whole

all_whole : (c : Certificate) → IsCertificate c → are_whole c.points ≡ true
all_whole _ (begins version) = refl
all_whole _ (grows {c} {d} valid line proper own took) =
    let is = taken-back c line d took in
    subst (λ (e : Certificate). are_whole e.points ≡ true) is.made (whole_made c line (all_whole c valid))

-- which name programs among some
fit_of : (names : List (List ℕ)) (points : List PointBound) → are_whole points ≡ true → are_among names (flat_map programs_of_block points) ≡ true
    → list_all (is_fit_point names) points ≡ true
fit_of names [] whole among = refl
fit_of names (b ∷ points) whole among =
    let own = and_left (is_whole b.bound) (are_whole points) whole in
    let parts = among_split names (programs_of_block b) (flat_map programs_of_block points) among in
    let named = and_left (is_among names b.program) (are_among names (flat_map programs_of_slot b.bound.slots)) parts.0 in
    let slots = sym (all_together (is_among names) programs_of_slot b.bound.slots)
    ∙ and_right (is_among names b.program) (are_among names (flat_map programs_of_slot b.bound.slots)) parts.0 in
    both_true (is_fit_point names b) (list_all (is_fit_point names) points)
    (both_true (is_among names b.program) (is_fit names b.bound) named
    (both_true (length b.bound.registers == register_count) ((length b.bound.slots == most_descriptors) && list_all (is_fit_slot names) b.bound.slots)
    (and_left (length b.bound.registers == register_count) (length b.bound.slots == most_descriptors) own)
    (both_true (length b.bound.slots == most_descriptors) (list_all (is_fit_slot names) b.bound.slots)
    (and_right (length b.bound.registers == register_count) (length b.bound.slots == most_descriptors) own) slots)))
    (fit_of names points (and_right (is_whole b.bound) (are_whole points) whole) parts.1)

-- EIGHT PROGRAMS at most
names_few : (c : Certificate) → IsCertificate c → length (distinct bytes_eq (programs_named c)) ≤ most_programs
unfolding distinct_behind
names_few _ (begins version) = omega arith
names_few _ (grows {c} {d} valid line proper own took) =
    let is = taken-back c line d took in
    let all = programs_named c ++ programs_in_line line in
    let few = le_true _ _ (and_left (nat_le (length (distinct bytes_eq all)) most_programs)
    (nat_le (length (distinct same_class (classes_of c ++ classes_in_line line))) most_classes) is.room) in
    subst (λ e. length (distinct bytes_eq (programs_named e)) ≤ most_programs) is.made
    (subst (λ names. length (distinct bytes_eq names) ≤ most_programs) (sym (programs_made c line valid proper is.place)) few)

-- THE LINES BEHIND BLOCKS are taken by nothing.
nothing_named : (names : List (List ℕ)) (c : Certificate) (version : Version) → are_among names (programs_named c) ≡ true
    → are_among names (programs_named (beside version [] c)) ≡ true
nothing_named names c version all =
    let blocks = flat_map programs_of_block c.points in
    let channels = flat_map programs_of_channel c.channels in
    let authorities = flat_map programs_of_authority c.authorities in
    let parts = among_split names (blocks ++ channels) authorities all in
    let front = among_split names blocks channels parts.0 in
    among_both names channels authorities front.1 parts.1

one_behind : (version : Version) (c d : Certificate) (line : Line) → is_behind_blocks line ≡ true → taken c line ≡ Ok d
    → taken (beside version [] c) line ≡ Ok (beside version [] d)
one_behind version c d line behind took =
    let names = programs_named c ++ programs_in_line line in
    let few = le_true _ _ (and_left (nat_le (length (distinct bytes_eq names)) most_programs)
    (nat_le (length (distinct same_class (classes_of c ++ classes_in_line line))) most_classes) (taken-back c line d took).room) in
    let apart = among_split names (programs_named c) (programs_in_line line) (among_own names) in
    taken_beside version [] names few c d line behind took (nothing_named names c version apart.0) apart.1

rest_made : (version : Version) (c d : Certificate) (line : Line) → taken c line ≡ Ok d → grown (rest_lines c) (empty version) ≡ Some (beside version [] c)
    → grown (rest_lines d) (empty version) ≡ Some (beside version [] d)
unfolding grown
rest_made version c d line took before = go line (is_behind_blocks line) refl took
  where
    here : (line : Line) → (with_line c line ≡ d) → rest_lines (with_line c line) ≡ rest_lines c → beside version [] (with_line c line) ≡ beside version [] c
        → grown (rest_lines d) (empty version) ≡ Some (beside version [] d)
    here line made same still =
        (λ i. grown (rest_lines (sym made i)) (empty version)) ∙ ap (λ lines. grown lines (empty version)) same ∙ before
        ∙ ap Some (sym still) ∙ ap (λ e. Some (beside version [] e)) made

    more : (line : Line) → is_behind_blocks line ≡ true → taken c line ≡ Ok d → grown (rest_lines d) (empty version) ≡ Some (beside version [] d)
    more line behind took =
        let is = taken-back c line d took in
        ap (λ lines. grown lines (empty version)) (ap rest_lines (sym is.made) ∙ rest_grows c line behind is.place)
        ∙ grown_append (rest_lines c) (line ∷ []) (empty version)
        ∙ ap (then_grown (grown (line ∷ []))) before
        ∙ ap (grown_behind (grown [])) (one_behind version c d line behind took)

    go : (line : Line) (b : Bool) → is_behind_blocks line ≡ b → taken c line ≡ Ok d → grown (rest_lines d) (empty version) ≡ Some (beside version [] d)
    go line true behind took = more line behind took
    go (Begins_block program point mode) false behind took = here (Begins_block program point mode) (taken-back c _ d took).made refl refl
    go (Bounds_register register interval) false behind took = here (Bounds_register register interval) (taken-back c _ d took).made refl refl
    go (Bounds_slot number slot) false behind took = here (Bounds_slot number slot) (taken-back c _ d took).made refl refl
    go (Bounds_channel channel) false behind took = absurd cc
    go (Begins_authority program) false behind took = absurd cc
    go (Bounds_grant ceiling) false behind took = absurd cc
    go (Holds_end held) false behind took = absurd cc

rest_taken : (version : Version) (c : Certificate) → IsCertificate c → grown (rest_lines c) (empty version) ≡ Some (beside version [] c)
unfolding grown
rest_taken version _ (begins first) = refl
rest_taken version _ (grows {c} {d} valid line proper own took) = rest_made version c d line took (rest_taken version c valid)

-- A CERTIFICATE fits the programs that it names.
pub fits_itself : (c : Certificate) → IsCertificate c → Fits (programs_named c) c
fits_itself c valid =
    let names = programs_named c in
    let blocks = flat_map programs_of_block c.points in
    let channels = flat_map programs_of_channel c.channels in
    let parts = among_split names (blocks ++ channels) (flat_map programs_of_authority c.authorities) (among_own names) in
    let front = among_split names blocks channels parts.0 in
    record {
      few = names_few c valid;
      fit = fit_of names c.points (all_whole c valid) front.0;
      up = certificates_rise c valid;
      among = front.1;
      holders = parts.1;
      rest = λ version. rest_taken version c valid;
    }

pub certificates_grown : (c : Certificate) → IsCertificate c → IsGrown c
certificates_grown c valid = makes_itself (programs_named c) c (fits_itself c valid)
