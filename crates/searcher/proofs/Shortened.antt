-- The short form of a certificate is made by its own lines, and is its own short form.
use Rattle.std.proofs.Common.{◌≡◌, ◌≤◌, ◌<◌, ◌+◌, ◌++◌, ℕ, Bool, true, false, List, [], ◌∷◌, length, map, drop, refl, ap, sym, ◌∙◌, append_assoc, append-nil}
use Rattle.std.specs.Prelude.{Some, Result, Ok, Err, if◌then◌else◌}
use Rattle.std.specs.List.{filter, flat_map, list_all, slice_index_or}
use Rattle.std.proofs.Math.ListN.{drop_of_length-le}
use Rattle.std.proofs.lemmas.List.{drop_more}
use Rattle.std.proofs.lemmas.List.Folds.{list_all-map}
use Rattle.certificate.specs.Bounds.{PointBound, ChannelBound, Version, Certificate}
use Rattle.certificate.specs.Growth.{IsCertificate, Refused, empty, programs_named, taken}
use Rattle.certificate.specs.Growths.{grown, grown_behind, grown_by, then_grown}
use Rattle.certificate.specs.Lines.{Line, Bounds_channel, authority_lines, block_lines, lines_of, rest_lines}
use Rattle.certificate.specs.Rising.{places_of, precedes, rises}
use Rattle.certificate.specs.Told.{are_told_points, is_told_bound, told_point}
use Rattle.certificate.specs.Views.{point_of, points_of}
use Rattle.certificate.specs.declared.points.Point.{Point as PointCode}
use Rattle.certificate.proofs.Fits.{is_fit_point}
use Rattle.certificate.proofs.Growing.{and_left, and_right, both_true, taken-back}
use Rattle.certificate.proofs.Growths.{grown_append}
use Rattle.certificate.proofs.Makes.{Fits, beside, makes_itself}
use Rattle.certificate.proofs.OwnTold.{own_told}
use Rattle.certificate.proofs.ToldLaws.{told_points_stay}
use Rattle.certificate.proofs.Whole.{fits_itself}
use Rattle.checker.proofs.Along.{by_lines, told_append}
use Rattle.task.specs.Plans.{Plan}
use Rattle.searcher.specs.Shortening.{is_at_named, short_form}
use Rattle.searcher.specs.Versions.{flat_version}

-- WHAT IS LEFT of some points
all_left : {A : Type 0} (test keep : A → Bool) (xs : List A) → list_all test xs ≡ true → list_all test (filter keep xs) ≡ true
all_left test keep [] all = refl
all_left test keep (x ∷ xs) all =
    go (keep x) (and_left (test x) (list_all test xs) all) (all_left test keep xs (and_right (test x) (list_all test xs) all))
  where
    go : (b : Bool) → test x ≡ true → list_all test (filter keep xs) ≡ true → list_all test (if b then x ∷ filter keep xs else filter keep xs) ≡ true
    go true first rest = both_true (test x) (list_all test (filter keep xs)) first rest
    go false first rest = rest

left_twice : {A : Type 0} (keep : A → Bool) (xs : List A) → filter keep (filter keep xs) ≡ filter keep xs
left_twice keep [] = refl
left_twice keep (x ∷ xs) = go (keep x) refl (left_twice keep xs)
  where
    go : (b : Bool) → keep x ≡ b → filter keep (filter keep xs) ≡ filter keep xs
        → filter keep (if b then x ∷ filter keep xs else filter keep xs) ≡ (if b then x ∷ filter keep xs else filter keep xs)
    go true is rest = ap (λ b. if b then x ∷ filter keep (filter keep xs) else filter keep (filter keep xs)) is ∙ ap (λ list. x ∷ list) rest
    go false is rest = rest

rises_left : (keep : PointBound → Bool) (points : List PointBound) → rises (places_of points) ≡ true → rises (places_of (filter keep points)) ≡ true
rises_left keep [] up = refl
rises_left keep (b ∷ points) up =
    let before = list_all (precedes (b.program, b.point)) (places_of points) in
    go (keep b) (above (and_left before (rises (places_of points)) up)) (rises_left keep points (and_right before (rises (places_of points)) up))
  where
    above : list_all (precedes (b.program, b.point)) (places_of points) ≡ true → list_all (precedes (b.program, b.point)) (places_of (filter keep points)) ≡ true
    above all =
        list_all-map (precedes (b.program, b.point)) (λ (a : PointBound). (a.program, a.point)) (filter keep points)
        ∙ all_left (λ (a : PointBound). precedes (b.program, b.point) (a.program, a.point)) keep points
        (sym (list_all-map (precedes (b.program, b.point)) (λ (a : PointBound). (a.program, a.point)) points) ∙ all)

    go : (keeps : Bool) → list_all (precedes (b.program, b.point)) (places_of (filter keep points)) ≡ true → rises (places_of (filter keep points)) ≡ true
        → rises (places_of (if keeps then b ∷ filter keep points else filter keep points)) ≡ true
    go true first rest = both_true (list_all (precedes (b.program, b.point)) (places_of (filter keep points))) (rises (places_of (filter keep points))) first rest
    go false first rest = rest

-- CHANNELS that are taken before more are taken without it.
one_channel_more : (c e : Certificate) (channel : ChannelBound) (channels : List ChannelBound) → taken c (Bounds_channel channel) ≡ Ok e
    → record e { channels = e.channels ++ channels } ≡ record c { channels = c.channels ++ channel ∷ channels }
one_channel_more c e channel channels took =
    ap (λ (d : Certificate). record d { channels = d.channels ++ channels }) (sym (taken-back c (Bounds_channel channel) e took).made)
    ∙ ap (λ list. record c { channels = list }) (append_assoc c.channels (channel ∷ []) channels)

channels_first : (channels : List ChannelBound) (more : List Line) (c d : Certificate) → grown (map Bounds_channel channels ++ more) c ≡ Some d
    → grown (map Bounds_channel channels) c ≡ Some (record c { channels = c.channels ++ channels })
unfolding grown
channels_first [] more c d grew = ap (λ list. Some (record c { channels = list })) (sym (append-nil c.channels))
channels_first (channel ∷ channels) more c d grew = go (taken c (Bounds_channel channel)) refl grew (λ e. channels_first channels more e d)
  where
    go : (r : Result Certificate Refused) → taken c (Bounds_channel channel) ≡ r → grown_behind (grown (map Bounds_channel channels ++ more)) r ≡ Some d
        → ((e : Certificate) → grown (map Bounds_channel channels ++ more) e ≡ Some d → grown (map Bounds_channel channels) e ≡ Some (record e { channels = e.channels ++ channels }))
        → grown_behind (grown (map Bounds_channel channels)) r ≡ Some (record c { channels = c.channels ++ channel ∷ channels })
    go (Ok e) took grew rest = rest e grew ∙ ap Some (one_channel_more c e channel channels took)
    go (Err refused) took grew rest = absurd cc

channels_alone : (version : Version) (c : Certificate) → grown (rest_lines c) (empty version) ≡ Some (beside version [] c)
    → grown (map Bounds_channel c.channels ++ []) (empty version) ≡ Some (record (empty version) { channels = c.channels })
channels_alone version c grew =
    ap (λ lines. grown lines (empty version)) (append-nil (map Bounds_channel c.channels))
    ∙ channels_first c.channels (flat_map authority_lines c.authorities) (empty version) (beside version [] c) grew

-- THE SHORT FORM is a certificate,
short_fits : (plan : Plan) (c : Certificate) → IsCertificate c → Fits (programs_named c) (short_form plan c)
unfolding short_form
short_fits plan c valid =
    let fits = fits_itself c valid in
    record {
      few = fits.few;
      fit = all_left (is_fit_point (programs_named c)) (is_at_named plan) c.points fits.fit;
      up = rises_left (is_at_named plan) c.points fits.up;
      among = fits.among;
      holders = refl;
      rest = λ version. channels_alone version c (fits.rest version);
    }

pub short_taken : (plan : Plan) (c start : Certificate) → IsCertificate c → start ≡ empty (flat_version plan)
    → grown (lines_of (short_form plan c)) start ≡ Some (short_form plan c)
unfolding short_form
short_taken plan c start valid begun =
    ap (grown (lines_of (short_form plan c))) begun ∙ makes_itself (programs_named c) (short_form plan c) (short_fits plan c valid)

-- of the version of its task,
pub short_is_versioned : (plan : Plan) (c : Certificate) → (short_form plan c).version ≡ flat_version plan
unfolding short_form
short_is_versioned plan c = refl

-- and has no shorter one.
pub short_twice : (plan : Plan) (c : Certificate) → short_form plan (short_form plan c) ≡ short_form plan c
unfolding short_form
short_twice plan c = ap (λ points. record { version = flat_version plan; points = points; channels = c.channels; authorities = [] }) (left_twice (is_at_named plan) c.points)

-- ITS LINES are those of its points, and then the channels.
pub short_lines : (plan : Plan) (c d : Certificate)
    → grown (lines_of (short_form plan c)) d ≡ then_grown (grown (map Bounds_channel c.channels)) (grown_by (filter (is_at_named plan) c.points) d)
unfolding short_form
short_lines plan c d =
    let points = filter (is_at_named plan) c.points in
    ap (λ rest. grown (flat_map block_lines points ++ rest) d) (append-nil (map Bounds_channel c.channels))
    ∙ grown_append (flat_map block_lines points) (map Bounds_channel c.channels) d
    ∙ ap (then_grown (grown (map Bounds_channel c.channels))) (sym (by_lines points d))

-- They are told as the certificate's version tells them.
pub named_stay : (v : Version) (plan : Plan) (c : Certificate) (points : List PointBound) → v ≡ c.version → IsCertificate c → points ≡ c.points
    → map (told_point v) (filter (is_at_named plan) points) ≡ filter (is_at_named plan) c.points
named_stay v plan c points same valid are =
    ap (λ points. map (told_point v) (filter (is_at_named plan) points)) are
    ∙ told_points_stay v (filter (is_at_named plan) c.points)
    (all_left (λ (p : PointBound). is_told_bound v p.bound) (is_at_named plan) c.points (ap (λ v. are_told_points v c.points) same ∙ (own_told c valid).points))

-- One point after another is added, if it is named.
point_then : (plan : Plan) (b : PointBound) (points : List PointBound)
    → filter (is_at_named plan) (b ∷ points) ≡ filter (is_at_named plan) (b ∷ []) ++ filter (is_at_named plan) points
point_then plan b points = go (is_at_named plan b)
  where
    go : (named : Bool) → (if named then b ∷ filter (is_at_named plan) points else filter (is_at_named plan) points)
        ≡ (if named then b ∷ [] else []) ++ filter (is_at_named plan) points
    go true = refl
    go false = refl

pub first_then : (v : Version) (plan : Plan) (points : List PointCode) (i : ℕ) (first : PointCode) (c : Certificate) → i < length points → first ≡ slice_index_or points i first
    → grown_by (map (told_point v) (filter (is_at_named plan) (points_of (drop i points)))) c
    ≡ then_grown (grown_by (map (told_point v) (filter (is_at_named plan) (points_of (drop (i + 1) points)))))
    (grown_by (map (told_point v) (filter (is_at_named plan) (point_of first ∷ []))) c)
first_then v plan points i first c below is =
    let rest = points_of (drop (i + 1) points) in
    ap (λ list. grown_by (map (told_point v) (filter (is_at_named plan) (points_of list))) c) (drop_more points i first below ∙ ap (λ p. p ∷ drop (i + 1) points) (sym is))
    ∙ ap (λ list. grown_by (map (told_point v) list) c) (point_then plan (point_of first) rest)
    ∙ told_append v (filter (is_at_named plan) (point_of first ∷ [])) (filter (is_at_named plan) rest) c

-- Behind the last nothing is left.
pub none_left : (v : Version) (plan : Plan) (points : List PointCode) (i : ℕ) (c : Certificate) → length points ≤ i
    → grown_by (map (told_point v) (filter (is_at_named plan) (points_of (drop i points)))) c ≡ Some c
unfolding grown_by
none_left v plan points i c past = ap (λ list. grown_by (map (told_point v) (filter (is_at_named plan) (points_of list))) c) (drop_of_length-le points past)
