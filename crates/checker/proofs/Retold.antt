-- What an expansion has is told as its certificate's version tells it: what is given is, and what is carried is. So to tell it
-- again changes nothing.
use Rattle.std.proofs.Common.{◌≡◌, ℕ, Bool, true, false, List, [], ◌∷◌, map, refl, zero, suc, ap, ◌∙◌}
use Rattle.std.specs.Prelude.{◌+◌, ◌&&◌, ◌==◌, Option, Some, None, option_map, if◌then◌else◌}
use Rattle.std.specs.Cmp.Derive.{both_true}
use Rattle.std.specs.List.{flat_map, slice_get}
use Rattle.std.specs.Str.{bytes_eq}
use Rattle.std.proofs.lemmas.List.Folds.{list_all-append}
use Rattle.rights.specs.Limits.{most_instructions}
use Rattle.rights.proofs.Tests.{both_left, both_right}
use Rattle.certificate.specs.Bounds.{Bound, PointBound, ChannelBound, Authority, Version, Certificate, bound_at, bound_in, tells_further}
use Rattle.certificate.specs.Growth.{IsCertificate}
use Rattle.certificate.specs.Told.{are_told_authorities, are_told_points, is_told_bound, told_bound, told_channel, told_point}
use Rattle.certificate.proofs.OwnTold.{own_told}
use Rattle.certificate.proofs.ToldLaws.{are_told_authorities_alike, are_told_channels_alike, are_told_points_alike, bound_is_told, told_channels_stay, told_points_stay}
use Rattle.instruction_set.specs.Programs.{Instruction}
use Rattle.task.specs.Plans.{Plan}
use Rattle.rules.specs.Carrying.{carried_on, joined_at, outcomes}
use Rattle.rules.specs.Expansions.{bound_with, carried_by, carried_past, code_at, expanded_points, may_carry, or_carried, points_along, programs_given, with_bound}

-- a bound, if there is one
is_told_there : Version → Option Bound → Bool
is_told_there v None = true
is_told_there v (Some b) = is_told_bound v b

told_is_there : (v : Version) (o : Option Bound) → is_told_there v (option_map (told_bound v) o) ≡ true
unfolding is_told_there
told_is_there v None = refl
told_is_there v (Some b) = bound_is_told v b

given_is_told : (v : Version) (points : List PointBound) (name : List ℕ) (point : ℕ) → are_told_points v points ≡ true
    → is_told_there v (bound_in points name point) ≡ true
unfolding bound_in is_told_there
given_is_told v [] name point told = refl
given_is_told v (p ∷ points) name point told =
    go (bytes_eq p.program name && (p.point == point))
    (given_is_told v points name point (both_right (is_told_bound v p.bound) (are_told_points v points) told))
  where
    go : (is : Bool) → is_told_there v (bound_in points name point) ≡ true
        → is_told_there v (if is then Some p.bound else bound_in points name point) ≡ true
    go true rest = both_left (is_told_bound v p.bound) (are_told_points v points) told
    go false rest = rest

or_told : (v : Version) (given carried : Option Bound) → is_told_there v given ≡ true → is_told_there v carried ≡ true
    → is_told_there v (or_carried given carried) ≡ true
or_told v None carried given_told told = told
or_told v (Some b) carried given_told told = given_told

module _ (plan : Plan) (c : Certificate) (given : are_told_points c.version c.points ≡ true) where
  module _ (name : List ℕ) where
    by_told : (point : ℕ) (i : Option Instruction) (b : Option Bound) → is_told_there c.version (carried_by plan c name point i b) ≡ true
    unfolding is_told_there
    by_told point None b = refl
    by_told point (Some i) None = refl
    by_told point (Some i) (Some b) = go (may_carry c.version (code_at plan c name) (suc point))
      where
        go : (may : Bool) → is_told_there c.version (if may then carried_on plan c name point b i else None) ≡ true
        go true = told_is_there c.version (joined_at (point + 1) None (outcomes plan c name point b i))
        go false = refl

    point_told : (point : ℕ) (b : Option Bound) → is_told_there c.version b ≡ true → are_told_points c.version (with_bound name point b) ≡ true
    unfolding is_told_there
    point_told point None told = refl
    point_told point (Some b) told = both_true told refl

    along_told : (carried : Option Bound) (point count : ℕ) → is_told_there c.version carried ≡ true
        → are_told_points c.version (points_along plan c name carried point count) ≡ true
    unfolding points_along
    along_told carried point zero told = refl
    along_told carried point (suc count) told =
        let b = bound_with plan c name point carried in
        let next = carried_past plan c name point carried in
        let there = or_told c.version (bound_at c name point) carried (given_is_told c.version c.points name point given) told in
        list_all-append (λ (p : PointBound). is_told_bound c.version p.bound) (with_bound name point b) (points_along plan c name next (suc point) count)
        ∙ both_true (point_told point b there) (along_told next (suc point) count (by_told point (slice_get (code_at plan c name) point) b))

  programs_told : (programs : List (List ℕ))
      → are_told_points c.version (flat_map (λ name. points_along plan c name None 0 most_instructions) programs) ≡ true
  unfolding is_told_there
  programs_told [] = refl
  programs_told (name ∷ programs) =
      list_all-append (λ (p : PointBound). is_told_bound c.version p.bound) (points_along plan c name None 0 most_instructions)
      (flat_map (λ p. points_along plan c p None 0 most_instructions) programs)
      ∙ both_true (along_told name None 0 most_instructions refl) (programs_told programs)

-- Told again, in a version that tells the same, points stay.
pub given_stay : (v : Version) (c : Certificate) → tells_further v ≡ tells_further c.version → IsCertificate c → map (told_point v) c.points ≡ c.points
given_stay v c alike valid =
    told_points_stay v c.points (are_told_points_alike v c.version alike c.points ∙ (own_told c valid).points)

pub carried_stay : (v : Version) (plan : Plan) (c : Certificate) → tells_further v ≡ tells_further c.version → IsCertificate c
    → map (told_point v) (expanded_points plan c) ≡ expanded_points plan c
carried_stay v plan c alike valid =
    told_points_stay v (expanded_points plan c)
    (are_told_points_alike v c.version alike (expanded_points plan c) ∙ programs_told plan c (own_told c valid).points (programs_given c.points))

-- So do channels; and authorities are told in it.
pub channels_stay : (v : Version) (c : Certificate) (channels : List ChannelBound) → tells_further v ≡ tells_further c.version → IsCertificate c
    → channels ≡ c.channels → map (told_channel v) channels ≡ c.channels
channels_stay v c channels alike valid are =
    ap (map (told_channel v)) are ∙ told_channels_stay v c.channels (are_told_channels_alike v c.version alike c.channels ∙ (own_told c valid).channels)

pub authorities_stay : (v : Version) (c : Certificate) (authorities : List Authority) → tells_further v ≡ tells_further c.version → IsCertificate c
    → authorities ≡ c.authorities → are_told_authorities v authorities ≡ true
authorities_stay v c authorities alike valid are =
    ap (are_told_authorities v) are ∙ are_told_authorities_alike v c.version alike c.authorities ∙ (own_told c valid).authorities
