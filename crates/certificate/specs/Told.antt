-- What a certificate says of further rights. Before version 4 a descriptor may have any of them. (own)
use Rattle.std.specs.Prelude.{◌&&◌, ◌||◌, Bool, true, List, map, bit_and, bit_or, Option, Some, None, option_map, if◌then◌else◌}
use Rattle.std.specs.List.{list_all}
use Rattle.rights.specs.Values.{RightSet}
use Rattle.rights.specs.Sets.{further_rights, is_within, plain_rights}
use Rattle.certificate.specs.Bounds.{Held, Slot, Closed, Open, Maybe, Bound, PointBound, ChannelBound, Ceiling, Authority, Version, held_in, tells_further}

-- the bound of which nothing is said of further rights
abbrev pub untold_held : Held → Held
untold_held h = record h { least = bit_and h.least plain_rights; greatest = bit_or h.greatest further_rights }

abbrev pub untold_slot : Slot → Slot
untold_slot Closed = Closed
untold_slot (Open h) = Open (untold_held h)
untold_slot (Maybe h) = Maybe (untold_held h)

abbrev pub untold_bound : Bound → Bound
untold_bound b = record b { slots = map untold_slot b.slots }

-- as a certificate of this version says it
abbrev pub told_held : Version → Held → Held
told_held version h = if tells_further version then h else untold_held h

abbrev pub told_slot : Version → Slot → Slot
told_slot version s = if tells_further version then s else untold_slot s

abbrev pub told_bound : Version → Bound → Bound
told_bound version b = if tells_further version then b else untold_bound b

abbrev pub told_point : Version → PointBound → PointBound
told_point version p = record p { bound = told_bound version p.bound }

abbrev pub told_channel : Version → ChannelBound → ChannelBound
told_channel version c = record c { sends = option_map (told_held version) c.sends }

-- whether a certificate of this version can say so of a descriptor, and of a ceiling
abbrev pub is_told : Version → Option Held → Bool
is_told version None = true
is_told version (Some h) = tells_further version || (is_within h.least plain_rights && is_within further_rights h.greatest)

abbrev pub is_told_ceiling : Version → RightSet → Bool
is_told_ceiling version rights = tells_further version || is_within rights plain_rights

-- and of points, channels and authorities
abbrev pub is_told_slot : Version → Slot → Bool
is_told_slot version s = is_told version (held_in s)

abbrev pub is_told_bound : Version → Bound → Bool
is_told_bound version b = list_all (is_told_slot version) b.slots

abbrev pub are_told_points : Version → List PointBound → Bool
are_told_points version points = list_all (λ (p : PointBound). is_told_bound version p.bound) points

abbrev pub are_told_channels : Version → List ChannelBound → Bool
are_told_channels version channels = list_all (λ (c : ChannelBound). is_told version c.sends) channels

abbrev pub are_told_ceilings : Version → List Ceiling → Bool
are_told_ceilings version ceilings = list_all (λ (c : Ceiling). is_told_ceiling version c.rights) ceilings

abbrev pub are_told_authorities : Version → List Authority → Bool
are_told_authorities version authorities = list_all (λ (a : Authority). are_told_ceilings version a.ceilings) authorities
