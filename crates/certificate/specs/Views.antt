-- What the values of the code stand for.
use Rattle.std.specs.Prelude.{List, [], ◌∷◌, map, option_map, slice_set}
use Rattle.certificate.specs.declared.classes.Class.{Class as ClassCode}
use Rattle.certificate.specs.declared.classes.Class.TheVariants as class
use Rattle.certificate.specs.declared.bounds.ModeBound.{ModeBound as ModeBoundCode}
use Rattle.certificate.specs.declared.bounds.ModeBound.TheVariants as mode
use Rattle.certificate.specs.declared.bounds.Interval.{Interval as IntervalCode}
use Rattle.certificate.specs.declared.bounds.Target.{Target as TargetCode}
use Rattle.certificate.specs.declared.bounds.Target.TheVariants as target
use Rattle.certificate.specs.declared.bounds.Held.{Held as HeldCode}
use Rattle.certificate.specs.declared.bounds.Slot.{Slot as SlotCode}
use Rattle.certificate.specs.declared.bounds.Slot.TheVariants as slots
use Rattle.certificate.specs.declared.bounds.Bound.{Bound as BoundCode}
use Rattle.certificate.specs.declared.points.NumberedSlot.{NumberedSlot}
use Rattle.certificate.specs.declared.points.Point.{Point as PointCode}
use Rattle.certificate.specs.declared.authorities.Ceiling.{Ceiling as CeilingCode}
use Rattle.certificate.specs.declared.authorities.End.{End as EndCode}
use Rattle.certificate.specs.declared.authorities.Authority.{Authority as AuthorityCode}
use Rattle.certificate.specs.declared.certs.Version.{Version as VersionCode}
use Rattle.certificate.specs.declared.certs.Version.TheVariants as version
use Rattle.certificate.specs.declared.lines.Channel.{Channel as ChannelCode}
use Rattle.certificate.specs.declared.lines.Line.{Line as LineCode}
use Rattle.certificate.specs.declared.lines.Line.TheVariants as line
use Rattle.rights.specs.Classes.{Class, Initial, Made_at}
use Rattle.rights.specs.Limits.{most_descriptors}
use Rattle.rights.specs.Views.{side_seen}
use Rattle.certificate.specs.Bounds.{ModeBound, Off, On, Either, Interval, Target, In_grant, Any_node, Socket, Unknown, Held, Slot, Closed, Open, Maybe, Bound, PointBound}
use Rattle.certificate.specs.Bounds.{ChannelBound, Ceiling, End, Authority, Version, One, Two, Three, Four, Certificate}
use Rattle.certificate.specs.Growth.{copies}
use Rattle.texts.specs.Views.{name_of}
use Rattle.certificate.specs.Lines.{Line, Begins_block, Bounds_register, Bounds_slot, Bounds_channel, Begins_authority, Bounds_grant, Holds_end}

abbrev pub class_of : ClassCode → Class
class_of (class.Initial pair) = Initial pair.number
class_of (class.MadeAt program point) = Made_at (name_of program) point

abbrev pub mode_of : ModeBoundCode → ModeBound
mode_of mode.Off = Off
mode_of mode.On = On
mode_of mode.Either = Either

abbrev pub interval_of : IntervalCode → Interval
interval_of i = record { low = i.low; high = i.high }

abbrev pub target_of : TargetCode → Target
target_of (target.InGrant name) = In_grant (name_of name)
target_of target.AnyNode = Any_node
target_of (target.Socket c s) = Socket (class_of c) (side_seen s)
target_of target.Unknown = Unknown

abbrev pub held_of : HeldCode → Held
held_of h = record {
  target = target_of h.target;
  least = h.rights.least.0;
  greatest = h.rights.greatest.0;
  least_fcntls = h.fcntls.least.0;
  greatest_fcntls = h.fcntls.greatest.0;
}

abbrev pub slot_of : SlotCode → Slot
slot_of slots.Closed = Closed
slot_of (slots.Open held) = Open (held_of held)
slot_of (slots.Maybe held) = Maybe (held_of held)

abbrev pub bound_of : BoundCode → Bound
bound_of b = record { mode = mode_of b.mode; registers = map interval_of b.registers; slots = map slot_of b.slots }

-- slots, of which some are what they may be, one after another
unfoldable pub slots_with : List Slot → List NumberedSlot → List Slot
slots_with slots [] = slots
slots_with slots (k ∷ kept) = slots_with (slice_set slots k.number (slot_of k.slot)) kept

abbrev pub point_of : PointCode → PointBound
point_of p = record {
  program = name_of p.program;
  point = p.point;
  bound = record { mode = mode_of p.mode; registers = map interval_of p.registers; slots = slots_with (copies most_descriptors Closed) p.slots.items };
}

abbrev pub points_of : List PointCode → List PointBound
points_of points = map point_of points

abbrev pub channel_of : ChannelCode → ChannelBound
channel_of c = record { class = class_of c.class; side = side_seen c.side; sends = option_map held_of c.sends }

abbrev pub channels_of : List ChannelCode → List ChannelBound
channels_of channels = map channel_of channels

abbrev pub ceiling_of : CeilingCode → Ceiling
ceiling_of c = record { grant = name_of c.grant; rights = c.rights.0 }

abbrev pub held_end_of : EndCode → End
held_end_of e = record { class = class_of e.class; side = side_seen e.side }

abbrev pub authority_of : AuthorityCode → Authority
authority_of a = record { program = name_of a.program; ceilings = map ceiling_of a.ceilings.items; holds = map held_end_of a.holds.items }

abbrev pub authorities_of : List AuthorityCode → List Authority
authorities_of authorities = map authority_of authorities

abbrev pub version_of : VersionCode → Version
version_of version.One = One
version_of version.Two = Two
version_of version.Three = Three
version_of version.Four = Four

abbrev pub certificate_with : Version → List PointCode → List ChannelCode → List AuthorityCode → Certificate
certificate_with v points channels authorities = record {
  version = v;
  points = points_of points;
  channels = channels_of channels;
  authorities = authorities_of authorities;
}

abbrev pub line_of : LineCode → Line
line_of (line.Block name number m) = Begins_block (name_of name) number (mode_of m)
line_of (line.Register number values) = Bounds_register number (interval_of values)
line_of (line.Slot number s) = Bounds_slot number (slot_of s)
line_of (line.Channel channel) = Bounds_channel (channel_of channel)
line_of (line.Authority name) = Begins_authority (name_of name)
line_of (line.Ceiling ceiling) = Bounds_grant (ceiling_of ceiling)
line_of (line.Hold held) = Holds_end (held_end_of held)
