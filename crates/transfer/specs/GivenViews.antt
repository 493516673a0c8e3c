-- Where calls lead that leave all slots as they are.
use Rattle.std.specs.Prelude.{Bool, true, List, [], if◌then◌else◌}
use Rattle.std.specs.List.{flat_map}
use Rattle.certificate.specs.Bounds.{Interval, Target}
use Rattle.certificate.specs.Views.{bound_of}
use Rattle.texts.specs.Views.{name_of}
use Rattle.instruction_set.specs.Programs.{Operand}
use Rattle.rules.specs.Slots.{OpenSlot, slots_in}
use Rattle.rules.specs.Outcomes.{Outcome, may_be_end, may_be_node, leads_on}
use Rattle.transfer.specs.declared.successes.Site.{Site}
use Rattle.transfer.specs.declared.given.Kind.{Kind}
use Rattle.transfer.specs.declared.given.Kind.TheVariants as kind

abbrev pub may_be : Kind → Target → Bool
may_be kind.Any t = true
may_be kind.Node t = may_be_node t
may_be kind.End t = may_be_end t

-- on to the next point, with register 0 in an interval
abbrev pub stays : Site → Interval → List Outcome
stays s i = leads_on s.task.now.grants s.cert.now (name_of s.name.now) s.point (bound_of s.bound.now) (bound_of s.bound.now) i

-- these outcomes for each slot that may be of a kind
abbrev pub where_kind : Kind → List Outcome → OpenSlot → List Outcome
where_kind k rest slot = if may_be k slot.held.target then rest else []

abbrev pub given_at : Site → Operand → Kind → Interval → List Outcome
given_at s x k i = flat_map (where_kind k (stays s i)) (slots_in (bound_of s.bound.now) x)

abbrev pub both_given : Site → Operand → Kind → Operand → Kind → Interval → List Outcome
both_given s x k y l i = flat_map (where_kind k (given_at s y l i)) (slots_in (bound_of s.bound.now) x)
