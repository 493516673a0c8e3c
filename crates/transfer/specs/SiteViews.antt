-- Where calls lead from a point of the code.
use Rattle.std.specs.Prelude.{List}
use Rattle.certificate.specs.Bounds.{Target, Held, Bound, Closed, with_slot}
use Rattle.certificate.specs.Bounds as bounds
use Rattle.certificate.specs.Views.{bound_of}
use Rattle.texts.specs.Views.{name_of}
use Rattle.rules.specs.Intervals.{only}
use Rattle.rules.specs.Slots.{OpenSlot}
use Rattle.rules.specs.Outcomes.{Outcome, beneath_target, leads_on, takes, opens_beneath, receives_at}
use Rattle.transfer.specs.declared.successes.Site.{Site}
use Rattle.transfer.specs.declared.successes.Act.{Act}
use Rattle.transfer.specs.declared.successes.Act.TheVariants as act
use Rattle.transfer.specs.declared.successes.Limit.{Limit}
use Rattle.transfer.specs.declared.successes.Limit.TheVariants as limits

abbrev pub taken_at : Site → Held → List Outcome
taken_at s h = takes s.task.now.grants s.cert.now (name_of s.name.now) s.point (bound_of s.bound.now) h

abbrev pub received_at : Site → Target → List Outcome
received_at s t = receives_at s.task.now.grants s.cert.now (name_of s.name.now) s.point (bound_of s.bound.now) t

-- on to the next point, with register 0 at 0
abbrev pub to_next : Site → Bound → List Outcome
to_next s after = leads_on s.task.now.grants s.cert.now (name_of s.name.now) s.point (bound_of s.bound.now) after (only 0)

-- with what a limit leaves
abbrev pub left_by_limit : Held → Limit → Held
left_by_limit h (limits.Rights left) = record h { least = left.least.0; greatest = left.greatest.0 }
left_by_limit h (limits.Commands left) = record h { least_fcntls = left.least.0; greatest_fcntls = left.greatest.0 }

-- what a call does with a slot
abbrev pub acted : Site → Act → OpenSlot → List Outcome
acted s act.Opens slot =
    opens_beneath s.task.now.grants s.cert.now (name_of s.name.now) s.point (bound_of s.bound.now) slot.held (beneath_target slot.held.target)
acted s act.Receives slot = received_at s slot.held.target
acted s act.Copies slot = taken_at s slot.held
acted s act.Closes slot = to_next s (with_slot (bound_of s.bound.now) slot.number Closed)
acted s (act.Limits limit) slot = to_next s (with_slot (bound_of s.bound.now) slot.number (bounds.Open (left_by_limit slot.held limit)))
