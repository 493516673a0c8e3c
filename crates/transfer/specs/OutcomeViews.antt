-- What the outcomes of the code stand for.
use Rattle.std.specs.Prelude.{List, [], ◌∷◌, Option, Some, None}
use Rattle.certificate.specs.Bounds.{Bound, with_interval, with_slot}
use Rattle.certificate.specs.Views.{bound_of, interval_of, slot_of}
use Rattle.rules.specs.Outcomes.{Outcome}
use Rattle.transfer.specs.declared.outcomes.Change.{Change}
use Rattle.transfer.specs.declared.outcomes.Change.TheVariants as change
use Rattle.transfer.specs.declared.outcomes.Outcome.{Outcome as OutcomeCode}

abbrev pub bound_changed : Bound → Change → Bound
bound_changed b change.Nothing = b
bound_changed b (change.Register register i) = with_interval b register (interval_of i)
bound_changed b (change.Slot number s given) = with_interval (with_slot b number (slot_of s)) 0 (interval_of given)

abbrev pub outcome_of : OutcomeCode → Outcome
outcome_of o = record { point = o.point; bound = bound_changed (bound_of o.bound.now) o.change }

abbrev pub outcomes_of : Option OutcomeCode → List Outcome
outcomes_of None = []
outcomes_of (Some o) = outcome_of o ∷ []
