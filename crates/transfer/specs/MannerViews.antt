-- Where a call leads from a point of the code, by the manner in which it is asked about.
use Rattle.std.specs.Prelude.{List}
use Rattle.std.specs.List.{flat_map}
use Rattle.certificate.specs.Views.{bound_of, held_of, interval_of}
use Rattle.instruction_set.specs.Programs.{Cap_enter, Fork, Socketpair}
use Rattle.instruction_set.specs.Views.{operand_of}
use Rattle.rules.specs.Slots.{slots_in}
use Rattle.rules.specs.Outcomes.{Outcome}
use Rattle.transfer.specs.declared.calls.Manner.{Manner}
use Rattle.transfer.specs.declared.calls.Manner.TheVariants as manner
use Rattle.transfer.specs.declared.successes.Site.{Site}
use Rattle.transfer.specs.CallViews.{call_at}
use Rattle.transfer.specs.GivenViews.{both_given, given_at, stays}
use Rattle.transfer.specs.SiteViews.{acted, taken_at}

abbrev pub led_by : Site → Manner → List Outcome
led_by s (manner.Acts act operand) = flat_map (acted s act) (slots_in (bound_of s.bound.now) (operand_of operand))
led_by s (manner.Gives operand kind given) = given_at s (operand_of operand) kind (interval_of given)
led_by s (manner.GivesBoth first second given) =
    both_given s (operand_of first.0) first.1 (operand_of second.0) second.1 (interval_of given)
led_by s (manner.Stays given) = stays s (interval_of given)
led_by s (manner.Takes held) = taken_at s (held_of held)
led_by s manner.Enters = call_at s Cap_enter
led_by s manner.Pairs = call_at s Socketpair
led_by s manner.Forks = call_at s Fork
