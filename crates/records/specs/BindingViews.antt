-- What the code awaits of the words behind an outcome, and what they come to.
use Rattle.std.specs.Prelude.{◌≡◌, map, Result, Ok, Err}
use Rattle.records.specs.declared.bindings.Awaited.{Awaited as AwaitedCode}
use Rattle.records.specs.declared.bindings.Awaited.TheVariants as awaited
use Rattle.records.specs.declared.bindings.Step.{Step as StepCode}
use Rattle.records.specs.declared.bindings.Step.TheVariants as steps
use Rattle.records.specs.declared.bindings.Bound.{Bound as BoundCode}
use Rattle.records.specs.declared.faults.LineFault.{LineFault}
use Rattle.records.specs.declared.faults.LineFault.TheVariants as line
use Rattle.records.specs.EntryViews.{binding_seen}
use Rattle.records.specs.Readings.{Awaited, Next, What, Pair, Side, Amount, Nothing, Bindings, BindingStep, Awaits, Binds, Refuses}

abbrev pub awaited_seen : AwaitedCode → Awaited
awaited_seen awaited.Next = Next
awaited_seen (awaited.What descriptor) = What descriptor
awaited_seen (awaited.Pair descriptor) = Pair descriptor
awaited_seen (awaited.Side descriptor pair) = Side descriptor pair
awaited_seen awaited.Amount = Amount
awaited_seen (awaited.Nothing bytes) = Nothing bytes

abbrev pub step_seen : StepCode → BindingStep
step_seen (steps.Awaits next) = Awaits (awaited_seen next)
step_seen (steps.Binds binding) = Binds (binding_seen binding)

-- It is what the word does, or the word may not stand there; want of memory aside.
abbrev pub Steps : Result StepCode LineFault → BindingStep → Type 0
Steps (Ok s) binding_step = binding_step ≡ step_seen s
Steps (Err line.Form) binding_step = binding_step ≡ Refuses
Steps (Err line.Memory) binding_step = Unit {0}

abbrev pub bound_seen : BoundCode → Bindings
bound_seen bound = (map binding_seen bound.bindings.items, bound.bytes)
