-- What the code's entries stand for.
use Rattle.std.specs.Prelude.{map, option_map, List}
use Rattle.rights.specs.Views.{call_of, errno_of, side_seen}
use Rattle.records.specs.declared.entries.Span.{Span as SpanCode}
use Rattle.records.specs.declared.entries.Outcome.{Outcome as OutcomeCode}
use Rattle.records.specs.declared.entries.Outcome.TheVariants as outcome
use Rattle.records.specs.declared.entries.Binding.{Binding as BindingCode}
use Rattle.records.specs.declared.entries.Binding.TheVariants as binding
use Rattle.records.specs.declared.entries.RecordedEnd.{RecordedEnd as EndCode}
use Rattle.records.specs.declared.entries.MadeCall.{MadeCall as MadeCode}
use Rattle.records.specs.declared.entries.Reason.{Reason as ReasonCode}
use Rattle.records.specs.declared.entries.Reason.TheVariants as reason
use Rattle.records.specs.declared.entries.WantedRight.{WantedRight as WantedCode}
use Rattle.records.specs.declared.entries.LeftOut.{LeftOut as LeftOutCode}
use Rattle.records.specs.declared.entries.Event.{Event as EventCode}
use Rattle.records.specs.declared.entries.Event.TheVariants as event
use Rattle.records.specs.declared.entries.Entry.{Entry as EntryCode}
use Rattle.records.specs.OperandViews.{operand_seen}
use Rattle.records.specs.Calls.{RecordedOutcome, Succeeds, Fails, Binding, Is_place, Is_end, RecordedEnd, MadeCall, Reason, Loader, Quiet, Global, Right, Unknown, Name, WantedRight, LeftOut}
use Rattle.records.specs.Calls.{RecordedEvent, Called, Ended, Omitted, RecordSpan, RecordEntry, RecordedCalls}

abbrev pub record_span_seen : SpanCode → RecordSpan
record_span_seen span = record { first = span.first; last = span.last }

abbrev pub outcome_seen : OutcomeCode → RecordedOutcome
outcome_seen (outcome.Success answer) = Succeeds answer
outcome_seen (outcome.Failure error) = Fails (errno_of error)

abbrev pub binding_seen : BindingCode → Binding
binding_seen (binding.Place descriptor place) = Is_place descriptor place.items
binding_seen (binding.End descriptor pair side) = Is_end descriptor pair (side_seen side)

abbrev pub recorded_end_seen : EndCode → RecordedEnd
recorded_end_seen end = record { pair = end.pair; side = side_seen end.side }

abbrev pub made_seen : MadeCode → MadeCall
made_seen made = record {
  call = call_of made.call;
  operands = map operand_seen made.operands.items;
  outcome = outcome_seen made.outcome;
  bindings = map binding_seen made.bindings.items;
  bytes = made.bytes;
}

abbrev pub reason_seen : ReasonCode → Reason
reason_seen reason.Loader = Loader
reason_seen reason.Quiet = Quiet
reason_seen reason.Global = Global
reason_seen reason.Right = Right
reason_seen reason.Unknown = Unknown
reason_seen reason.Name = Name

abbrev pub wanted_seen : WantedCode → WantedRight
wanted_seen wanted = record { right = wanted.right.items; descriptor = wanted.descriptor }

abbrev pub left_out_seen : LeftOutCode → LeftOut
left_out_seen left_out = record {
  reason = reason_seen left_out.reason;
  name = left_out.name.items;
  wanted = option_map wanted_seen left_out.wanted;
}

abbrev pub event_seen : EventCode → RecordedEvent
event_seen (event.Called made) = Called (made_seen made)
event_seen event.Ended = Ended
event_seen (event.Omitted left_out) = Omitted (left_out_seen left_out)

abbrev pub record_entry_seen : EntryCode → RecordEntry
record_entry_seen entry = record { span = record_span_seen entry.span; process = entry.process; event = event_seen entry.event }

abbrev pub calls_seen : List EntryCode → RecordedCalls
calls_seen entries = map record_entry_seen entries
