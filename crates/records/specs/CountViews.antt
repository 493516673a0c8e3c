-- What the code counts of the entries.
use Rattle.std.specs.Prelude.{Bool}
use Rattle.records.specs.declared.writing.Counted.{Counted}
use Rattle.records.specs.declared.writing.Counted.TheVariants.{Calls, LeftOut, Rights}
use Rattle.records.specs.Calls.{RecordedEvent}
use Rattle.records.specs.EntryViews.{reason_seen}
use Rattle.records.specs.Texts.{has_call, is_left_out, wants_right}

abbrev pub is_of_count : Counted → RecordedEvent → Bool
is_of_count Calls event = has_call event
is_of_count (LeftOut reason) event = is_left_out (reason_seen reason) event
is_of_count Rights event = wants_right event
