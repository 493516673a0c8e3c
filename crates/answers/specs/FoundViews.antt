-- What was found for records: a run for each, in their order, or not.
use Rattle.std.specs.Prelude.{◌≡◌, List, map}
use Rattle.answers.specs.declared.showing.Found.{Found}
use Rattle.answers.specs.declared.showing.Found.TheVariants as found
use Rattle.answers.specs.Learnt.{calls_in}
use Rattle.answers.specs.RunViews.{runs_of}
use Rattle.records.specs.Calls.{RecordedCalls}

abbrev pub AreFor : List RecordedCalls → Found → Type 0
AreFor records (found.Runs runs) = map calls_in (runs_of runs.items) ≡ records
AreFor records (found.Lost at) = Unit {0}
