-- What a search answers.
use Rattle.records.specs.Calls.{RecordedCalls}
use Rattle.task.specs.Plans.{Plan}
use Rattle.follow.specs.declared.following.Followed.{Followed}
use Rattle.follow.specs.declared.following.Followed.TheVariants.{Follows, Parts}
use Rattle.follow.specs.Places.{Placing}
use Rattle.follow.specs.Shows.{IsShown}
use Rattle.follow.specs.Views.{witness_of}
use Rattle.std.specs.Prelude.{List}

-- The task has a run of the witness's events, and each shows the calls. Where nothing is found, nothing is claimed.
abbrev pub IsFollowed : Plan → List Placing → RecordedCalls → Followed → Type 0
IsFollowed plan placings calls (Follows witness) = IsShown plan placings calls (witness_of witness)
IsFollowed plan placings calls (Parts parted) = Unit {0}
