use Rattle.std.proofs.Common.{◌≡◌, drop}
use Rattle.records.specs.EntryViews.{calls_seen}
use Rattle.follow.specs.Excused.{after_moves, tallied}
use Rattle.follow.specs.TallyViews.{tally_of}
use Rattle.follow.specs.Views.{moves_of, placings_of}
use Rattle.follow.proofs.excused.tallied.Given as goal

-- what the moves so far make of it, and then those that are left
abbrev pub invariant-loop-step : goal.invariant-loop-step
invariant-loop-step l =
    after_moves (placings_of l.placings) (tally_of l.tally) (moves_of (drop l.step-index l.moves)) ≡ tallied (placings_of l.placings) (calls_seen l.entries) (moves_of l.moves)
