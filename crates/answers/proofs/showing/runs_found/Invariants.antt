use Rattle.std.proofs.Common.{◌≡◌, ◌++◌, drop, map}
use Rattle.answers.specs.Learnt.{calls_in}
use Rattle.answers.specs.RunViews.{runs_of}
use Rattle.records.specs.EntryViews.{calls_seen}
use Rattle.answers.proofs.showing.runs_found.Given as goal

-- the records of the runs so far, and then those that are left
abbrev pub invariant-loop-at : goal.invariant-loop-at
invariant-loop-at l =
    map calls_in (runs_of l.runs.items) ++ map (λ entries. calls_seen entries.items) (drop l.at l.records) ≡ map (λ entries. calls_seen entries.items) l.records
