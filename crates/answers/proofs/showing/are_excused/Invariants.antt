use Rattle.std.proofs.Common.{◌≡◌, true, drop}
use Rattle.std.specs.List.{list_all}
use Rattle.answers.specs.Learnt.{has_excuses}
use Rattle.answers.specs.RunViews.{runs_of}
use Rattle.follow.specs.Views.{placings_of}
use Rattle.answers.proofs.showing.are_excused.Given as goal

-- if it is so of the runs that are left, it is of all
abbrev pub invariant-loop-run : goal.invariant-loop-run
invariant-loop-run l = list_all (has_excuses (placings_of l.placings)) (runs_of (drop l.run-index l.runs)) ≡ true
    → list_all (has_excuses (placings_of l.placings)) (runs_of l.runs) ≡ true
