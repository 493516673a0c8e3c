use Rattle.std.proofs.Common.{drop}
use Rattle.answers.specs.Learnt.{AreShown}
use Rattle.answers.specs.RunViews.{runs_of}
use Rattle.follow.specs.Views.{placings_of}
use Rattle.answers.proofs.showing.are_shown.Given as goal

-- if those that are left show their records, all do
abbrev pub invariant-loop-run : goal.invariant-loop-run
invariant-loop-run l = AreShown l.task (placings_of l.placings) (runs_of (drop l.run-index l.runs)) → AreShown l.task (placings_of l.placings) (runs_of l.runs)
