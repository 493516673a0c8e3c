use Rattle.std.proofs.Common.{◌≡◌, false, ◌++◌, drop}
use Rattle.std.specs.List.{flat_map}
use Rattle.answers.specs.Learnt.{run_text}
use Rattle.answers.specs.RunViews.{runs_of}
use Rattle.follow.specs.Views.{placings_of}
use Rattle.answers.proofs.showing.add_runs.Given as goal

-- with the runs that are left it is the whole text
abbrev pub invariant-loop-run : goal.invariant-loop-run
invariant-loop-run l = record {
  keeps : l.page.is_short ≡ false → l.fn.page.is_short ≡ false;
  adds : l.page.is_short ≡ false → l.page.bytes.items ++ flat_map (run_text (placings_of l.placings)) (runs_of (drop l.run-index l.runs))
      ≡ l.fn.page.bytes.items ++ flat_map (run_text (placings_of l.placings)) (runs_of l.runs);
}
