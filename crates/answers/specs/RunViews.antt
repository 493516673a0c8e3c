-- What runs that were found stand for.
use Rattle.std.specs.Prelude.{List, map}
use Rattle.answers.specs.declared.showing.Run.{Run as RunCode}
use Rattle.answers.specs.Learnt.{Run}
use Rattle.follow.specs.Views.{witness_of}
use Rattle.records.specs.EntryViews.{calls_seen}

abbrev pub run_of : RunCode → Run
run_of run = record { calls = calls_seen run.entries.now; witness = witness_of run.witness }

abbrev pub runs_of : List RunCode → List Run
runs_of runs = map run_of runs
