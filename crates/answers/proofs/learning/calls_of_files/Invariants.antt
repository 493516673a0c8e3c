use Rattle.std.proofs.Common.{◌≡◌, List, ◌++◌, drop, map}
use Rattle.std.specs.Prelude.{string_bytes}
use Rattle.answers.specs.Learnt.{AreCalls}
use Rattle.records.specs.Calls.{RecordedCalls}
use Rattle.records.specs.EntryViews.{calls_seen}
use Rattle.answers.proofs.learning.calls_of_files.Given as goal

-- what is left to read comes behind what was read
abbrev pub invariant-loop-name : goal.invariant-loop-name
invariant-loop-name g l = record {
  same : g.S.Source.files l.files ≡ g.S.Source.files l.fn.files;
  read : (rest : List RecordedCalls) → AreCalls (g.S.Source.files l.fn.files) (map string_bytes (drop l.name-index l.names)) rest
      → AreCalls (g.S.Source.files l.fn.files) (map string_bytes l.names) (map (λ entries. calls_seen entries.items) l.records.items ++ rest);
}
