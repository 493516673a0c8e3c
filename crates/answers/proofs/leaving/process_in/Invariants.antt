use Rattle.std.proofs.Common.{◌≡◌, drop}
use Rattle.std.specs.Prelude.{None}
use Rattle.answers.specs.Planned.{last_process}
use Rattle.records.specs.EntryViews.{calls_seen}
use Rattle.answers.proofs.leaving.process_in.Given as goal

-- from what was found so far on, the rest gives what all give
abbrev pub invariant-loop-entry : goal.invariant-loop-entry
invariant-loop-entry l = last_process l.line l.process (calls_seen (drop l.entry-index l.entries)) ≡ last_process l.line None (calls_seen l.entries)
