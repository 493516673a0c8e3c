use Rattle.std.proofs.Common.{◌≡◌, drop, []}
use Rattle.records.specs.Quoted.{Before, unquoted_from}
use Rattle.records.specs.QuotedViews.{progress_seen}
use Rattle.records.proofs.quoting.unquoted.Given as goal

-- what is left decides it
abbrev pub invariant-loop-byte : goal.invariant-loop-byte
invariant-loop-byte l = unquoted_from (drop l.byte-index l.word) l.bytes.items (progress_seen l.progress) ≡ unquoted_from l.word [] Before
