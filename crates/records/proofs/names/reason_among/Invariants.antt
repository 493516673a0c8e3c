use Rattle.std.proofs.Common.{◌≡◌, map, drop}
use Rattle.records.specs.EntryViews.{reason_seen}
use Rattle.records.specs.Named.{named_by, reason_name}
use Rattle.records.proofs.names.reason_among.Given as goal

-- those that are left decide it
abbrev pub invariant-loop-reason : goal.invariant-loop-reason
invariant-loop-reason l = named_by reason_name (map reason_seen (drop l.reason-index l.reasons)) l.word ≡ named_by reason_name (map reason_seen l.reasons) l.word
