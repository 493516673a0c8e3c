use Rattle.std.proofs.Common.{◌≡◌, map, drop}
use Rattle.rights.specs.Views.{call_of}
use Rattle.rights.specs.Calls.{call_name}
use Rattle.records.specs.Named.{named_by}
use Rattle.records.proofs.names.call_among.Given as goal

-- those that are left decide it
abbrev pub invariant-loop-call : goal.invariant-loop-call
invariant-loop-call l = named_by call_name (map call_of (drop l.call-index l.calls)) l.word ≡ named_by call_name (map call_of l.calls) l.word
