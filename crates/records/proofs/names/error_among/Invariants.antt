use Rattle.std.proofs.Common.{◌≡◌, map, drop}
use Rattle.rights.specs.Views.{errno_of}
use Rattle.rights.specs.Errors.{errno_name}
use Rattle.records.specs.Named.{named_by}
use Rattle.records.proofs.names.error_among.Given as goal

-- those that are left decide it
abbrev pub invariant-loop-error : goal.invariant-loop-error
invariant-loop-error l = named_by errno_name (map errno_of (drop l.error-index l.errors)) l.word ≡ named_by errno_name (map errno_of l.errors) l.word
