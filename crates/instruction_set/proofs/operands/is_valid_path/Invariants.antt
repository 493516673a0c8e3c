use Rattle.std.proofs.Common.{◌≡◌, drop}
use Rattle.instruction_set.specs.Programs.{is_path}
use Rattle.instruction_set.proofs.operands.is_valid_path.Given as goal

-- what is left decides it
abbrev pub invariant-loop-byte : goal.invariant-loop-byte
invariant-loop-byte l = is_path (drop l.byte-index l.bytes) ≡ is_path l.bytes
