-- Whether a call of a task is given what a recorded call was given. (own)
use Rattle.std.specs.Prelude.{◌==◌, ◌&&◌, ℕ, Bool, true, false, List, [], ◌∷◌}
use Rattle.std.specs.Bool.{beq}
use Rattle.std.specs.Str.{bytes_eq}
use Rattle.rights.specs.Opens.{OpenRequest}
use Rattle.rights.specs.Uses.{asked_rights}
use Rattle.rights.specs.Values.{ProcessNumber}
use Rattle.call_facts.specs.Arguments.{Argument, Descriptor, Path, Flags, Rights, Commands, Amount, Status, Choice}
use Rattle.kernel.specs.Answers.{operand_value}
use Rattle.records.specs.Calls.{RealOperand}
use Rattle.records.specs.Calls as real
use Rattle.follow.specs.Numbers.{FdMapping, is_number, named}
use Rattle.follow.specs.Places.{Placing, placed}

abbrev pub same_flags : OpenRequest → OpenRequest → Bool
same_flags f g = beq f.read g.read && (beq f.write g.write && (beq f.append g.append && (beq f.create g.create && beq f.trunc g.trunc)))

-- What process p of the task is given, with these registers, is what the recorded process was given, by these mappings and places. What a record has of a
-- byte, an offset or a length isn't compared, nor, where the task doesn't ask for them, further rights.
module _ (wide : Bool) (placings : List Placing) (mappings : List FdMapping) (p : ProcessNumber) (registers : List ℕ) where
  abbrev pub fits : RealOperand → Argument → Bool
  fits (real.Number n) (Descriptor x) = is_number (named mappings p n) (operand_value registers x)
  fits (real.Number n) (Amount x) = true
  fits (real.Number n) (Status x) = n == operand_value registers x
  fits (real.Path path) (Path own) = bytes_eq own (placed placings path)
  fits (real.Flags flags) (Flags own) = same_flags flags own
  fits (real.Rights rights) (Rights own) = asked_rights wide rights == own
  fits (real.Commands commands) (Commands own) = commands == own
  fits (real.Directory asked) (Choice own) = beq asked own
  fits _ _ = false

  abbrev pub all_fit : List RealOperand → List Argument → Bool
  all_fit [] [] = true
  all_fit (r ∷ operands) (a ∷ given) = fits r a && all_fit operands given
  all_fit _ _ = false
