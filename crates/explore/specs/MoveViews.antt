-- What the code's moves stand for.
use Rattle.std.specs.Prelude.{Bool, true, Option, Some, None, option_map}
use Rattle.instruction_set.specs.Paths.{calls_with_valid_paths}
use Rattle.instruction_set.specs.Programs.{Instruction}
use Rattle.kernel.specs.Answers.{Event}
use Rattle.kernel.specs.Hostile.{Act}
use Rattle.syscalls.specs.Views.{event_of}
use Rattle.explore.specs.declared.attacks.Move.{Move as MoveCode}
use Rattle.explore.specs.Attacks.{act_by}
use Rattle.explore.specs.Broken.{Move}

-- the instruction of its deed, if it has one
abbrev pub deed_in : MoveCode → Option Instruction
deed_in m = option_map (λ d. d.now) m.deed

abbrev pub act_of : MoveCode → Act
act_of m = act_by (deed_in m)

abbrev pub event_at : MoveCode → Event
event_at m = event_of m.event

abbrev pub move_of : MoveCode → Move
move_of m = (event_at m, act_of m)

-- its deed's paths are those that programs may have
abbrev pub have_paths : Option Instruction → Bool
have_paths None = true
have_paths (Some i) = calls_with_valid_paths i

abbrev pub are_paths_of : MoveCode → Bool
are_paths_of m = have_paths (deed_in m)
