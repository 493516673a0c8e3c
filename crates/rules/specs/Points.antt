-- The points of a task's programs.
use Rattle.std.specs.Prelude.{ℕ, Option}
use Rattle.std.specs.List.{slice_get}
use Rattle.instruction_set.specs.Programs.{Instruction}
use Rattle.task.specs.Plans.{Plan, programs_of_plan}

-- A program is given by its place in the task.
abbrev pub instruction_at : Plan → ℕ → ℕ → Option Instruction
instruction_at plan program point = slice_get (programs_of_plan plan program) point
