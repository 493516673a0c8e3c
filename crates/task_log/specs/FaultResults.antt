-- The results for a text that is refused as a task: each fault that is told, at its place, and by what the text is refused. (own)
use Rattle.std.specs.Prelude.{ℕ, ◌++◌, ◌-◌, ◌^◌, List, [], ◌∷◌, None, Some, codes, map, min, nat_lt, if◌then◌else◌}
use Rattle.std.specs.Fmt.{decimal}
use Rattle.sarif.specs.Logs.{Finding, error, named}
use Rattle.task_text.specs.FaultLines.{Fault}

abbrev pub fault_result : Fault → Finding
fault_result fault =
    record {
      rule = named (codes "task-text");
      level = error;
      message = fault.words;
      place = Some (record { line = fault.line; column = Some fault.column });
      related = [];
    }

-- how many faults are left out, where some are
abbrev pub left_out_text : ℕ → List ℕ
left_out_text left_out = if nat_lt 0 left_out then codes "; faults that are left out: " ++ decimal (min left_out (2 ^ 32 - 1)) else []

abbrev pub refusal_result : List ℕ → ℕ → Finding
refusal_result refusal left_out =
    record {
      rule = named (codes "task-text");
      level = error;
      message = (codes "the task is refused: " ++ refusal) ++ left_out_text left_out;
      place = None;
      related = [];
    }

abbrev pub fault_results : List Fault → List ℕ → ℕ → List Finding
fault_results faults refusal left_out = map fault_result faults ++ refusal_result refusal left_out ∷ []
