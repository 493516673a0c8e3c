-- Which texts are a task's. (own)
use Rattle.std.specs.Prelude.{◌≡◌, ℕ, List, Ok}
use Rattle.task.specs.Plans.{Plan}
use Rattle.task_reader.specs.Reading.{task_of}

abbrev pub IsTaskText : List ℕ → Type 0
IsTaskText text = (plan : Plan) × (task_of text ≡ Ok plan)
