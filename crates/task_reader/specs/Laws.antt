-- Laws of the reading of tasks.
use Rattle.std.specs.Prelude.{◌≡◌, ℕ, true, List, Some, Ok}
use Rattle.std.specs.List.{list_all}
use Rattle.file_tree.specs.Places.{place_text, is_path_name}
use Rattle.task.specs.Plans.{Plan}
use Rattle.task.specs.Limits.{is_plan}
use Rattle.task_reader.specs.Paths.{place_of}
use Rattle.task_reader.specs.Reading.{task_of}

-- What is read as a task is one.
abbrev pub TasksReadAreValid : Type 0
TasksReadAreValid = (bytes : List ℕ) (plan : Plan) → task_of bytes ≡ Ok plan → is_plan plan ≡ true

-- A path is the text of the place that it is, and the text of each place of path names is a path.
abbrev pub PathsAreTexts : Type 0
PathsAreTexts =
    ((path : List ℕ) (place : List (List ℕ)) → place_of path ≡ Some place → place_text place ≡ path)
    × ((place : List (List ℕ)) → list_all is_path_name place ≡ true → place_of (place_text place) ≡ Some place)
