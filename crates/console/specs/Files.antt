-- Files by name, which a source tells or doesn't, and what their texts stand for. (own)
use Rattle.std.specs.Prelude.{◌≡◌, ℕ, List, Option, Some, None, Result, Ok}
use Rattle.task.specs.Plans.{Plan}
use Rattle.task_reader.specs.Reading.{task_of}

abbrev pub Files : Type 0
Files = Option (List ℕ → Option (List ℕ))

-- This is the text of the file of this name. Nothing is said of files that aren't told.
abbrev pub IsFile : Files → List ℕ → List ℕ → Type 0
IsFile None name text = Unit {0}
IsFile (Some files) name text = files name ≡ Some text

-- There is a file of this name.
abbrev pub IsFileThere : Files → List ℕ → Type 0
IsFileThere files name = (text : List ℕ) × IsFile files name text

-- There is none.
abbrev pub IsMissing : Files → List ℕ → Type 0
IsMissing None name = Unit {0}
IsMissing (Some files) name = files name ≡ None

-- The text of the file of this name is read so.
pub record IsRead {R : Type 0} (files : Files) (name : List ℕ) (reading_of : List ℕ → R) (reading : R) : Type 0 where
  pub text : List ℕ
  pub file : IsFile files name text
  pub is : reading_of text ≡ reading

abbrev pub IsTask : Files → List ℕ → Plan → Type 0
IsTask files name plan = IsRead files name task_of (Ok plan)

-- The first of two files is a task, the second what it is read as, and this holds of both.
pub record OfFiles {R F : Type 0} (files : Files) (task second : List ℕ) (reading_of : List ℕ → Result R F) (Holds : Plan → R → Type 0) : Type 0 where
  pub plan : Plan
  pub is_task : IsTask files task plan
  pub value : R
  pub is_value : IsRead files second reading_of (Ok value)
  pub holds : Holds plan value
