-- What is open after a file or directory is opened. (open(2), openat(2))
use Rattle.std.specs.Prelude.{ℕ, Bool, Option, Some}
use Rattle.rights.specs.Maps.{put, put2}
use Rattle.fd_table.specs.Descriptions.{Access, Object, At_node, Descriptor, new_state, descriptor_of}
use Rattle.fd_table.specs.OpenFiles.{OpenFiles}

abbrev pub with_table : OpenFiles → (ℕ → ℕ → Option Descriptor) → OpenFiles
with_table f table = record f { table = table }

-- the entry of process p at n
abbrev pub with_entry : OpenFiles → ℕ → ℕ → Option Descriptor → OpenFiles
with_entry f p n entry = with_table f (put2 f.table p n entry)

-- a description at a number, at its beginning
abbrev pub described : OpenFiles → ℕ → Object → Bool → OpenFiles
described f n object append = record f { objects = put f.objects n object; states = put f.states n (new_state append) }

-- A file or directory is opened under a number that nobody names.
abbrev pub with_opened : OpenFiles → ℕ → ℕ → ℕ → ℕ → Access → Bool → ℕ → ℕ → OpenFiles
with_opened f description p n node access append rights fcntls =
    with_entry (described f description (At_node node access) append) p n (Some (descriptor_of description rights fcntls))
