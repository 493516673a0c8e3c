-- Tasks that aren't confined, each for another reason.
use Rattle.std.specs.Prelude.{◌+◌, ℕ, true, false, List, [], ◌∷◌, codes}
use Rattle.rights.specs.Operations.{Look, Read as Reads}
use Rattle.rights.specs.Sets.{all_rights, all_commands, further_right, lookup_right, mkdirat_right, seek_right}
use Rattle.instruction_set.specs.Programs.{Instruction, Halt, Invoke, Read, Recvfd, Sendfd, Number}
use Rattle.task.specs.Breaches.{small_tree}
use Rattle.task.specs.Plans.{FirstDescriptor, FirstObject, On_node, On_end, Plan, unmarked}
use Rattle.task.specs.Confined.{IsConfined}

-- a first descriptor with these rights
abbrev pub starting_with_rights : ℕ → FirstObject → ℕ → FirstDescriptor
starting_with_rights number object rights = record { number = number; object = object; rights = rights; fcntls = all_commands }

abbrev pub open_directory : ℕ → FirstObject
open_directory node = On_node node (record { readable = true; writable = false })

-- `main` is trusted and starts outside the mode, `child` isn't and starts in it. They have the two ends of a pair as descriptor 0,
-- and each one directory more, as descriptor 1. The grant of `/work` lists looking and reading.
abbrev pub taken_over : List Instruction → List FirstDescriptor → List FirstDescriptor → Plan
taken_over code own others = record {
  nodes = small_tree;
  grants = record { name = codes "work"; path = codes "work" ∷ []; operations = Look ∷ Reads ∷ [] } ∷ [];
  programs = unmarked (codes "main") code ∷ record (unmarked (codes "child") (Halt ∷ [])) { marked = true } ∷ [];
  starts =
      record { program = 0; mode = false; descriptors = starting_with_rights 0 (On_end 0 0) all_rights ∷ own }
      ∷ record { program = 1; mode = true; descriptors = starting_with_rights 0 (On_end 0 1) all_rights ∷ others }
      ∷ [];
  wide = false;
}

-- the child holds a directory with a right too many, and makes another one there
abbrev pub making_plan : Plan
making_plan = taken_over (Halt ∷ []) [] (starting_with_rights 1 (open_directory 1) (lookup_right + mkdirat_right) ∷ [])

-- the task asks for further rights, and the child holds a directory whose mode it may set
abbrev pub using_plan : Plan
using_plan = record (taken_over (Halt ∷ []) [] (starting_with_rights 1 (open_directory 1) (further_right 7) ∷ [])) { wide = true }

-- `main` reads through what the child sends it, which can't be read through
abbrev pub trusting_plan : Plan
trusting_plan = taken_over (Invoke (Recvfd (Number 0)) 2 ∷ Invoke (Read (Number 1)) 2 ∷ Halt ∷ []) [] (starting_with_rights 1 (open_directory 1) seek_right ∷ [])

-- `main` sends the root with all rights, and the child makes a directory there
abbrev pub letting_plan : Plan
letting_plan = taken_over (Invoke (Sendfd (Number 0) (Number 1) (Number 0)) 1 ∷ Halt ∷ []) (starting_with_rights 1 (open_directory 0) all_rights ∷ []) []

pub record SomeAreNotConfined : Type 0 where
  pub right_too_many : IsConfined making_plan → ⊥
  pub further_right_too_many : IsConfined using_plan → ⊥
  pub trusted_end : IsConfined trusting_plan → ⊥
  pub channel_too_wide : IsConfined letting_plan → ⊥
