-- Tasks that aren't sandboxed, each for another reason, and a step that isn't safe: what the headline refuses.
use Rattle.std.specs.Prelude.{ℕ, Bool, true, false, List, [], ◌∷◌, codes, Some}
use Rattle.rights.specs.Opens.{open_request}
use Rattle.rights.specs.Operations.{Operation, Look, Read as Reads, Remove as Removes}
use Rattle.rights.specs.Sets.{all_rights, all_commands, seek_right}
use Rattle.file_tree.specs.Nodes.{Node, File, Dir}
use Rattle.instruction_set.specs.Programs.{Syscall, Halt, Invoke, Cap_enter, Open, Read, Write, Renameat, Number}
use Rattle.kernel.specs.Steps.{No_call, Stepped}
use Rattle.kernel.specs.Gainful.{wide, two_processes, with_at, setting, event_by}
use Rattle.task.specs.Plans.{On_node, Plan, unmarked}
use Rattle.task.specs.Sandboxed.{IsSafe, IsSandboxed}

-- the root, `/work`, and the file `/work/in` with the bytes `AB`
abbrev pub small_tree : List Node
small_tree =
    record { kind = Dir; place = []; linked = true; content = [] }
    ∷ record { kind = Dir; place = codes "work" ∷ []; linked = true; content = [] }
    ∷ record { kind = File; place = codes "work" ∷ codes "in" ∷ []; linked = true; content = codes "AB" }
    ∷ []

-- One process enters the mode and then makes the call. It has a node as descriptor 2, with these rights, to read and maybe
-- to write, and the grant of `/work` lists these operations.
abbrev pub entering : List Operation → ℕ → ℕ → Bool → Syscall → Plan
entering operations rights node writable call = record {
  nodes = small_tree;
  grants = record { name = codes "work"; path = codes "work" ∷ []; operations = operations } ∷ [];
  programs = unmarked (codes "main") (Invoke Cap_enter 2 ∷ Invoke call 2 ∷ Halt ∷ []) ∷ [];
  starts =
      record {
        program = 0;
        mode = false;
        descriptors =
            record {
              number = 2;
              object = On_node node (record { readable = true; writable = writable });
              rights = rights;
              fcntls = all_commands;
            }
            ∷ [];
      }
      ∷ [];
  wide = false;
}

-- reads without the right to
abbrev pub reading_plan : Plan
reading_plan = entering (Look ∷ Reads ∷ []) seek_right 2 false (Read (Number 2))

-- opens a file by its path alone, in the mode
abbrev pub opening_plan : Plan
opening_plan = entering (Look ∷ Reads ∷ []) all_rights 2 false (Open (codes "/work/in") (open_request true false false false false))

-- writes into a file of a grant that lists reading alone
abbrev pub writing_plan : Plan
writing_plan = entering (Look ∷ Reads ∷ []) all_rights 2 true (Write (Number 2) (Number 66))

-- moves a file within a grant that lists removing alone: of the two effects the second isn't allowed
abbrev pub moving_plan : Plan
moving_plan = entering (Removes ∷ []) all_rights 1 false (Renameat (Number 2) (codes "in") (Number 2) (codes "new"))

-- What no step does: the second process of two sets a register, with no effect that its line shows, and has a descriptor more,
-- with all rights.
abbrev pub gaining : Stepped
gaining = record { world = with_at 1 1 wide; acted = Some (record { program = 0; point = 0; outcome = No_call; effects = [] }) }

pub record SomeAreNotSandboxed : Type 0 where
  pub missing_right : IsSandboxed reading_plan → ⊥
  pub capability_mode : IsSandboxed opening_plan → ⊥
  pub unlisted_operation : IsSandboxed writing_plan → ⊥
  pub second_effect : IsSandboxed moving_plan → ⊥
  pub gained_descriptor : IsSafe setting [] two_processes (event_by 1) gaining → ⊥
