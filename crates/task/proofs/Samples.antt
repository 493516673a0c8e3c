-- A plan that is valid: the tree of the kernel's samples, two grants, a program, and two processes.
use Rattle.std.proofs.Common.{◌≡◌, ℕ, true, false, [], ◌∷◌, codes, refl}
use Rattle.std.specs.Prelude.{Bool, Some}
use Rattle.rights.specs.Sets.{all_rights, all_commands, read_right}
use Rattle.rights.specs.Operations.{Look, Read, Write, Create}
use Rattle.file_tree.specs.Places.{is_file_name, is_target}
use Rattle.file_tree.specs.Refusals.{created}
use Rattle.file_tree.specs.WellFormed.{is_within_limits}
use Rattle.instruction_set.specs.Programs.{Halt}
use Rattle.fd_table.specs.Descriptions.{Initial, At_node, At_end, descriptor_of}
use Rattle.fd_table.specs.OpenFiles.{any_below, is_open}
use Rattle.kernel.proofs.Samples.{base}
use Rattle.task.specs.Plans.{Grant, On_node, On_end, FirstDescriptor, Plan, plan_with, unmarked}
use Rattle.task.specs.Limits.{is_plan}
use Rattle.task.specs.Begins.{first_files, first_world}
use Rattle.task.specs.Laws.{PlanExists}

abbrev first : ℕ → ℕ → Bool → FirstDescriptor
first number node writable = record {
  number = number;
  object = On_node node (record { readable = true; writable = writable });
  rights = all_rights;
  fcntls = all_commands;
}

abbrev end : ℕ → ℕ → ℕ → ℕ → FirstDescriptor
end number pair side rights = record { number = number; object = On_end pair side; rights = rights; fcntls = all_commands }

abbrev work : Grant
work = record { name = codes "work"; path = codes "work" ∷ []; operations = Look ∷ Read ∷ [] }

abbrev log : Grant
log = record { name = codes "log_2"; path = codes "log" ∷ []; operations = Write ∷ Create ∷ [] }

abbrev sample : Plan
sample =
    plan_with base (work ∷ log ∷ [])
    (unmarked (codes "main") (Halt ∷ []) ∷ [])
    (record { program = 0; mode = true; descriptors = first 0 1 false ∷ end 3 4 0 all_rights ∷ first 15 2 true ∷ end 5 4 0 read_right ∷ [] }
    ∷ record { program = 0; mode = false; descriptors = end 0 4 1 all_rights ∷ end 1 9 1 all_rights ∷ end 2 4 0 all_rights ∷ [] }
    ∷ [])

is_valid : is_plan sample ≡ true
unfolding base created is_within_limits is_file_name is_target
is_valid = refl

pub plan_exists : PlanExists
plan_exists = (sample, is_valid, (λ is. absurd cc), refl, refl)

-- ## Its first world
-- The descriptors of one side name one description, whoever has them and whatever their rights; the others have each their own.
one_side : (first_world sample).files.table 0 3 ≡ Some (descriptor_of 8 all_rights all_commands)
unfolding first_world first_files
one_side = refl

with_fewer_rights : (first_world sample).files.table 0 5 ≡ Some (descriptor_of 8 read_right all_commands)
unfolding first_world first_files
with_fewer_rights = refl

of_another_process : (first_world sample).files.table 1 2 ≡ Some (descriptor_of 8 all_rights all_commands)
unfolding first_world first_files
of_another_process = refl

the_other_side : (first_world sample).files.table 1 0 ≡ Some (descriptor_of 9 all_rights all_commands)
unfolding first_world first_files
the_other_side = refl

a_node : (first_world sample).files.table 0 15 ≡ Some (descriptor_of 79 all_rights all_commands)
unfolding first_world first_files
a_node = refl

both_of_a_class : ((first_world sample).files.objects 8 ≡ At_end 4 0 (Initial 4)) × ((first_world sample).files.objects 9 ≡ At_end 4 1 (Initial 4))
    × ((first_world sample).files.objects 79 ≡ At_node 2 (record { readable = true; writable = true }))
unfolding first_world first_files
both_of_a_class = (refl, refl, refl)

-- Both ends of a pair are open where both sides are listed; of a pair of which one side alone is listed, the other isn't.
open_ends : (is_open (first_world sample).files 4 0 ≡ true) × (is_open (first_world sample).files 4 1 ≡ true) × (is_open (first_world sample).files 9 1 ≡ true)
unfolding first_world first_files any_below
open_ends = (refl, refl, refl)

closed_ends : (is_open (first_world sample).files 9 0 ≡ false) × (is_open (first_world sample).files 0 0 ≡ false)
unfolding first_world first_files any_below
closed_ends = (refl, refl)
