-- Flat certificates of small tasks, by computation.
use Rattle.std.proofs.Common.{◌≡◌, refl, ℕ, true, false, List, [], ◌∷◌}
use Rattle.std.specs.Prelude.{◌+◌, codes, Some, None}
use Rattle.rights.specs.Sets.{all_commands, all_rights, further_right, further_rights, plain_rights, read_right, seek_right}
use Rattle.rights.specs.Operations.{Look, Read as Reads}
use Rattle.instruction_set.specs.Programs.{Instruction, Halt, Invoke, Cap_enter, Read, Number}
use Rattle.task.specs.Breaches.{small_tree}
use Rattle.task.specs.Plans.{On_node, NamedProgram, Plan, Start, unmarked}
use Rattle.certificate.specs.Bounds.{On, Either, In_grant, Slot, Closed, Bound, PointBound, Version, Two, Four, Certificate, bound_in, full_interval}
use Rattle.certificate.specs.Bounds as bounds
use Rattle.certificate.specs.Growth.{copies, open_bound}
use Rattle.task.specs.Policies.{grant_named}
use Rattle.rules.specs.Slots.{slots_in, free_numbers}
use Rattle.rules.specs.Uses.{uses}
use Rattle.rules.specs.Channels.{channel_at}
use Rattle.rules.specs.Outcomes.{successes, successes_in, error_outcomes}
use Rattle.rules.specs.Rules.{tests, tests_without, authority_tests, mark_tests}
use Rattle.rules.specs.Verdicts.{found_with, found_at, first_found}
use Rattle.searcher.specs.Flat.{flat, plain_flat, grant_target, next_behind, points_behind, points_from}

-- One process `main`, with `/work/in` open for reading as descriptor 2, and the grant `work` to look and read.
abbrev sample : List Instruction → ℕ → Plan
sample code rights = record {
  nodes = small_tree;
  grants = record { name = codes "work"; path = codes "work" ∷ []; operations = Look ∷ Reads ∷ [] } ∷ [];
  programs = unmarked (codes "main") code ∷ [];
  starts =
      record {
        program = 0;
        mode = false;
        descriptors =
            record { number = 2; object = On_node 2 (record { readable = true; writable = false }); rights = rights; fcntls = all_commands } ∷ [];
      }
      ∷ [];
  wide = false;
}

abbrev enters_and_reads : List Instruction
enters_and_reads = Invoke Cap_enter 2 ∷ Invoke (Read (Number 2)) 2 ∷ Halt ∷ []

abbrev in_work : ℕ → ℕ → Slot
in_work least greatest = bounds.Open (record {
  target = In_grant (codes "work");
  least = least;
  greatest = greatest;
  least_fcntls = all_commands;
  greatest_fcntls = all_commands;
})

abbrev bound_with : ℕ → ℕ → Bound
bound_with least greatest = record {
  mode = Either;
  registers = copies 8 full_interval;
  slots = Closed ∷ Closed ∷ in_work least greatest ∷ copies 13 Closed;
}

abbrev three_points : Version → ℕ → ℕ → Certificate
three_points version least greatest = record {
  version = version;
  points =
      record { program = codes "main"; point = 0; bound = bound_with least greatest }
      ∷ record { program = codes "main"; point = 1; bound = bound_with least greatest }
      ∷ record { program = codes "main"; point = 2; bound = bound_with least greatest }
      ∷ [];
  channels = [];
  authorities = [];
}

-- Of further rights nothing is said.
flat_of_a_reader : flat (sample enters_and_reads all_rights) ≡ Some (three_points Two plain_rights all_rights)
unfolding plain_flat grant_target points_from next_behind points_behind
flat_of_a_reader = refl

-- It meets the rules; and it doesn't where the descriptor lacks the right to read.
meets_the_rules : first_found (sample enters_and_reads all_rights) (three_points Two plain_rights all_rights) ≡ None
unfolding first_found found_at found_with tests tests_without bound_in grant_named slots_in free_numbers uses channel_at successes successes_in error_outcomes mark_tests authority_tests
meets_the_rules = refl

flat_of_a_reader_without_the_right : flat (sample enters_and_reads seek_right) ≡ Some (three_points Two seek_right (seek_right + further_rights))
unfolding plain_flat grant_target points_from next_behind points_behind
flat_of_a_reader_without_the_right = refl

lacks_the_right : first_found (sample enters_and_reads seek_right) (three_points Two seek_right (seek_right + further_rights)) ≡ Some (0, 1, 7)
unfolding first_found found_at found_with tests tests_without bound_in grant_named slots_in free_numbers uses channel_at successes successes_in error_outcomes mark_tests authority_tests
lacks_the_right = refl

-- In a task that asks for further rights each descriptor has its own, of both kinds.
abbrev reads_and_polls : ℕ
reads_and_polls = read_right + seek_right + further_right 4

flat_of_a_wide_task : flat (record (sample enters_and_reads reads_and_polls) { wide = true }) ≡ Some (three_points Four reads_and_polls reads_and_polls)
unfolding plain_flat grant_target points_from next_behind points_behind
flat_of_a_wide_task = refl

-- A task with a marked program has no flat certificate.
none_of_a_marked_program : flat (record (sample enters_and_reads all_rights) { programs = record (unmarked (codes "main") enters_and_reads) { marked = true } ∷ [] }) ≡ None
none_of_a_marked_program = refl

-- Two first processes of one program have no flat certificate; and blocks stand by names.
abbrev halts : List ℕ → NamedProgram
halts name = unmarked name (Halt ∷ [])

abbrev bare : ℕ → Start
bare program = record { program = program; mode = true; descriptors = [] }

abbrev of_two : ℕ → ℕ → Plan
of_two first second = record {
  nodes = small_tree;
  grants = [];
  programs = halts (codes "main") ∷ halts (codes "child") ∷ [];
  starts = bare first ∷ bare second ∷ [];
  wide = false;
}

none_of_one_program : flat (of_two 0 0) ≡ None
unfolding plain_flat
none_of_one_program = refl

abbrev at_its_start : List ℕ → PointBound
at_its_start name = record { program = name; point = 0; bound = open_bound On }

by_their_names : flat (of_two 0 1) ≡ Some (record { version = Two; points = at_its_start (codes "child") ∷ at_its_start (codes "main") ∷ []; channels = []; authorities = [] })
unfolding plain_flat grant_target points_from next_behind points_behind
by_their_names = refl
