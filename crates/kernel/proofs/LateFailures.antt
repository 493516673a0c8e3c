-- What the law of later events refuses: an event of a call under way that fails for what its first event has asked.
use Rattle.std.proofs.Common.{◌≡◌, List, [], ℕ, zero, suc, false, true, ◌∷◌, arith, codes, refl}
use Rattle.std.specs.Prelude.{Option, Some, None, replicate}
use Rattle.std.specs.List.{slice_get}
use Rattle.std.proofs.Math.Decide.{ℕ_discrete}
use Rattle.rights.specs.Errors.{BadDescriptor, ENOTCAPABLE, MissingRight}
use Rattle.rights.specs.Sets.{all_rights, all_commands, is_within}
use Rattle.rights.specs.Needs.{Second, needs_of}
use Rattle.rights.specs.Maps.{put}
use Rattle.file_tree.specs.Places.{path_components}
use Rattle.lookup.specs.Answers.{Beneath, Follow, Keep}
use Rattle.lookup.specs.Walks.{begun}
use Rattle.process.specs.State.{Deed, ProcessState, One, Two, new_process}
use Rattle.instruction_set.specs.Programs.{Number, Syscall, Fstatat, Jmp, Renameat, Invoke, called}
use Rattle.fd_table.specs.Descriptions.{Descriptor}
use Rattle.fd_table.specs.OpenFiles.{any_below}
use Rattle.kernel.specs.World.{World, Choice, IsFresh}
use Rattle.kernel.specs.Answers.{Fails, held, unless}
use Rattle.rights.specs.Opens.{no_request}
use Rattle.kernel.specs.Calls.{answer}
use Rattle.kernel.specs.Hostile.{Own, Does, IsAct, about}
use Rattle.kernel.specs.Steps.{Programs, executed, step, stepped, stepped_at, stepped_by}
use Rattle.kernel.specs.Walks.{under_way}
use Rattle.kernel.specs.LaterEvents.{AskAgain, AsksAgain, FailsLate}
use Rattle.kernel.specs.WellFormed.{FitsRegister, IsBetweenSteps}
use Rattle.kernel.proofs.Samples.{base, alone, event}

-- A lookup of `in` is under way, from `/work`.
abbrev walking_world : World
walking_world = record (alone base []) { processes = record (new_process 0 false) { walk = Some (One (begun 1 (codes "in") Beneath Follow)) } ∷ [] }

abbrev stats_from : ℕ → Programs
stats_from n program = Invoke (Fstatat (Number n) (codes "in")) 0 ∷ []

other_cause : BadDescriptor ≡ MissingRight → ⊥
other_cause is = absurd cc

-- Number 5 is closed.
closed_later : AsksAgain (stats_from 5) walking_world (event 0 0) → ⊥
unfolding ℕ_discrete held answer under_way FailsLate
closed_later asks = other_cause ((asks _ _ _ refl refl refl refl).0)

-- Number 0 has lost its rights.
abbrev no_rights_left : World
no_rights_left = record walking_world {
  files = record walking_world.files {
    table = put (λ p n. None) 0 (put (λ n. None) 0 (Some (record { description = 0; rights = 0; fcntls = 0 })));
  };
}

narrowed_later : AsksAgain (stats_from 0) no_rights_left (event 0 0) → ⊥
unfolding ℕ_discrete held unless answer under_way FailsLate
narrowed_later asks = absurd ((asks _ _ _ refl refl refl refl).1)

-- The second descriptor of a rename has all rights.
abbrev moves : Syscall
moves = Renameat (Number 0) (codes "in") (Number 1) (codes "in")

abbrev at_two : List ℕ → List ℕ → ProcessState
at_two from to = record (new_process 0 false) { walk = Some (Two (begun 1 from Beneath Keep) (begun 1 to Beneath Keep)) }

all_there : (d : Descriptor) → Some (record { description = 1; rights = all_rights; fcntls = all_commands }) ≡ Some d
    → is_within (needs_of (called moves) no_request Second true) d.rights ≡ false → ⊥
all_there d refl is = absurd cc

removal_is_there : FailsLate (λ n. Some (record { description = n; rights = all_rights; fcntls = all_commands })) (at_two (codes "in") (codes "in")) moves (Fails ENOTCAPABLE MissingRight) → ⊥
unfolding FailsLate
removal_is_there late = all_there _ (late refl).1.2 (late refl).1.3

-- The second descriptor has no rights, but one of the paths has more than its last name left.
abbrev no_rights : ℕ → Option Descriptor
no_rights n = Some (record { description = n; rights = 0; fcntls = 0 })

old_path_is_left : FailsLate no_rights (at_two (codes "out/x") (codes "in")) moves (Fails ENOTCAPABLE MissingRight) → ⊥
unfolding FailsLate path_components
old_path_is_left late = let clash : false ≡ true = (late refl).1.0.0 in absurd cc

new_path_is_left : FailsLate no_rights (at_two (codes "in") (codes "out/x")) moves (Fails ENOTCAPABLE MissingRight) → ⊥
unfolding FailsLate path_components
new_path_is_left late = let clash : false ≡ true = (late refl).1.0.1 in absurd cc

-- A process does a deed, and then another one's call asks of a number that is closed.
abbrev deed_world : World
deed_world = record walking_world {
  files = record walking_world.files { table = λ p n. None };
  processes = record (new_process 0 true) { marked = true } ∷ record (new_process 1 false) { walk = Some (One (begun 1 (codes "in") Beneath Follow)) } ∷ [];
}

abbrev goes_nowhere : Deed
goes_nowhere = record { instruction = Jmp 0; registers = replicate 8 0; point = 0 }

abbrev numbers : Choice
numbers = record { first = 100; second = 101; pair = 1 }

are_fresh : IsFresh deed_world.files numbers
unfolding any_below
are_fresh = record {
  first = record { entries = λ p n. tt; messages = λ pair side. tt };
  second = record { entries = λ p n. tt; messages = λ pair side. tt };
  apart = λ same. absurd (omega (arith, same));
  pair = record { closed = λ side. refl; empty = λ side. refl };
}

is_deed : IsAct (stats_from 5) deed_world 0 (Does goes_nowhere)
is_deed = λ hostile. record { paths = tt; placed = tt; eight = refl; small = zeros }
  where
    zeros : (r : ℕ) → FitsRegister (slice_get (replicate 8 0) r)
    zeros zero = omega arith
    zeros (suc zero) = omega arith
    zeros (suc (suc zero)) = omega arith
    zeros (suc (suc (suc zero))) = omega arith
    zeros (suc (suc (suc (suc zero)))) = omega arith
    zeros (suc (suc (suc (suc (suc zero))))) = omega arith
    zeros (suc (suc (suc (suc (suc (suc zero)))))) = omega arith
    zeros (suc (suc (suc (suc (suc (suc (suc zero))))))) = omega arith
    zeros (suc (suc (suc (suc (suc (suc (suc (suc r)))))))) = tt

closed_after_a_deed : AskAgain (stats_from 5) deed_world ((event 0 0, Does goes_nowhere) ∷ (event 1 0, Own) ∷ []) → ⊥
unfolding ℕ_discrete held answer under_way FailsLate executed stepped_at stepped_by stepped step
closed_after_a_deed again = other_cause (((again.1 numbers are_fresh (omega arith) is_deed).0 _ _ _ refl refl refl refl).0)

-- The world in which a process is about to do a deed isn't one between two steps.
about_to_do_is_not_between : IsBetweenSteps (stats_from 5) (about deed_world 0 (Does goes_nowhere)) → ⊥
about_to_do_is_not_between between = is_kept (between.begun 0 refl)
  where
    is_kept : Some goes_nowhere ≡ None → ⊥
    is_kept is = absurd cc
