-- A well-formed world: one process, the root alone, a pair, and a message.
use Rattle.std.proofs.Common.{◌≡◌, ℕ, zero, suc, ◌<◌, ◌≤◌, true, false, List, [], ◌∷◌, refl, length, arith}
use Rattle.std.specs.Prelude.{Option, Some, None}
use Rattle.std.specs.List.{slice_get}
use Rattle.rights.specs.Sets.{all_rights, all_commands}
use Rattle.rights.proofs.Subsets.{is_within-refl}
use Rattle.file_tree.specs.Refusals.{new_tree}
use Rattle.file_tree.proofs.NewTree.{new_is_tree}
use Rattle.process.specs.State.{new_process}
use Rattle.instruction_set.specs.Programs.{Halt}
use Rattle.fd_table.specs.Descriptions.{Initial, Object, At_node, At_end, Descriptor, Message, new_state, descriptor_of, IfHeld}
use Rattle.kernel.specs.World.{World}
use Rattle.kernel.specs.Steps.{Programs}
use Rattle.kernel.specs.WellFormed.{Numbering, IsBegun, IsDescriptor, EachMessage, FitsRegister, IsProcessIfMade, HasNone}
use Rattle.kernel.specs.Walks.{IsWalkerIfMade}
use Rattle.kernel.specs.Runs.{WellFormedWorldExists}
use Rattle.kernel.proofs.KeptWalks.{no_walker}

objects : ℕ → Object
objects zero = At_node 0 (record { readable = true; writable = false })
objects (suc zero) = At_end 0 0 (Initial 0)
objects (suc (suc n)) = At_end 0 1 (Initial 0)

-- at 0 the root, at 1 and 2 the two ends
row : ℕ → Option Descriptor
row zero = Some (descriptor_of 0 all_rights all_commands)
row (suc zero) = Some (descriptor_of 1 all_rights all_commands)
row (suc (suc zero)) = Some (descriptor_of 2 all_rights all_commands)
row (suc (suc (suc n))) = None

table : ℕ → ℕ → Option Descriptor
table zero = row
table (suc p) = λ n. None

-- one message, with the root
queue : ℕ → ℕ → List Message
queue zero zero = record { byte = 7; passed = Some (descriptor_of 0 all_rights all_commands) } ∷ []
queue zero (suc side) = []
queue (suc pair) side = []

first : World
first = record {
  tree = new_tree;
  files = record { objects = objects; states = λ n. new_state false; queue = queue; pairs = 1; table = table };
  processes = new_process 0 false ∷ [];
}

numbering : Numbering
numbering = record { descriptions = 3; pairs = 1; holder = λ pair side. suc side; class = λ pair. Initial 0 }

abbrev Good : Descriptor → Type 0
Good = IsDescriptor new_tree numbering objects (λ n. new_state false)

good_root : Good (descriptor_of 0 all_rights all_commands)
unfolding numbering objects
good_root = record { number = omega arith; rights = is_within-refl all_rights; fcntls = is_within-refl all_commands; object = refl; offset = omega arith }

good_end : (side : ℕ) → side < 2 → Good (descriptor_of (suc side) all_rights all_commands)
unfolding numbering objects
good_end zero low = record { number = omega arith; rights = is_within-refl all_rights; fcntls = is_within-refl all_commands; object = (omega arith, omega arith, refl, refl); offset = omega arith }
good_end (suc zero) low = record {
  number = omega arith;
  rights = is_within-refl all_rights;
  fcntls = is_within-refl all_commands;
  object =
      (omega arith, omega arith, refl, refl);
  offset = omega arith;
}
good_end (suc (suc side)) low = absurd (omega arith)

entries : (p n : ℕ) → IfHeld Good (table p n)
unfolding table row
entries zero zero = good_root
entries zero (suc zero) = good_end 0 (omega arith)
entries zero (suc (suc zero)) = good_end 1 (omega arith)
entries zero (suc (suc (suc n))) = tt
entries (suc p) n = tt

numbers : (p n : ℕ) → 16 ≤ n → table p n ≡ None
unfolding table row
numbers zero zero far = absurd (omega arith)
numbers zero (suc zero) far = absurd (omega arith)
numbers zero (suc (suc zero)) far = absurd (omega arith)
numbers zero (suc (suc (suc n))) far = refl
numbers (suc p) n far = refl

messages : (pair side : ℕ) → EachMessage Good (queue pair side)
unfolding queue
messages zero zero = (omega arith, good_root, tt)
messages zero (suc side) = tt
messages (suc pair) side = tt

short : (pair side : ℕ) → length (queue pair side) ≤ 16
unfolding queue
short zero zero = omega arith
short zero (suc side) = omega arith
short (suc pair) side = omega arith

idle : (pair side : ℕ) → 1 ≤ pair → queue pair side ≡ []
unfolding queue
idle zero side far = absurd (omega arith)
idle (suc pair) side far = refl

sides : (pair side : ℕ) → 2 ≤ side → queue pair side ≡ []
unfolding queue
sides zero zero far = absurd (omega arith)
sides zero (suc side) far = refl
sides (suc pair) side far = refl

programs : Programs
programs n = Halt ∷ []

made : (p : ℕ) → IsProcessIfMade programs (slice_get (new_process 0 false ∷ []) p)
unfolding programs
made zero = record { placed = tt; eight = refl; small = small; kept = tt }
  where
    small : (r : ℕ) → FitsRegister (slice_get (new_process 0 false).registers r)
    small zero = omega arith
    small (suc zero) = omega arith
    small (suc (suc zero)) = omega arith
    small (suc (suc (suc zero))) = omega arith
    small (suc (suc (suc (suc zero)))) = omega arith
    small (suc (suc (suc (suc (suc zero))))) = omega arith
    small (suc (suc (suc (suc (suc (suc zero)))))) = omega arith
    small (suc (suc (suc (suc (suc (suc (suc zero))))))) = omega arith
    small (suc (suc (suc (suc (suc (suc (suc (suc r)))))))) = tt
made (suc p) = tt

gone : (p : ℕ) → HasNone (slice_get (new_process 0 false ∷ []) p) (table p)
unfolding table
gone zero = λ ended n. absurd cc
gone (suc p) = λ n. refl

walks : (p : ℕ) → IsWalkerIfMade programs new_tree objects (table p) (slice_get (new_process 0 false ∷ []) p)
walks zero = no_walker programs new_tree objects (table zero) (new_process 0 false) refl
walks (suc p) = tt

begun : (p : ℕ) → IsBegun (slice_get (new_process 0 false ∷ []) p)
begun zero = λ walk. refl
begun (suc p) = tt

pub first_world : WellFormedWorldExists
unfolding first programs table row queue objects
first_world = (
  programs,
  (λ n. refl),
  first,
  record {
    formed = record {
      numbering = numbering;
      world = record {
        tree = new_is_tree;
        some = omega arith;
        few = omega arith;
        processes = made;
        entries = entries;
        numbers = numbers;
        gone = gone;
        messages = messages;
        short = short;
        idle = idle;
        sides = sides;
      };
      walks = walks;
    };
    begun = begun;
  },
  record { directory = refl; first_end = (refl, refl); second_end = (refl, refl); under_way = refl },
)
