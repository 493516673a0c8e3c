-- A task starts in a well-formed world.
use Rattle.std.proofs.Common.{◌≡◌, ℕ, zero, suc, ◌<◌, ◌≤◌, ◌^◌, true, List, [], ◌∷◌, refl, arith, length, map, replicate}
use Rattle.std.specs.Prelude.{◌&&◌, nat_le, Option, None}
use Rattle.std.specs.List.{slice_get, list_all}
use Rattle.std.proofs.lemmas.Bool.{ltb-true, leb-true}
use Rattle.std.proofs.Math.ListN.{length-map}
use Rattle.rights.proofs.Tests.{both_left, both_right}
use Rattle.texts.specs.Names.{is_name}
use Rattle.instruction_set.specs.Programs.{Instruction, is_program, is_instruction, ends_well}
use Rattle.fd_table.specs.Descriptions.{Descriptor}
use Rattle.rights.specs.Limits.{most_processes, most_programs}
use Rattle.fd_table.specs.Descriptions.{Object}
use Rattle.file_tree.specs.Nodes.{Node}
use Rattle.kernel.specs.Walks.{IsWalkerIfMade}
use Rattle.kernel.specs.WellFormed.{IsBegun, IsCode, IsPoint, IsProcessIfMade, HasNone, FitsRegister, IsWorld}
use Rattle.task.specs.Plans.{NamedProgram, Start, Plan, code_in, programs_of_plan}
use Rattle.task.specs.Limits.{are_grants, is_program_named, are_named_apart, all_apart, are_programs, are_descriptors, is_start, are_starts, is_tree, has_valid_parts, is_in_language, is_plan}
use Rattle.task.specs.Begins.{first_files, first_process, first_world}
use Rattle.task.specs.Laws.{FirstWorldsAreWellFormed}
use Rattle.task.proofs.FirstTrees.{tested_tree}
use Rattle.task.proofs.Openings.{numbering_of, good_entry, no_entry, not_made}

-- what the test of a plan says
pub record Checked (plan : Plan) : Type 0 where
  pub tree : is_tree plan.nodes ≡ true
  pub grants : are_grants plan.nodes plan.grants ≡ true
  pub programs : are_programs plan.programs ≡ true
  pub some : 1 ≤ length plan.starts
  pub few : length plan.starts ≤ most_processes
  pub starts : list_all (is_start plan.nodes (length plan.programs)) plan.starts ≡ true
  pub spoken : list_all (is_in_language plan.wide) plan.programs ≡ true

pub checked : (plan : Plan) → is_plan plan ≡ true → Checked plan
checked plan good =
    let parts = both_left (has_valid_parts plan) (list_all (is_in_language plan.wide) plan.programs) good in
    let three = both_left _ (are_starts plan.nodes (length plan.programs) plan.starts) parts in
    let two = both_left _ (are_programs plan.programs) three in
    let first = both_right (is_tree plan.nodes && are_grants plan.nodes plan.grants && are_programs plan.programs) _ parts in
    let count = both_left _ (list_all (is_start plan.nodes (length plan.programs)) plan.starts) first in
    record {
      tree = both_left _ (are_grants plan.nodes plan.grants) two;
      grants = both_right (is_tree plan.nodes) _ two;
      programs = both_right (is_tree plan.nodes && are_grants plan.nodes plan.grants) _ three;
      some = leb-true _ _ (both_left _ (nat_le (length plan.starts) most_processes) count);
      few = leb-true _ _ (both_right (nat_le 1 (length plan.starts)) _ count);
      starts = both_right (nat_le 1 (length plan.starts) && nat_le (length plan.starts) most_processes) _ first;
      spoken = both_right (has_valid_parts plan) _ good;
    }

-- the programs of a task
whole_code : (code : List Instruction) → is_program code ≡ true → IsCode code
whole_code [] good = tt
whole_code (i ∷ code) good = good

valid_code : (programs : List NamedProgram) (n : ℕ) → list_all is_program_named programs ≡ true → IsCode (code_in (slice_get programs n))
valid_code [] n good = tt
valid_code (p ∷ programs) zero good = whole_code p.code (both_right (is_name p.name) _ (both_left _ (list_all is_program_named programs) good))
valid_code (p ∷ programs) (suc n) good = valid_code programs n (both_right (is_program_named p) _ good)

pub named_programs : (programs : List NamedProgram) → are_programs programs ≡ true → list_all is_program_named programs ≡ true
named_programs programs good =
    both_right (nat_le (length programs) most_programs) _ (both_left _ (all_apart are_named_apart programs) good)

has_point : (code : List Instruction) → is_program code ≡ true → IsPoint (slice_get code 0)
has_point code good = go code (both_right (nat_le (length code) 256 && list_all (is_instruction (length code)) code) _ good)
  where
    go : (code : List Instruction) → ends_well code ≡ true → IsPoint (slice_get code 0)
    go [] ends = absurd cc
    go (i ∷ code) ends = tt

starts_at_point : (programs : List NamedProgram) (n : ℕ) → list_all is_program_named programs ≡ true → n < length programs → IsPoint (slice_get (code_in (slice_get programs n)) 0)
starts_at_point [] n good below = absurd (omega arith)
starts_at_point (p ∷ programs) zero good below = has_point p.code (both_right (is_name p.name) _ (both_left _ (list_all is_program_named programs) good))
starts_at_point (p ∷ programs) (suc n) good below = starts_at_point programs n (both_right (is_program_named p) _ good) (omega arith)

-- first processes
pub zeros : (n r : ℕ) → FitsRegister (slice_get (replicate n 0) r)
zeros zero r = tt
zeros (suc n) zero = lit
  where
    lit : 0 < 2 ^ 32
    lit = omega arith
zeros (suc n) (suc r) = zeros n r

first_made : (plan : Plan) → list_all is_program_named plan.programs ≡ true → (starts : List Start) →
    list_all (is_start plan.nodes (length plan.programs)) starts ≡ true → (p : ℕ) →
    IsProcessIfMade (programs_of_plan plan) (slice_get (map (first_process plan.programs) starts) p)
first_made plan valid [] good p = tt
first_made plan valid (s ∷ starts) good zero =
    let start : is_start plan.nodes (length plan.programs) s ≡ true = both_left _ (list_all (is_start plan.nodes (length plan.programs)) starts) good in
    let below : s.program < length plan.programs = ltb-true _ _ (both_left _ (are_descriptors plan.nodes s.descriptors) start) in
    record {
      placed = starts_at_point plan.programs s.program valid below;
      eight = refl;
      small = zeros 8;
      kept = tt;
    }
first_made plan valid (s ∷ starts) good (suc p) =
    first_made plan valid starts (both_right (is_start plan.nodes (length plan.programs) s) _ good) p

-- a first process lives, and where none was made there are no entries
none_gone : (plan : Plan) (starts : List Start) (p : ℕ) {row : ℕ → Option Descriptor} → (length starts ≤ p → (n : ℕ) → row n ≡ None) → HasNone
    (slice_get (map (first_process plan.programs) starts) p) row
none_gone plan [] p none = none (omega arith)
none_gone plan (s ∷ starts) zero none = λ ended. absurd cc
none_gone plan (s ∷ starts) (suc p) none = none_gone plan starts p (λ far. none (omega (arith, far)))

first_is_world : (plan : Plan) → Checked plan → IsWorld (programs_of_plan plan) (numbering_of plan.starts) (first_world plan)
unfolding first_world first_files
first_is_world plan facts =
    let same : length (map (first_process plan.programs) plan.starts) ≡ length plan.starts = length-map plan.starts (first_process plan.programs) in
    let some : 1 ≤ length plan.starts = facts.some in
    let few : length plan.starts ≤ most_processes = facts.few in
    record {
      tree = tested_tree plan.nodes facts.tree;
      some = omega arith;
      few = omega arith;
      processes = first_made plan (named_programs plan.programs facts.programs) plan.starts facts.starts;
      entries = λ p n. good_entry plan.nodes (length plan.programs) plan.starts p n facts.starts;
      numbers = λ p n far. no_entry plan.nodes (length plan.programs) plan.starts p n facts.starts far;
      gone = λ p. none_gone plan plan.starts p (λ far n. not_made plan.starts p n far);
      messages = λ pair side. tt;
      short = λ pair side. omega arith;
      idle = λ pair side far. refl;
      sides = λ pair side far. refl;
    }

-- nothing is under way
pub none_walks : (plan : Plan) (tree : List Node) (objects : ℕ → Object) (row : ℕ → Option Descriptor) (starts : List Start) (p : ℕ) →
    IsWalkerIfMade (programs_of_plan plan) tree objects row (slice_get (map (first_process plan.programs) starts) p)
none_walks plan tree objects row [] p = tt
none_walks plan tree objects row (s ∷ starts) zero = record { lives = λ ended. refl; fits = tt }
none_walks plan tree objects row (s ∷ starts) (suc p) = none_walks plan tree objects row starts p

-- and no deed is to be done
none_begun : (plan : Plan) (starts : List Start) (p : ℕ) → IsBegun (slice_get (map (first_process plan.programs) starts) p)
none_begun plan [] p = tt
none_begun plan (s ∷ starts) zero = λ walk. refl
none_begun plan (s ∷ starts) (suc p) = none_begun plan starts p

pub first_well_formed : FirstWorldsAreWellFormed
unfolding first_world
first_well_formed plan good =
    let facts = checked plan good in (
      (λ n. valid_code plan.programs n (named_programs plan.programs facts.programs)),
      record {
        formed = record {
          numbering = numbering_of plan.starts;
          world = first_is_world plan facts;
          walks = λ p. none_walks plan (first_world plan).tree (first_world plan).files.objects ((first_world plan).files.table p) plan.starts p;
        };
        begun = λ p. none_begun plan plan.starts p;
      },
    )
