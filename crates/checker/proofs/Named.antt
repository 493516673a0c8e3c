-- The programs of a valid plan have names.
use Rattle.std.proofs.Common.{◌≡◌, ◌<◌, ◌≤◌, ◌⊎◌, ℕ, ap, false, inl, inr, refl, true}
use Rattle.std.specs.Prelude.{◌&&◌, length, nat_le, Option, Some, None}
use Rattle.std.specs.List.{list_all, slice_get}
use Rattle.std.proofs.lemmas.Option.{slice_get_past}
use Rattle.kernel.proofs.Fresh.{lt_or_le}
use Rattle.rights.specs.Limits.{most_programs}
use Rattle.rights.proofs.Lists.{list_all-slice_get}
use Rattle.rights.proofs.Tests.{both_left, both_right}
use Rattle.texts.specs.Names.{is_name}
use Rattle.instruction_set.specs.Programs.{is_program}
use Rattle.task.specs.Plans.{NamedProgram, Plan, code_in, name_in, program_name}
use Rattle.task.specs.Limits.{has_valid_parts, is_in_language, is_tree, are_grants, is_program_named, are_named_apart, all_apart, are_programs, are_starts, is_plan}
use Rattle.rules.specs.Points.{instruction_at}

programs_named : (plan : Plan) → is_plan plan ≡ true → list_all is_program_named plan.programs ≡ true
programs_named plan valid =
    let before = is_tree plan.nodes && are_grants plan.nodes plan.grants in
    let programs = are_programs plan.programs in
    let parts = both_left (has_valid_parts plan) (list_all (is_in_language plan.wide) plan.programs) valid in
    let are : programs ≡ true =
    both_right before programs (both_left (before && programs) (are_starts plan.nodes (length plan.programs) plan.starts) parts) in
    let few = nat_le (length plan.programs) most_programs in
    let each = list_all is_program_named plan.programs in
    both_right few each (both_left (few && each) (all_apart are_named_apart plan.programs) are)

none_there : (plan : Plan) (program point : ℕ) (o : Option NamedProgram) → slice_get plan.programs program ≡ o → list_all is_program_named plan.programs ≡ true
    → is_name (name_in o) ≡ false → slice_get (code_in o) point ≡ None
none_there plan program point None is named unnamed = refl
none_there plan program point (Some p) is named unnamed =
    let here : is_name p.name ≡ true = both_left (is_name p.name) (is_program p.code) (list_all-slice_get is_program_named plan.programs program p named is) in
    absurd cc

-- where one has no name, it isn't there, and has no instructions
pub unnamed_empty : (plan : Plan) (program point : ℕ) → is_plan plan ≡ true → is_name (program_name plan program) ≡ false → instruction_at plan program point ≡ None
unnamed_empty plan program point valid unnamed =
    none_there plan program point (slice_get plan.programs program) refl (programs_named plan valid) unnamed

-- and where one has a name, it is there
pub named_there : (plan : Plan) (program : ℕ) → is_name (program_name plan program) ≡ true → program < length plan.programs
named_there plan program named = go (lt_or_le program (length plan.programs))
  where
    go : (program < length plan.programs) ⊎ (length plan.programs ≤ program) → program < length plan.programs
    go (inl below) = below
    go (inr past) = let unnamed = ap (λ o. is_name (name_in o)) (slice_get_past plan.programs program past) in absurd cc
