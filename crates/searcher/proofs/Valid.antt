-- What is so of the first processes of a valid plan.
use Rattle.std.proofs.Common.{◌≡◌, true}
use Rattle.std.specs.Prelude.{◌&&◌, length, nat_le}
use Rattle.std.specs.List.{list_all}
use Rattle.rights.specs.Limits.{most_processes, most_programs}
use Rattle.rights.proofs.Tests.{both_left, both_right}
use Rattle.task.specs.Plans.{Plan}
use Rattle.task.specs.Limits.{has_valid_parts, is_in_language, is_tree, are_grants, is_program_named, are_named_apart, all_apart, is_start, are_programs, are_starts, is_plan}

pub parts_valid : (plan : Plan) → is_plan plan ≡ true → has_valid_parts plan ≡ true
parts_valid plan valid = both_left (has_valid_parts plan) (list_all (is_in_language plan.wide) plan.programs) valid

pub starts_valid : (plan : Plan) → is_plan plan ≡ true → list_all (is_start plan.nodes (length plan.programs)) plan.starts ≡ true
starts_valid plan valid =
    let before = is_tree plan.nodes && are_grants plan.nodes plan.grants && are_programs plan.programs in
    let starts = are_starts plan.nodes (length plan.programs) plan.starts in
    let few = nat_le 1 (length plan.starts) && nat_le (length plan.starts) most_processes in
    both_right few (list_all (is_start plan.nodes (length plan.programs)) plan.starts) (both_right before starts (parts_valid plan valid))

pub programs_named : (plan : Plan) → is_plan plan ≡ true → list_all is_program_named plan.programs ≡ true
programs_named plan valid =
    let before = is_tree plan.nodes && are_grants plan.nodes plan.grants in
    let programs = are_programs plan.programs in
    let are : programs ≡ true =
    both_right before programs (both_left (before && programs) (are_starts plan.nodes (length plan.programs) plan.starts) (parts_valid plan valid)) in
    let few = nat_le (length plan.programs) most_programs in
    let each = list_all is_program_named plan.programs in
    both_right few each (both_left (few && each) (all_apart are_named_apart plan.programs) are)
