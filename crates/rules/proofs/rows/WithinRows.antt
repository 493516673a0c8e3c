-- What isn't within an authority.
use Rattle.std.proofs.Common.{◌≡◌, Bool, [], ◌∷◌, refl, lit<, false, true}
use Rattle.std.specs.Prelude.{bit_or}
use Rattle.rights.specs.Sets.{is_within, write_right}
use Rattle.std.proofs.Math.Decide.{ℕ_discrete}
use Rattle.file_tree.specs.Places.{is_file_name}
use Rattle.file_tree.specs.WellFormed.{is_within_limits}
use Rattle.kernel.specs.Calls.{answer}
use Rattle.kernel.specs.Changes.{files_after, changed}
use Rattle.kernel.specs.Hostile.{Own}
use Rattle.kernel.specs.Steps.{answered, executed, stepped_at, stepped_by, stepped, step}
use Rattle.kernel.proofs.Hostile.{next_world_as_well}
use Rattle.task.specs.Begins.{first_files, first_world}
use Rattle.task.specs.Plans.{programs_of_plan}
use Rattle.task.specs.Policies.{grant_named}
use Rattle.task.proofs.FirstWorlds.{first_well_formed}
use Rattle.rules.specs.Authority.{authority_in, ceiling_in, unsaid}
use Rattle.rules.specs.MarkedRefusals.{WithinRefuses, carrying, first_event, no_authority}
use Rattle.rules.specs.Within.{StayWithin}

never : false ≡ true → ⊥
never is = absurd cc

carried_in : StayWithin carrying no_authority (first_world carrying) ((first_event, Own) ∷ []) → ⊥
unfolding is_within_limits is_file_name ℕ_discrete answer files_after changed answered executed stepped_at stepped_by stepped step first_world first_files
    authority_in ceiling_in
carried_in stays =
    let formed = first_well_formed carrying refl in
    let next = next_world_as_well (programs_of_plan carrying) (first_world carrying) first_event Own formed.0 formed.1 (lit< tt) tt in
    let within = stays.1 next.some.0 next.some.1 (lit< tt) tt in
    never (within 0 _ refl refl refl refl 0).below

above : (wide : Bool) → is_within write_right (bit_or 0 (unsaid wide)) ≡ true → ⊥
above true is = never is
above false is = never is

pub within_refuses : WithinRefuses
unfolding ceiling_in grant_named
within_refuses = record {
  above_the_ceiling = λ wide grants place is. above wide is.below;
  further_above_it = λ grants place is. never is.below;
  in_no_grant = λ wide a place is. never is.holds;
  unlisted_end = λ wide is. never is;
  end_of_another = λ wide is. absurd cc;
  carried_in = carried_in;
}
