-- What the probes of marked programs find, by computation.
use Rattle.std.proofs.Common.{refl}
use Rattle.certificate.specs.Bounds.{bound_in}
use Rattle.task.specs.Policies.{grant_named}
use Rattle.rules.specs.Slots.{slots_in, free_numbers}
use Rattle.rules.specs.Uses.{uses}
use Rattle.rules.specs.Channels.{channel_at}
use Rattle.rules.specs.Outcomes.{successes, successes_in, error_outcomes}
use Rattle.rules.specs.Authority.{authority_in, ceiling_in}
use Rattle.rules.specs.Rules.{tests, tests_without, authority_tests, mark_tests}
use Rattle.rules.specs.Verdicts.{found_with, found_at, first_found}
use Rattle.rules.specs.MarkedRefusals.{EachMarkRuleIsBroken, EachMarkRuleIsKept, LeastMarkRuleIsTold}

pub each_mark_is_broken : EachMarkRuleIsBroken
unfolding first_found found_at found_with tests tests_without mark_tests authority_tests bound_in grant_named slots_in free_numbers uses
    channel_at successes successes_in error_outcomes authority_in ceiling_in
each_mark_is_broken = record {
  k1 = refl;
  k16 = refl;
  k17 = refl;
  k18_entered = refl;
  k18_started = refl;
  k18_end = refl;
  k19 = refl;
  k19_no_grant = refl;
  k20 = refl;
  k21 = refl;
  k21_no_line = refl;
  k22 = refl;
}

pub each_mark_is_kept : EachMarkRuleIsKept
unfolding first_found found_at found_with tests tests_without mark_tests authority_tests bound_in grant_named slots_in free_numbers uses
    channel_at successes successes_in error_outcomes authority_in ceiling_in
each_mark_is_kept = record {
  k1_k16 = refl;
  k17 = refl;
  k2_k16 = refl;
  k18_entered = refl;
  k18_started = refl;
  k18_end = refl;
  k19_no_operation = refl;
  k20 = refl;
  k21_k22 = refl;
}

pub least_mark_is_told : LeastMarkRuleIsTold
unfolding first_found found_at found_with tests tests_without mark_tests authority_tests bound_in grant_named slots_in free_numbers uses
    channel_at successes successes_in error_outcomes authority_in ceiling_in
least_mark_is_told = record {
  k16_k17 = refl;
  k16_k19 = refl;
  k17_k18 = refl;
  k18_k19 = refl;
  k19_k20 = refl;
  k20_k21 = refl;
  k21_k22 = refl;
  both_wide = refl;
  both_none = refl;
}
